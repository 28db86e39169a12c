-- What the answers of the code on marks mean, as the definitions' parsers give it.
use Rattle.std.specs.Prelude.{List, map}
use Rattle.bounded.specs.declared.UpTo.{UpTo}
use Rattle.bounded.specs.Items.{items_of}
use Rattle.definitions.specs.Records.{makelist_mark, derive_mark}
use Rattle.definitions.specs.Records as records
use Rattle.sheet_records.specs.declared.Mark.{Mark}
use Rattle.sheet_records.specs.declared.Mark.TheVariants.{Makelist, Derive}

abbrev pub mark_of : Mark → records.Mark
mark_of Makelist = makelist_mark
mark_of (Derive t) = derive_mark t

abbrev pub Marks : Type 0
Marks = UpTo Mark 7

unfoldable pub of_marks : Marks → List records.Mark
of_marks t = map mark_of (items_of t)
