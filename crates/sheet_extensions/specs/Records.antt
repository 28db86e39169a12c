-- The extension records that stand in a catalogue, and what the code's answers mean.
use Rattle.std.specs.Prelude.{Bool, List, ℕ, ◌/◌, ◌%◌, Result}
use Rattle.lists.specs.Tabulating.{tabulate}
use Rattle.definitions.specs.Parse.{Parsed}
use Rattle.definitions.specs.Records as records
use Rattle.bits.specs.declared.Cursor.{Cursor}
use Rattle.fields.specs.declared.Fault.{Fault}
use Rattle.fields.specs.Fields.{of_parsed}
use Rattle.sheet_keys.specs.Keys.{name_of_key, names_in}
use Rattle.catalogue.specs.declared.Catalogue.{Catalogue}
use Rattle.catalogue.specs.declared.Extension.{Extension}
use Rattle.catalogue.specs.Layout.{extension_at}

-- A record: its name and word out of its key, and the parents that it adds (FORMAT 2.10).
abbrev pub record_of : Extension → records.Extension
record_of x = record { name = name_of_key (x.key / 256); word = x.key % 256; parents = names_in x.parents x.count }

-- Record e.
unfoldable pub record_in : Catalogue → ℕ → records.Extension
record_in t e = record_of (extension_at t e)

-- The first n records.
unfoldable pub records_in : Catalogue → ℕ → List records.Extension
records_in t n = tabulate (record_in t) n

-- An answer as a parser's: the records are the first ones.
abbrev pub of_extensions_read : List Bool → Catalogue → Result (ℕ × Cursor) Fault → Parsed (List records.Extension)
of_extensions_read bs t = of_parsed (records_in t) bs
