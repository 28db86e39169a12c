-- What can be kept: rows of words that are those of entries which can be inherited.
use Rattle.std.specs.Prelude.{List, map, drop}
use Rattle.bounded.specs.declared.UpTo.{UpTo}
use Rattle.bounded.specs.Items.{items_of}
use Rattle.rows.specs.declared.Row.{Row}
use Rattle.sheet_records.specs.declared.Kind.TheVariants.{Associate}
use Rattle.synth_dedup.specs.declared.Entry.{Entry}
use Rattle.synth_dedup.specs.Entries.{Apart, Full}
use Rattle.synth_dedup.specs.Keeping.{table_of, Clean}

-- the entry with these words, as it is handed on
abbrev pub entry_of : Row → Entry
entry_of r = record { kind = Associate; words = r; parents = 0 }

-- those of the rows
abbrev pub entries_in : UpTo Row 200 → List Entry
entries_in rs = map entry_of (items_of rs)

pub record Fit (rs : UpTo Row 200) (ds : List Row) : Type 0 where
  pub apart : Apart (entries_in rs)
  pub full : Full (drop 1 (entries_in rs))
  pub clean : Clean (table_of ds) (entries_in rs)
