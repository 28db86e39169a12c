-- What a list of entries meets, and the dom sets beside it.
use Rattle.std.specs.Prelude.{false, List, ◌≡◌, ℕ, ◌<◌, ◌≤◌, get_or, length, drop}
use Rattle.rows.specs.declared.Row.{Row}
use Rattle.rows.specs.Rows.{empty}
use Rattle.synth_dedup.specs.declared.Entry.{Entry}
use Rattle.synth_dedup.specs.Entries.{Entries, entries_of, covers, Apart, Full}

-- a table of dom sets by word
abbrev pub table_of : List Row → ℕ → Row
table_of ds w = get_or ds w empty

-- words that no entry has, have no doms
abbrev pub Clean : (ℕ → Row) → List Entry → Type 0
Clean D l = (w : ℕ) → w < 200 → covers l w ≡ false → D w ≡ empty

-- what a list of entries meets: it fits, each is an Associate, no two share a word, and but for the first each has a word
pub record Kept (l : Entries) : Type 0 where
  pub room : l.count ≤ 200
  pub apart : Apart (entries_of l)
  pub full : Full (drop 1 (entries_of l))

-- the entries are within the array, and no dom set stands at a word that none has
pub record Good (l : Entries) (doms : List Row) : Type 0 where
  pub fits : l.count ≤ length l.items
  pub kept : Kept l
  pub clean : Clean (table_of doms) (entries_of l)
