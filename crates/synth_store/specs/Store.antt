-- What stands in the store, an element for each type.
use Rattle.std.specs.Prelude.{List, [], map, ◌≡◌, ℕ, ◌<◌, get_or, length, replicate}
use Rattle.std.proofs.Common.{arith, refl}
use Rattle.rows.specs.declared.Row.{Row}
use Rattle.rows.specs.Rows.{empty}
use Rattle.bounded.specs.declared.UpTo.{UpTo}
use Rattle.bounded.specs.Items.{items_of}
use Rattle.synth_dedup.specs.Entries.{Entries, entries_of}
use Rattle.synth_dedup.specs.declared.Entry.{Entry}
use Rattle.synth_dedup.specs.declared.inherited.Inherited.{Inherited}
use Rattle.synth_dedup.specs.Entries.{nil}
use Rattle.synth_dedup.specs.Keeping.{table_of}
use Rattle.synth_store.specs.Saving.{entries_in, Fit}
use Rattle.synth_store.specs.declared.Saved.{Saved}

-- what a read past the end gives
abbrev none : UpTo Row 200
none = record { count = 0; items = replicate 200 empty; few = omega arith; long = refl }

pub none-fit : Fit none []
none-fit = record { apart = nil; full = refl; clean = λ w l c. refl }

abbrev pub nothing : Saved
nothing = record { words = none; doms = []; fit = none-fit }

-- the words of the entries
abbrev pub words_of : Entries → List Row
words_of l = map (λ (e : Entry). e.words) (entries_of l)

-- these are the dom sets
abbrev pub DomsAt : List Row → List Row → Type 0
DomsAt rs ds = (w : ℕ) → w < 200 → table_of rs w ≡ table_of ds w

-- the list h is kept there
pub record Holds (s : Saved) (h : Inherited) : Type 0 where
  pub entries : items_of s.words ≡ words_of h.list
  pub doms : DomsAt s.doms h.doms

-- in r the list h is kept at the place of the type t, and all else is as in s
pub record Stores (s : List Saved) (t : ℕ) (h : Inherited) (r : List Saved) : Type 0 where
  pub holds : Holds (get_or r t nothing) h
  pub others : (u : ℕ) → (u ≡ t → ⊥) → get_or r u nothing ≡ get_or s u nothing
  pub long : length r ≡ length s

-- r is what is kept there, without parents
pub record Fetched (s : Saved) (r : Inherited) : Type 0 where
  pub entries : entries_of r.list ≡ entries_in s.words
  pub doms : DomsAt s.doms r.doms
