-- A catalogue of two types: `base`, which owns the class `file`, and `file`; an extension record adds the parent `file` to
-- base.file. What the writer asks of a catalogue, of a type with a word and of cleared words is no empty demand, and this one has
-- two items: base.file and its extension line.
use Rattle.std.specs.Prelude.{true, ◌∷◌, ◌≡◌, refl, ℕ, zero, suc, ◌<◌, ◌≤◌, length, replicate}
use Rattle.std.proofs.Common.{arith}
use Rattle.lists.specs.Tests.{never}
use Rattle.lists.specs.Tabulating.{tabulate}
use Rattle.rows.specs.Rows.{has_bit}
use Rattle.rows.specs.RowLaws.{bit-none}
use Rattle.catalogue.specs.declared.Catalogue.{Catalogue}
use Rattle.catalogue.specs.Layout.{no_word, blank, key_at, word_at, extension_count_at}
use Rattle.catalogue.specs.Catalogue.{added_in}
use Rattle.bitsets.specs.Bitsets.{members}
use Rattle.item_making.specs.Making.{Recorded, added}
use Rattle.item_writer.specs.WriterLaws.{cleared}
use Rattle.item_writer.specs.Items.{Sound, added_for, Sited, Cleared, word_items, type_items, all_items}

-- words: `base` 0, `file` 1, `resource` 2
abbrev pub small : Catalogue
small = record blank {
  keys = 0 ∷ 256 ∷ replicate 62 0;
  heads = 0 ∷ 64 ∷ replicate 62 0;
  own = 2 ∷ replicate 63 0;
  words = record { word = 0; types = 1 } ∷ record { word = 1; types = 2 } ∷ replicate 62 no_word;
  extensions = record { key = 1; count = 1; parents = 256 ∷ replicate 7 0 } ∷ replicate 31 (record { key = 0; count = 0; parents = replicate 8 0 });
  firsts = 1 ∷ 2 ∷ replicate 254 0;
  seconds = 3 ∷ replicate 255 0;
  count = 2;
  word_count = 2;
  extension_count = 1;
  extended = 1;
  resource = 2;
  resources = 2;
  width = 3;
}

counts : (e : ℕ) → e < 1 → extension_count_at small e ≤ 8
counts zero h = omega arith
counts (suc e) h = absurd (omega arith)

keys : (a : ℕ) → a < 2 → key_at small a < 65536
keys zero h = omega arith
keys (suc zero) h = omega arith
keys (suc (suc a)) h = absurd (omega arith)

words : (k : ℕ) → k < 2 → word_at small k < 256
words zero h = omega arith
words (suc zero) h = omega arith
words (suc (suc k)) h = absurd (omega arith)

pub small-sound : Sound small
small-sound = record { types = omega arith; words = omega arith; records = omega arith; counts = counts; keys = keys; word = words }

-- record 0 is that of `base` and `file`
only-first : (e : ℕ) → has_bit 1 e ≡ true → e < 1
unfolding has_bit
only-first zero h = omega arith
only-first (suc e) h = never h (bit-none e)

recorded : Recorded small 1
recorded = record { place = λ e h. omega (arith, only-first e h); few = λ e h. counts e (only-first e h) }

pub small-sited : Sited small (record { place = 0; word = 1; records = 1 })
unfolding added added_for added_in members has_bit
small-sited = record { place = omega arith; records = record { recorded = recorded; added = refl } }

pub zeros-cleared : Cleared (replicate 64 0)
zeros-cleared = cleared 64

pub two_items : length (all_items small) ≡ 2
unfolding all_items type_items word_items members has_bit tabulate blank
two_items = refl
