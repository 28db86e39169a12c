-- A small map and its draft: what is asked of a draft is no empty demand. The words are `resource` and `self`. The sheet lists the
-- domain resource.self, which associates `resource` and has it as parent, before the virtual resource `resource`, which has a mark.
use Rattle.std.specs.Prelude.{Bool, true, false, List, [], ◌∷◌, map, ◌≡◌, refl, ℕ, zero, suc, ◌%◌, ◌≤◌, ◌<◌, eqb, ltb, length, take, drop, replicate}
use mathlib.Core.List.Memᴰ
use Rattle.std.proofs.Common.{arith, ltb-true}
use Rattle.lists.specs.Lists.{In, all, insert, sort, include, set_of}
use Rattle.lists.specs.Tests.{all_in, cons-elim}
use Rattle.lists.specs.Tabulating.{tabulate}
use Rattle.definitions.specs.Records as records
use Rattle.definitions.specs.Bits.{odd, to_bits, bits_of}
use Rattle.definitions.specs.Parse.{field_onto, allowed, repeat_onto, counted}
use Rattle.definitions.specs.Reading.{word_field, word_if_flag, associated, associated_list, kinds, annotation, mark}
use Rattle.definitions.specs.Comparisons.{name_before, bytes_before, dot}
use Rattle.definitions.specs.Checks.{resource_bytes, self_bytes, bad_words, names_twice, keys_twice, words_twice, annotations_twice, same_annotation, something_twice}
use Rattle.law_lines.specs.Within.{WordWithin, WordsWithin, ResourceWithin, AnnotationWithin, TypeWithin, Within}
use Rattle.sheet_keys.specs.Keys.{name_of_key}
use Rattle.sheet_notes.specs.Notes.{notes}
use Rattle.sheet_draft.specs.Draft.{no_row, place_at, key_at, notes_at, type_in, types_in}
use Rattle.sheet_draft.specs.Drafted.{no_entry, entry_before, entries_of}
use Rattle.sheet_draft.specs.declared.Draft.{Draft}
use Rattle.sheet_draft.specs.declared.entry.Entry.{Entry}
use Rattle.item_notes.specs.Notes.{DoneAt}
use Rattle.item_draft.specs.Fill.{by_name, Drawn}

-- ---- the map

abbrev resource_alone : records.Resource
resource_alone = record { word = 0; dom = [] }

abbrev pair : records.TypeInfo
pair = record {
  name = 0 ∷ 1 ∷ [];
  variant = records.domain;
  virtual = false;
  trait = false;
  parents = (0 ∷ []) ∷ [];
  annotations = records.associate (resource_alone ∷ []) ∷ [];
  marks = [];
}

abbrev single : records.TypeInfo
single = record { name = 0 ∷ []; variant = records.resource; virtual = true; trait = false; parents = []; annotations = []; marks = records.makelist_mark ∷ [] }

abbrev pub small : records.Sheet
small = record { words = resource_bytes ∷ self_bytes ∷ []; types = pair ∷ single ∷ []; extensions = [] }

-- ---- its draft

-- the annotations and marks of both, one behind the other: 4 bytes
abbrev pub small_bytes : List ℕ
small_bytes = 18 ∷ 32 ∷ 0 ∷ 4 ∷ []

abbrev pub small_bits : List Bool
small_bits = bits_of small_bytes

-- row 0 has the name of two words, row 1 that of one
abbrev pub small_draft : Draft
small_draft = record { rows = record no_row { key = 2; head = 1 } ∷ record no_row { head = 96; place = 23 } ∷ replicate 62 no_row }

-- by name, row 1 comes first
abbrev pub small_entries : List Entry
small_entries = record { key = 0; row = 1 } ∷ record { key = 2; row = 0 } ∷ replicate 62 no_entry

-- ---- that it holds

one-word : WordsWithin 2 1 2 (0 ∷ [])
one-word = record { least = omega arith; most = omega arith; below = λ x i. cons-elim i (λ e. rw e (omega arith)) (λ j. absurd (Memᴰ.not-nil j)) }

two-words : WordsWithin 2 1 2 (0 ∷ 1 ∷ [])
two-words =
    record {
      least = omega arith;
      most = omega arith;
      below = λ x i. cons-elim i (λ e. rw e (omega arith)) (λ j. cons-elim j (λ e. rw e (omega arith)) (λ k. absurd (Memᴰ.not-nil k)));
    }

pair-within : TypeWithin 2 pair
pair-within = record {
  name = two-words;
  parents = omega arith;
  parent = λ n i. cons-elim i (λ e. rw e one-word) (λ j. absurd (Memᴰ.not-nil j));
  annotations = omega arith;
  annotation = λ a i. cons-elim i (λ e. rw e associates) (λ j. absurd (Memᴰ.not-nil j));
  marks = omega arith;
  mark = λ k i. absurd (Memᴰ.not-nil i);
}
  where
    alone : ResourceWithin 2 resource_alone
    alone = record { word = omega arith; dom = record { least = omega arith; most = omega arith; below = λ w i. absurd (Memᴰ.not-nil i) } }

    associates : AnnotationWithin 2 (records.associate (resource_alone ∷ []))
    associates = record { resources = omega arith; resource = λ u i. cons-elim i (λ e. rw e alone) (λ j. absurd (Memᴰ.not-nil j)) }

single-within : TypeWithin 2 single
single-within = record {
  name = one-word;
  parents = omega arith;
  parent = λ n i. absurd (Memᴰ.not-nil i);
  annotations = omega arith;
  annotation = λ a i. absurd (Memᴰ.not-nil i);
  marks = omega arith;
  mark = λ k i. cons-elim i (λ e. rw e tt) (λ j. absurd (Memᴰ.not-nil j));
}

word-within : (w : List ℕ) → all (ltb dot) w ≡ true → 1 ≤ length w → WordWithin w
word-within w e h =
    let over : (b : ℕ) → In b w → dot < b = λ b i. ltb-true dot b (all_in (ltb dot) e i) in
    record { filled = h; least = λ b i. omega (arith, over b i); no_dot = λ b i q. omega (arith, over b i) }

small-words : (w : List ℕ) → In w small.words → WordWithin w
small-words w i =
    cons-elim i
    (λ e. rw e (word-within resource_bytes refl (omega arith)))
    (λ j. cons-elim j (λ e. rw e (word-within self_bytes refl (omega arith))) (λ k. absurd (Memᴰ.not-nil k)))

pub small-within : Within small
small-within = record {
  least = omega arith;
  words = omega arith;
  word = small-words;
  types = omega arith;
  type = λ T i. cons-elim i (λ e. rw e pair-within) (λ j. cons-elim j (λ e. rw e single-within) (λ k. absurd (Memᴰ.not-nil k)));
  extensions = omega arith;
  extension = λ x i. absurd (Memᴰ.not-nil i);
}

words-good : bad_words small.words ≡ false
unfolding bad_words bytes_before
words-good = refl

once-good : something_twice small ≡ false
unfolding something_twice names_twice keys_twice words_twice annotations_twice same_annotation set_of include
once-good = refl

types-drafted : types_in 2 small_bits small_draft 2 ≡ small.types
unfolding types_in type_in tabulate notes_at notes name_of_key bits_of to_bits odd counted allowed repeat_onto field_onto annotation kinds associated_list associated word_field word_if_flag mark
types-drafted = refl

entries_sorted : take 2 small_entries ≡ sort (entry_before small.words) (entries_of small_draft 2)
unfolding entries_of tabulate sort insert name_before bytes_before name_of_key
entries_sorted = refl

pair_read : DoneAt (notes 2 false) small_bits 0
unfolding notes bits_of to_bits odd counted allowed repeat_onto field_onto annotation kinds associated_list associated word_field word_if_flag mark
pair_read = record { value = record { annotations = pair.annotations; marks = [] }; rest = drop 23 small_bits; is = refl }

single-read : DoneAt (notes 2 true) small_bits 23
unfolding notes bits_of to_bits odd counted allowed repeat_onto field_onto annotation kinds associated_list associated word_field word_if_flag mark
single-read = record { value = record { annotations = []; marks = single.marks }; rest = drop 31 small_bits; is = refl }

notes-read : (i : ℕ) → i < 2 → DoneAt (notes 2 (eqb (key_at small_draft i % 256) 0)) small_bits (place_at small_draft i)
notes-read zero h = pair_read
notes-read (suc zero) h = single-read
notes-read (suc (suc i)) h = absurd (omega arith)

rows-sorted : map (λ e. type_in 2 small_bits small_draft e.row) (take 2 small_entries) ≡ sort (by_name small.words) (types_in 2 small_bits small_draft 2)
unfolding types_in type_in tabulate sort insert name_before bytes_before notes_at notes name_of_key bits_of to_bits odd counted allowed repeat_onto field_onto annotation kinds associated_list associated word_field word_if_flag mark
rows-sorted = refl

pub small-drawn : Drawn small small_bits small_draft small_entries 2
small-drawn = record {
  drafted = record { few = omega arith; types = types-drafted };
  entered = record { long = refl; sorted = entries_sorted };
  sorted = rows-sorted;
  read = notes-read;
  within = small-within;
  readable = record { words = words-good; once = once-good };
}
