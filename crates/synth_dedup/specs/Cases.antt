-- Entries at the limits, read, and what they meet.
use Rattle.std.specs.Prelude.{true, List, [], ◌∷◌, map, ◌≡◌, refl, ℕ, ◌+◌, replicate, set}
use Rattle.std.proofs.Common.{sym, ap, ◌∙◌, arith, get_or-set_other}
use Rattle.std.proofs.lemmas.List.{get_or-replicate}
use Rattle.lists.specs.Lists.{ascends}
use Rattle.lists.specs.Tests.{never}
use Rattle.rows.specs.declared.Row.{Row}
use Rattle.rows.specs.Rows.{has, has_bit, none, either, common, without, single, empty}
use Rattle.rows.specs.RowLaws.{words-below}
use Rattle.rows.specs.Lists.{between}
use Rattle.definitions.specs.Records.{Name, AssociatedResource, associate}
use Rattle.definitions.specs.Comparisons.{name_before, bytes_before}
use Rattle.synth_annotations.specs.Reading.{doms_of}
use Rattle.sheet_records.specs.declared.Kind.TheVariants.{MakeList, Associate, NestAssociate}
use Rattle.synth_dedup.specs.declared.Entry.{Entry}
use Rattle.synth_dedup.specs.declared.inherited.Inherited.{Inherited}
use Rattle.synth_dedup.specs.Entries.{Entries, inter, diff, unless_empty, merge, join, entries_of, Sound, covers, nil, cons}
use Rattle.synth_dedup.specs.EntryLaws.{join_apart}
use Rattle.synth_dedup.specs.Reading.{resources_at, names_at, read, read_all, table_of, no_doms, Clean, Kept, Good}
use Rattle.synth_dedup.specs.ReadingLaws.{join-full}

-- three types, in name order: `5`, `5.9`, `6`
abbrev names : List Name
names = (5 ∷ []) ∷ (5 ∷ 9 ∷ []) ∷ (6 ∷ []) ∷ []

-- the words, one letter each
abbrev pub words : List (List ℕ)
words = map (λ (b : ℕ). b ∷ []) (97 ∷ 98 ∷ 99 ∷ 100 ∷ 101 ∷ 102 ∷ 103 ∷ 104 ∷ 105 ∷ 106 ∷ [])

pub names-ascend : ascends (name_before words) names ≡ true
unfolding name_before bytes_before
names-ascend = refl

-- the words 0, 63, 192, inherited from the first type; the words 63, 64, 191, 192, 199, from the last
abbrev first : Entry
first = record { kind = Associate; words = record { a = 9223372036854775809; b = 0; c = 0; d = 1 }; parents = 1 }

abbrev second : Entry
second = record { kind = Associate; words = record { a = 9223372036854775808; b = 1; c = 9223372036854775808; d = 129 }; parents = 4 }

-- the doms of a word: none, and the word itself
abbrev two_doms : ℕ → Row
two_doms w = either (single 0) (single w)

abbrev used : List ℕ → List AssociatedResource
used ws = map (λ (w : ℕ). record { word = w; doms = [] ∷ (w ∷ []) ∷ [] }) ws

pub joined-read :
    read_all names (λ w. two_doms (w + 1)) (join (first ∷ []) second)
    ≡ record { annotation = associate (used (0 ∷ [])); parents = (5 ∷ []) ∷ [] }
    ∷ record { annotation = associate (used (63 ∷ 192 ∷ [])); parents = (5 ∷ []) ∷ (6 ∷ []) ∷ [] }
    ∷ record { annotation = associate (used (64 ∷ 191 ∷ 199 ∷ [])); parents = (6 ∷ []) ∷ [] }
    ∷ []
unfolding join merge unless_empty inter diff none common without either read resources_at names_at doms_of between has has_bit single
joined-read = refl

-- ---- the kinds decide: a NestAssociate shares words with another, and nothing with an Associate

abbrev nested : Entry → Entry
nested e = record { kind = NestAssociate; words = e.words; parents = e.parents }

pub nested-shared : inter (nested first) (nested second) ≡ nested (inter first second)
unfolding inter
nested-shared = refl

pub unlike-shared : unless_empty (inter first (nested second)) ≡ []
unfolding unless_empty inter none
unlike-shared = refl

pub unlike-left : diff first (nested second) ≡ first
unfolding diff
unlike-left = refl

-- ---- what the functions require is met by lists at the limits

pub first-sound : Sound first
first-sound = record { kind = refl; small = record { a = omega arith; b = omega arith; c = omega arith; d = omega arith }; words = words-below first.words (omega arith) }

pub second-sound : Sound second
second-sound = record { kind = refl; small = record { a = omega arith; b = omega arith; c = omega arith; d = omega arith }; words = words-below second.words (omega arith) }

abbrev zeros : Entry
zeros = record { kind = MakeList; words = empty; parents = 0 }

abbrev both : Entries
both = record {
  count = 3;
  items = record { kind = Associate; words = record { a = 1; b = 0; c = 0; d = 0 }; parents = 1 }
      ∷ record { kind = Associate; words = record { a = 9223372036854775808; b = 0; c = 0; d = 1 }; parents = 5 }
      ∷ record { kind = Associate; words = record { a = 0; b = 1; c = 9223372036854775808; d = 128 }; parents = 4 }
      ∷ replicate 198 zeros;
  few = omega arith;
  long = refl;
}

both-are : entries_of both ≡ join (first ∷ []) second
unfolding entries_of join merge unless_empty inter diff none common without
both-are = refl

pub both-kept : Kept both
both-kept =
    record {
      room = omega arith;
      apart = rw both-are (join_apart (first ∷ []) second (cons first-sound (λ w h. refl) nil) second-sound);
      full = rw both-are (join-full (first ∷ []) second);
    }

-- a dom set more for a word that an entry has
clean-set : (D : List Row) (l : List Entry) (v : ℕ) (r : Row) → covers l v ≡ true → Clean (table_of D) l → Clean (table_of (set D v r)) l
clean-set D l v r e c w b t = get_or-set_other D v w r empty (λ q. never e (ap (covers l) (sym q) ∙ t)) ∙ c w b t

abbrev both_doms : List Row
both_doms = set (set (set no_doms 0 (two_doms 1)) 63 (two_doms 64)) 199 (two_doms 200)

pub both-good : Good both both_doms
unfolding entries_of no_doms has
both-good =
    record {
      fits = omega arith;
      kept = both-kept;
      clean =
          clean-set (set (set no_doms 0 (two_doms 1)) 63 (two_doms 64)) (entries_of both) 199 (two_doms 200) refl
          (clean-set (set no_doms 0 (two_doms 1)) (entries_of both) 63 (two_doms 64) refl
          (clean-set no_doms (entries_of both) 0 (two_doms 1) refl (λ w b t. get_or-replicate 200 w empty empty b)));
    }

-- so a type can inherit them
pub both_inherited : Inherited
both_inherited = record { list = both; doms = both_doms; good = both-good }
