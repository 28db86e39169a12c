-- What the compact form asks holds of every sheet that tests 3 to 7 let pass.
use Rattle.std.specs.Prelude.{Bool, true, false, List, [], ◌∷◌, ◌≡◌, refl, ℕ, ◌≤◌, ◌<◌, get_or}
use Rattle.std.proofs.Common.{◌∙◌, arith, lt-ltb}
use Rattle.std.proofs.Math.ListN.{length}
use Rattle.lists.specs.Lists.{In, all, repeats, sort}
use Rattle.lists.specs.Tests.{and_both, or-false-left, all_of}
use Rattle.lists.specs.Sorting.{repeats-not, perm-sorted, perm-length, sort-perm, sort-is}
use Rattle.lists.specs.Places.{get_d-in}
use Rattle.definitions.specs.Bits.{bits_of}
use Rattle.definitions.specs.Records.{Name, TypeInfo, Sheet}
use Rattle.definitions.specs.Comparisons.{same_name}
use Rattle.definitions.specs.Checks.{names_twice, something_twice}
use Rattle.definitions.specs.Map.{type_map_of}
use Rattle.definitions.specs.Legal.{Every, LegalName, LegalType}
use Rattle.definitions.specs.Relisted.{Holds}
use Rattle.law_orders.proofs.Spelling.{every_in}
use Rattle.law_reading.specs.Rules.{repeats-none}
use Rattle.order_form.specs.Lists.{same-list-sym}
use Rattle.order_form.specs.Reading.{no_type, is_name}
use Rattle.order_form.specs.Compact.{Within}
use Rattle.item_draft.specs.Fill.{by_name}
use Rattle.law_decoding.specs.ReadLaws.{limits, few_words, few-types, self-lt}

-- ---- names

legal-is-name : (W : ℕ) (n : Name) → W ≤ 255 → LegalName W n → is_name n ≡ true
legal-is-name W [] h l = absurd l
legal-is-name W (a ∷ []) h l = and_both (lt-ltb a 255 (omega (arith, l.0))) refl
legal-is-name W (a ∷ b ∷ []) h l = and_both (lt-ltb a 255 (omega (arith, l.0))) (and_both (lt-ltb b 255 (omega (arith, l.1))) refl)
legal-is-name W (a ∷ b ∷ c ∷ n) h l = absurd l.1

legal-are-names : (W : ℕ) (l : List Name) → W ≤ 255 → Every (LegalName W) l → all is_name l ≡ true
legal-are-names W l h e = all_of is_name l (λ n i. legal-is-name W n h (every_in (LegalName W) e i))

-- ---- the types by name

abbrev same_type : TypeInfo → TypeInfo → Bool
same_type T U = same_name T.name U.name

distinct-sorted : (ws : List (List ℕ)) (l : List TypeInfo) → repeats same_type l ≡ false → repeats same_type (sort (by_name ws) l) ≡ false
distinct-sorted ws l h =
    repeats-none same_type (sort (by_name ws) l)
    (perm-sorted (λ T U. same_type T U ≡ false) (λ T U e. same-list-sym U.name T.name ∙ e) (sort-perm (by_name ws) l) (repeats-not same_type l h))

-- ---- a sheet that bytes hold

module _ (bytes : List ℕ) (t : Sheet) (h : Holds bytes t) where
  words-at-most : length t.words ≤ 200
  words-at-most = few_words (bits_of bytes) t h.rest h.read

  legal : (T : TypeInfo) → In T t.types → LegalType (length t.words) T
  legal T i = every_in (LegalType (length t.words)) (limits (bits_of bytes) t h.rest h.read).types.every i

  once : repeats same_type t.types ≡ false
  unfolding something_twice names_twice
  once = or-false-left (repeats same_type t.types) _ h.once

  pub readable : Within (type_map_of t)
  unfolding type_map_of
  readable =
      let same : length t.types ≡ length (sort (by_name t.words) t.types) = perm-length (sort-perm (by_name t.words) t.types) in
      let kept : (k : ℕ) → k < length (sort (by_name t.words) t.types) → LegalType (length t.words) (get_or (sort (by_name t.words) t.types) k no_type) =
      λ k l. legal _ ((sort-is (by_name t.words) t.types _).0 (get_d-in (sort (by_name t.words) t.types) no_type k l)) in
      record {
        most = omega (arith, same, few-types (bits_of bytes) t h.rest h.read);
        word = omega (arith, words-at-most, self-lt t.words h.words);
        distinct = distinct-sorted t.words t.types once;
        parents = λ k l. (kept k l).parents.few;
        names = λ k l. legal-are-names (length t.words) (get_or (sort (by_name t.words) t.types) k no_type).parents (omega (arith, words-at-most)) (kept k l).parents.every;
      }
