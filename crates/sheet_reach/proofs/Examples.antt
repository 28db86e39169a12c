-- Five words of which the first goes on with a hyphen, and names over them: what is asked of a reach holds of one.
use Rattle.std.specs.Prelude.{true, false, List, [], ◌∷◌, ◌++◌, ◌≡◌, refl, ℕ, zero, suc, ◌<◌, ltb, get_or, replicate}
use Rattle.std.proofs.Common.{arith}
use Rattle.lists.specs.Tests.{never}
use Rattle.definitions.specs.Comparisons.{name_before, bytes_before}
use Rattle.law_orders.specs.Reach.{reach}
use Rattle.sheet_keys.specs.Keys.{name_of_key}
use Rattle.sheet_reach.specs.Reach.{Reaches, rank_of}
use Rattle.sheet_reach.specs.declared.Reach.{Reach}

-- a, a-, a-b, a0, c
abbrev words : List (List ℕ)
words = (97 ∷ []) ∷ (97 ∷ 45 ∷ []) ∷ (97 ∷ 45 ∷ 98 ∷ []) ∷ (97 ∷ 48 ∷ []) ∷ (99 ∷ []) ∷ []

abbrev small : Reach
small = record { any = true; last = (2 ∷ 1 ∷ 2 ∷ 3 ∷ 4 ∷ []) ++ replicate 195 0 }

small-reaches : Reaches words small
unfolding reach
small-reaches = record { few = omega arith; none = λ e. never refl e; each = λ e. each }
  where
    each : (w : ℕ) → w < 5 → get_or small.last w 0 ≡ reach words w
    each zero h = refl
    each (suc zero) h = refl
    each (suc (suc zero)) h = refl
    each (suc (suc (suc zero))) h = refl
    each (suc (suc (suc (suc zero)))) h = refl
    each (suc (suc (suc (suc (suc w))))) h = absurd (omega arith)

-- a-b comes before a.c, though the word a comes before it
joined_first : (ltb (rank_of small 512) (rank_of small 5) ≡ true) × (name_before words (name_of_key 512) (name_of_key 5) ≡ true) × (ltb 512 5 ≡ false)
unfolding rank_of name_before bytes_before name_of_key
joined_first = (refl, refl, refl)

-- a-b.c comes before a.a, and a.c before a0
shorter_behind : (ltb (rank_of small 517) (rank_of small 1) ≡ true) × (name_before words (name_of_key 517) (name_of_key 1) ≡ true)
unfolding rank_of name_before bytes_before name_of_key
shorter_behind = (refl, refl)

digit_behind : (ltb (rank_of small 5) (rank_of small 768) ≡ true) × (name_before words (name_of_key 5) (name_of_key 768) ≡ true)
unfolding rank_of name_before bytes_before name_of_key
digit_behind = (refl, refl)
