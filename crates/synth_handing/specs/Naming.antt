-- A row of one place, read as a name.
use Rattle.std.specs.Prelude.{true, List, [], ◌∷◌, map, ◌≡◌, refl, ℕ, ◌<◌, ◌^◌, eqb, length, get_or}
use Rattle.std.proofs.Math.Bool.{or-false}
use Rattle.std.proofs.Common.{sym, ap, ◌∙◌, eqb-true}
use Rattle.lists.specs.Tests.{by, never, eqb-flip}
use Rattle.rows.specs.Rows.{has_bit}
use Rattle.rows.specs.RowLaws.{bit-one}
use Rattle.rows.specs.Lists.{elem, between-same}
use Rattle.definitions.specs.Records.{Name}
use Rattle.synth_inheritance.specs.OwnLaws.{ascending-is}
use Rattle.synth_dedup.specs.Reading.{names_at}

-- the row of one place
pub names-one : (names : List Name) (i : ℕ) → i < length names → names_at names (2 ^ i) ≡ get_or names i [] ∷ []
unfolding names_at
names-one names i h =
    ap (map (λ k. get_or names k []))
    (between-same (has_bit (2 ^ i)) (λ k. elem k (i ∷ [])) 0 (length names) (λ k a b. bit-one i k ∙ eqb-flip i k ∙ sym (or-false (eqb k i)))
    ∙ ascending-is (i ∷ []) (length names) refl alone)
  where
    alone : (w : ℕ) → elem w (i ∷ []) ≡ true → w < length names
    alone w e = by (eqb w i) (λ t. rw (eqb-true w i t) h) (λ t. never (rw t at e) refl)
