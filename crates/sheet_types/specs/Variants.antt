-- The variants of types.
use Rattle.std.specs.Prelude.{Bool, ◌&&◌, List, [], ◌∷◌, ◌≡◌, refl, ℕ, zero, suc, leb, get_or}
use Rattle.std.proofs.Common.{arith, le-leb}
use Rattle.std.proofs.lemmas.Bool.{lt-leb}
use Rattle.definitions.specs.Parse.{not_allowed, Parsed, done, refused, next, pure, refuse, choose, field, allowed, between}
use Rattle.definitions.specs.Reading.{variant}
use Rattle.definitions.specs.Records.{domain, resource, other}
use Rattle.sheet_draft.specs.Draft.{variant_of}

-- a variant is a number up to 2
pub variant-number : (bs : List Bool) → variant bs ≡ next (between 2 0 2 bs) (λ v. pure (variant_of v))
unfolding variant allowed
variant-number bs = go (field 2 bs)
  where
    at : (v : ℕ) (rest : List Bool) →
        get_or (pure domain ∷ pure resource ∷ pure other ∷ []) v (refuse not_allowed) rest
        ≡ next (choose (leb 0 v && leb v 2) (pure v) (refuse not_allowed) rest) (λ v. pure (variant_of v))
    at zero rest = refl
    at (suc zero) rest = refl
    at (suc (suc zero)) rest = refl
    at (suc (suc (suc v))) rest = rw (lt-leb (suc (suc (suc v))) 2 (omega arith), le-leb 0 (suc (suc (suc v))) (omega arith))

    go : (x : Parsed ℕ) →
        next x (λ v. get_or (pure domain ∷ pure resource ∷ pure other ∷ []) v (refuse not_allowed))
        ≡ next (next x (λ v. choose (leb 0 v && leb v 2) (pure v) (refuse not_allowed))) (λ v. pure (variant_of v))
    go (done v rest) = at v rest
    go (refused r) = refl
