-- How many words a row has.
use Rattle.std.specs.Prelude.{Bool, ◌≡◌, ℕ, zero, suc, ◌+◌, length}
use Rattle.std.proofs.Common.{ap, arith}
use Rattle.lists.specs.Tests.{by}
use Rattle.rows.specs.Lists.{between, below}
use Rattle.synth_dedup.specs.Lists.{many}

-- how many there are
many-between : (f : ℕ → Bool) (i n : ℕ) → length (between f i n) + many f i ≡ many f (i + n)
unfolding many between
many-between f i zero =
    let z : i ≡ i + 0 = omega arith in
    let e : many f i ≡ many f (i + 0) = ap (λ (k : ℕ). many f k) z in
    omega (arith, e)
many-between f i (suc n) =
    let z : suc i + n ≡ i + suc n = omega arith in
    let e : many f (suc i + n) ≡ many f (i + suc n) = ap (λ (k : ℕ). many f k) z in
    by (f i)
    (λ p. rw p (omega (arith, e, rw p at (many-between f (suc i) n))))
    (λ p. rw p (omega (arith, e, rw p at (many-between f (suc i) n))))

pub many_below : (f : ℕ → Bool) (n : ℕ) → length (below f n) ≡ many f n
unfolding many
many_below f n = omega (arith, many-between f 0 n, ap (λ (k : ℕ). many f k) (zero-plus n))
  where
    zero-plus : (n : ℕ) → 0 + n ≡ n
    zero-plus n = omega arith
