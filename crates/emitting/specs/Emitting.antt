-- Rows written into a buffer, six bytes each: the first `limit`, with a count that stops one past it, so that it tells
-- whether there are more (FORMAT 8.2).
use Rattle.std.specs.Prelude.{Bool, true, false, ◌≡◌, ltb, take, drop, set}
use mathlib.Core.List.{List, [], ◌∷◌, ◌++◌}
use Rattle.std.proofs.Math.Path.{refl, sym}
use Rattle.std.proofs.Common.{ap, ◌∙◌, zero-add, length-take, length-append}
use Prim.Native.Nat.{ℕ, suc, ◌+◌, ◌*◌, ◌-◌, ◌≤◌, ◌<◌, min}
use native.Mathlib.Omega.{arith}
use borrow.Author.Tests.{le-ltb, ltb-true, ltb-false}
use Rattle.std.proofs.Math.ListN.{length}
use Rattle.std.proofs.Math.Seq.{sets, take-nil}
use Rattle.std.proofs.lemmas.List.Edits.{sets-eq}
use Rattle.lists.specs.Lists.{each}
use Rattle.lists.specs.Tests.{by}

-- the buffer and the count
abbrev pub State : Type 0
State = List ℕ × ℕ

abbrev pub put : ℕ → Bool → State → List ℕ → State
put limit true s bytes = (sets s.0 (6 * s.1) bytes, s.1 + 1)
put limit false s bytes = (s.0, limit + 1)

-- the bytes of one row
abbrev pub emit_bytes : ℕ → State → List ℕ → State
emit_bytes limit s bytes = put limit (ltb s.1 limit) s bytes

sets-append : (b : List ℕ) (k : ℕ) (x y : List ℕ) → sets b k (x ++ y) ≡ sets (sets b k x) (k + length x) y
sets-append b k [] y = ap (λ (n : ℕ). sets b n y) (omega arith)
sets-append b k (a ∷ x) y = sets-append (set b k a) (suc k) x y ∙ ap (λ (n : ℕ). sets (sets (set b k a) (suc k) x) n y) (omega arith)

-- f gives the bytes of a row
module _ {R : Type 0} (f : R → List ℕ) where
  unfoldable pub emit : ℕ → State → List R → State
  emit limit s [] = s
  emit limit s (r ∷ rs) = emit limit (emit_bytes limit s (f r)) rs

  pub emit-append : (limit : ℕ) (s : State) (a b : List R) → emit limit s (a ++ b) ≡ emit limit (emit limit s a) b
  unfolding emit
  emit-append limit s [] b = refl
  emit-append limit s (r ∷ a) b = emit-append limit (emit_bytes limit s (f r)) a b

  -- past the limit nothing more is written
  pub emit-full : (limit : ℕ) (b : List ℕ) (rs : List R) → emit limit (b, limit + 1) rs ≡ (b, limit + 1)
  unfolding emit
  emit-full limit b [] = refl
  emit-full limit b (r ∷ rs) = rw (le-ltb (limit + 1) limit (omega arith)) (emit-full limit b rs)

  pub emit-most : (limit : ℕ) (s : State) (rs : List R) → s.1 ≤ limit + 1 → (emit limit s rs).1 ≤ limit + 1
  unfolding emit
  emit-most limit s [] h = h
  emit-most limit s (r ∷ rs) h =
      emit-most limit (emit_bytes limit s (f r)) rs (by (ltb s.1 limit) (λ t. rw t (omega (arith, ltb-true s.1 limit t))) (λ t. rw t (omega arith)))

  -- every row has six bytes
  module _ (six : (r : R) → length (f r) ≡ 6) where
    bytes-length : (rs : List R) → length (each f rs) ≡ 6 * length rs
    bytes-length [] = refl
    bytes-length (r ∷ rs) = omega (arith, length-append (f r) (each f rs), six r, bytes-length rs)

    -- all at once: the first rows up to the limit, and a count that stops one past it
    pub emit-is : (limit : ℕ) (b : List ℕ) (n : ℕ) (rs : List R) → n ≤ limit
        → emit limit (b, n) rs ≡ (sets b (6 * n) (each f (take (limit - n) rs)), min (limit + 1) (n + length rs))
    unfolding emit
    emit-is limit b n [] h = rw take-nil (ap (λ (k : ℕ). (b, k)) (omega arith))
    emit-is limit b n (r ∷ rs) h =
        by (ltb n limit)
        (λ t.
        let l : n < limit = ltb-true n limit t in
        let e : limit - n ≡ suc (limit - (n + 1)) = omega arith in
        let k : 6 * (n + 1) ≡ 6 * n + length (f r) = omega (arith, six r) in
        let g : n + 1 + length rs ≡ n + suc (length rs) = omega arith in
        rw (t, emit-is limit (sets b (6 * n) (f r)) (n + 1) rs (omega arith), e, g)
        (ap (λ (c : List ℕ). (c, min (limit + 1) (n + suc (length rs))))
        (ap (λ (z : ℕ). sets (sets b (6 * n) (f r)) z (each f (take (limit - (n + 1)) rs))) k ∙ sym (sets-append b (6 * n) (f r) (each f (take (limit - (n + 1)) rs))))))
        (λ t.
        let l : n ≡ limit = omega (arith, ltb-false n limit t) in
        let z : limit - n ≡ 0 = omega arith in
        rw (t, emit-full limit b rs, z) (ap (λ (k : ℕ). (b, k)) (omega arith)))

    pub emit-all : (limit : ℕ) (b : List ℕ) (rs : List R) → 6 * limit ≤ length b
        → emit limit (b, 0) rs ≡ (each f (take limit rs) ++ drop (length (each f (take limit rs))) b, min (limit + 1) (length rs))
    emit-all limit b rs h =
        let k : 0 + length (each f (take limit rs)) ≤ length b = omega (arith, bytes-length (take limit rs), length-take limit rs) in
        let z : limit - 0 ≡ limit = omega arith in
        rw (emit-is limit b 0 rs (omega arith), z, sets-eq (each f (take limit rs)) b 0 k, zero-add (length (each f (take limit rs))), zero-add (length rs))
