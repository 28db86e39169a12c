-- Strict orders that are given by a test.
use Rattle.std.specs.Prelude.{Bool, true, false, ◌⊎◌, ◌≡◌, ℕ, ◌<◌, ltb}
use Rattle.std.proofs.Common.{inl, inr, arith, ltb-true, ltb-false, lt-ltb, le-ltb}
use Rattle.lists.specs.Tests.{by, never}

-- no element goes before itself, `before` is transitive, and of two that differ one goes before the other
pub record Strict {A : Type 0} (before : A → A → Bool) : Type 0 where
  pub irreflexive : (x : A) → before x x ≡ false
  pub transitive : (x y z : A) → before x y ≡ true → before y z ≡ true → before x z ≡ true
  pub trichotomous : (x y : A) → before x y ≡ false → before y x ≡ false → x ≡ y

module _ {A : Type 0} {before : A → A → Bool} (o : Strict before) where
  pub asymmetric : (x y : A) → before x y ≡ true → before y x ≡ true → ⊥
  asymmetric x y p q = never (o.transitive x y x p q) (o.irreflexive x)

  pub total : (x y : A) → before x y ≡ false → (x ≡ y → ⊥) → before y x ≡ true
  total x y p n = by (before y x) (λ q. q) (λ q. absurd (n (o.trichotomous x y p q)))

-- ---- numbers

pub number-strict : Strict ltb
number-strict = record {
  irreflexive = λ x. le-ltb x x (omega arith);
  transitive = λ x y z p q. lt-ltb x z (omega (arith, ltb-true x y p, ltb-true y z q));
  trichotomous = λ x y p q. omega (arith, ltb-false x y p, ltb-false y x q);
}

-- one is less, the other is less, or they are equal
pub which : (i k : ℕ) → (i < k) ⊎ ((k < i) ⊎ (i ≡ k))
which i k =
    by (ltb i k) (λ p. inl (ltb-true i k p))
    (λ p. by (ltb k i) (λ q. inr (inl (ltb-true k i q))) (λ q. inr (inr (number-strict.trichotomous i k p q))))
