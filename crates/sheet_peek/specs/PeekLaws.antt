-- What is known of the bits where a parser was done.
use Rattle.std.specs.Prelude.{Bool, true, false, ◌&&◌, List, [], ◌∷◌, ◌++◌, ◌≡◌, refl, length, drop}
use Rattle.std.proofs.Common.{sym, ap, ◌∙◌, sub-one, arith}
use Rattle.std.proofs.Math.Path.{subst}
use Prim.Native.Nat.{ℕ, zero, suc, ◌+◌, ◌-◌, ◌≤◌, ◌<◌}
use Rattle.std.proofs.Math.Decide.{dec_le}
use Rattle.std.proofs.Math.Dec.{leb}
use Rattle.definitions.specs.Bits.{num}
use Rattle.definitions.specs.Parse as parse
use Rattle.definitions.specs.Parse.{Parsed, done, refused, Parser, next, pure, refuse, choose, field, allowed, between, repeat_onto, repeat, counted, not_allowed}
use Rattle.sheet_window.specs.WindowLaws.{field_in, field_past}

-- no value comes of a refusal
pub refused-not : {A : Type 0} {C : Type 0} {r : parse.Fault} {x : A} {rest : List Bool} → refused r ≡ done x rest → C
refused-not e = let z : ◌≡◌ {A = ℕ} 0 1 = cc in absurd (omega arith)

pub done-value : {A : Type 0} {x y : A} {a b : List Bool} → done x a ≡ done y b → x ≡ y
done-value e = cc

pub done-rest : {A : Type 0} {x y : A} {a b : List Bool} → done x a ≡ done y b → a ≡ b
done-rest e = cc

-- both of two parsers were done
pub next-done : {A B : Type 0} (x : Parsed A) (k : A → Parser B) {b : B} {rest : List Bool} → next x k ≡ done b rest
    → (a : A) × (r : List Bool) × (x ≡ done a r) × (k a r ≡ done b rest)
next-done (done a r) k e = (a, r, refl, e)
next-done (refused n) k e = refused-not e

-- what is made of a value
pub pure-done : {A B : Type 0} (x : Parsed A) (f : A → B) {b : B} {rest : List Bool} → next x (λ a. pure (f a)) ≡ done b rest
    → (a : A) × (x ≡ done a rest) × (b ≡ f a)
pure-done (done a r) f e = (a, ap (done a) (done-rest e), sym (done-value e))
pure-done (refused n) f e = refused-not e

-- a field that was there
pub record FieldIs (bs : List Bool) (p n v : ℕ) (rest : List Bool) : Type 0 where
  pub value : v ≡ num n (drop p bs)
  pub behind : rest ≡ drop (p + n) bs
  pub there : p + n ≤ length bs

pub field-done : (bs : List Bool) (p n : ℕ) {v : ℕ} {rest : List Bool} → 0 < n → field n (drop p bs) ≡ done v rest → FieldIs bs p n v rest
field-done bs p n h e = elim (dec_le (p + n) (length bs)) [
  | yes l ↦
      let q = sym e ∙ field_in bs p n (p + n) h refl l in
      record { value = done-value q; behind = done-rest q; there = l }
  | no l ↦ refused-not (sym (field_past bs p n h (omega arith)) ∙ e)
]

-- a field with a test
pub allowed-done : (bs : List Bool) (p n : ℕ) (ok : ℕ → Bool) {v : ℕ} {rest : List Bool} → 0 < n → allowed n ok (drop p bs) ≡ done v rest
    → FieldIs bs p n v rest × (ok v ≡ true)
unfolding allowed
allowed-done bs p n ok {v} {rest} h e =
    let d = next-done (field n (drop p bs)) (λ x. choose (ok x) (pure x) (refuse not_allowed)) e in
    let c = chosen (ok d.0) d.0 d.1 refl d.3 in
    (subst (λ r. FieldIs bs p n v r) c.1 (subst (λ x. FieldIs bs p n x d.1) c.0 (field-done bs p n h d.2)), ap ok (sym c.0) ∙ c.2)
  where
    chosen : (b : Bool) (x : ℕ) (r : List Bool) → ok x ≡ b → choose b (pure x) (refuse not_allowed) r ≡ done v rest → (x ≡ v) × (r ≡ rest) × (ok x ≡ true)
    chosen true x r q z = (done-value z, done-rest z, q)
    chosen false x r q z = refused-not z

-- ---- lists

module _ {A : Type 0} (m : Parser A) where
  pub repeat-none : (n : ℕ) (ys : List A) (bs : List Bool) {xs : List A} {rest : List Bool} → n ≤ 0 → repeat_onto ys m n bs ≡ done xs rest
      → (ys ≡ xs) × (bs ≡ rest)
  unfolding repeat_onto
  repeat-none zero ys bs h e = (done-value e, done-rest e)
  repeat-none (suc n) ys bs h e = absurd (omega arith)

  -- the first of what is left, and the others behind it
  pub repeat-more : (n : ℕ) (ys : List A) (bs : List Bool) {xs : List A} {rest : List Bool} → 0 < n → repeat_onto ys m n bs ≡ done xs rest
      → (y : A) × (r : List Bool) × (m bs ≡ done y r) × (repeat_onto (ys ++ (y ∷ [])) m (n - 1) r ≡ done xs rest)
  unfolding repeat_onto
  repeat-more zero ys bs h e = absurd (omega arith)
  repeat-more (suc n) ys bs h e =
      rw (sub-one (suc n))
      (next-done (m bs) (λ y. repeat_onto (ys ++ (y ∷ [])) m n) e)

  pub counted-done : (bs : List Bool) (p n least most : ℕ) {xs : List A} {rest : List Bool} → 0 < n → counted n least most m (drop p bs) ≡ done xs rest
      → (p + n ≤ length bs) × (repeat m (num n (drop p bs)) (drop (p + n) bs) ≡ done xs rest)
  unfolding counted
  counted-done bs p n least most {xs} {rest} h e =
      let d = next-done (between n least most (drop p bs)) (λ k. repeat m k) e in
      let f = allowed-done bs p n (λ v. leb least v && leb v most) h d.2 in
      (f.0.there, subst (λ r. repeat m (num n (drop p bs)) r ≡ done xs rest) f.0.behind (subst (λ k. repeat m k d.1 ≡ done xs rest) f.0.value d.3))
