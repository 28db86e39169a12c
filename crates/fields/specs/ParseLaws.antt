-- Laws of the definitions' parsers.
use Rattle.std.specs.Prelude.{Bool, List, [], ◌∷◌, ◌++◌, map, ◌≡◌, refl, ℕ, zero, suc, ◌+◌, ◌-◌, ◌≤◌, ◌<◌, length}
use Rattle.std.proofs.lemmas.List.{map-append}
use Rattle.std.proofs.Common.{sym, ap, ◌∙◌, sub-one, arith, length-append}
use Rattle.definitions.specs.Parse.{Fault, Parsed, done, refused, Parser, next, pure, between, repeat_onto, repeat, counted}

-- ---- repetition

pub repeat-none : {A : Type 0} (xs : List A) (m : Parser A) (n : ℕ) (bs : List Bool) → n ≤ 0 → repeat_onto xs m n bs ≡ done xs bs
unfolding repeat_onto
repeat-none xs m zero bs h = refl
repeat-none xs m (suc n) bs h = absurd (omega arith)

pub repeat-done : {A : Type 0} (xs : List A) (m : Parser A) (n : ℕ) (bs : List Bool) (x : A) (rest : List Bool) → 0 < n → m bs ≡ done x rest →
    repeat_onto xs m n bs ≡ repeat_onto (xs ++ (x ∷ [])) m (n - 1) rest
unfolding repeat_onto
repeat-done xs m zero bs x rest h e = absurd (omega arith)
repeat-done xs m (suc n) bs x rest h e = rw (sub-one (suc n), e)

-- the same where i of n are behind
pub repeat-next : {A : Type 0} (xs : List A) (m : Parser A) (n i : ℕ) (bs : List Bool) (x : A) (rest : List Bool) → i < n → m bs ≡ done x rest →
    repeat_onto xs m (n - i) bs ≡ repeat_onto (xs ++ (x ∷ [])) m (n - (i + 1)) rest
repeat-next xs m n i bs x rest h e =
    let q : n - i - 1 ≡ n - (i + 1) = omega arith in
    repeat-done xs m (n - i) bs x rest (omega arith) e ∙ ap (λ (k : ℕ). repeat_onto (xs ++ (x ∷ [])) m k rest) q

pub repeat-refused : {A : Type 0} (xs : List A) (m : Parser A) (n : ℕ) (bs : List Bool) (r : Fault) → 0 < n → m bs ≡ refused r → repeat_onto xs m n bs ≡ refused r
unfolding repeat_onto
repeat-refused xs m zero bs r h e = absurd (omega arith)
repeat-refused xs m (suc n) bs r h e = rw e

-- values made by f: entry by entry, or all at the end
pub repeat-map : {A B : Type 0} (f : A → B) (m : Parser A) (k : Parser B) → ((bs : List Bool) → k bs ≡ next (m bs) (λ a. pure (f a))) →
    (n : ℕ) (xs : List A) (bs : List Bool) → repeat_onto (map f xs) k n bs ≡ next (repeat_onto xs m n bs) (λ ys. pure (map f ys))
unfolding repeat_onto
repeat-map f m k h zero xs bs = refl
repeat-map f m k h (suc n) xs bs = rw (h bs) (go (m bs) (repeat-map f m k h n))
  where
    go : (x : Parsed _) → ((ys : List _) (rest : List Bool) → repeat_onto (map f ys) k n rest ≡ next (repeat_onto ys m n rest) (λ zs. pure (map f zs))) →
        next (next x (λ a. pure (f a))) (λ b. repeat_onto (map f xs ++ (b ∷ [])) k n) ≡ next (next x (λ a. repeat_onto (xs ++ (a ∷ [])) m n)) (λ zs. pure (map f zs))
    go (done a rest) ih = ap (λ l. repeat_onto l k n rest) (sym (map-append f xs (a ∷ []))) ∙ ih (xs ++ (a ∷ [])) rest
    go (refused r) ih = refl

pub counted-map : {A B : Type 0} (f : A → B) (m : Parser A) (k : Parser B) → ((bs : List Bool) → k bs ≡ next (m bs) (λ a. pure (f a))) →
    (n least most : ℕ) (bs : List Bool) → counted n least most k bs ≡ next (counted n least most m bs) (λ ys. pure (map f ys))
unfolding counted
counted-map f m k h n least most bs = go (between n least most bs)
  where
    go : (x : Parsed ℕ) → next x (λ c. repeat k c) ≡ next (next x (λ c. repeat m c)) (λ ys. pure (map f ys))
    go (done c rest) = repeat-map f m k h c [] rest
    go (refused r) = refl

-- how many entries were read
pub repeat-length : {A : Type 0} (m : Parser A) (n : ℕ) (xs : List A) (bs : List Bool) (ys : List A) (rest : List Bool) →
    repeat_onto xs m n bs ≡ done ys rest → length ys ≡ length xs + n
unfolding repeat_onto
repeat-length m zero xs bs ys rest e = let q : xs ≡ ys = cc in rw (← q) (omega arith)
repeat-length {A} m (suc n) xs bs ys rest e = go (m bs) (repeat-length m n) e
  where
    go : (x : Parsed A) →
        ((zs : List A) (left : List Bool) (ys : List A) (rest : List Bool) → repeat_onto zs m n left ≡ done ys rest → length ys ≡ length zs + n) →
        next x (λ a. repeat_onto (xs ++ (a ∷ [])) m n) ≡ done ys rest → length ys ≡ length xs + suc n
    go (done a left) ih e = omega (arith, simp length-append at (ih (xs ++ (a ∷ [])) left ys rest e))
    go (refused r) ih e = let z : ◌≡◌ {A = ℕ} 0 1 = cc in absurd (omega arith)
