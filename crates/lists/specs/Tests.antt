-- Laws of tests, and of tests over lists: what `any`, `all`, `filter`, `each`, `first_of` and `place_of` say of the members of
-- a list.
use mathlib.Core.Bool.{Bool, true, false, ◌&&◌, ◌||◌, or-true}
use mathlib.Core.List.Memᴰ
use mathlib.Core.List.{List, [], ◌∷◌, cons≢nil}
use Rattle.std.specs.Prelude.{◌⊎◌, ◌↔◌, ◌≡◌, refl, ℕ, suc, eqb}
use Rattle.std.proofs.Common.{inl, inr, ⊎_elim, sym, ap, ◌∙◌, subst, arith, eq-eqb, ne_eqb, eqb-true}
use Rattle.std.proofs.lemmas.Bool.{eqb-false}
use Rattle.lists.specs.Lists.{In, At, here, later, any, all, null, keep, filter, each, first_of, place_of}

-- ---- tests

-- by the two values of a test, with the equation
pub by : {C : Type 0} (b : Bool) → (b ≡ true → C) → (b ≡ false → C) → C
by true f g = f refl
by false f g = g refl

pub never : {C : Type 0} {b : Bool} → b ≡ true → b ≡ false → C
never p q = absurd (mathlib.Core.Bool.true≢false (sym p ∙ q))

pub not_so : {b : Bool} → (b ≡ true → ⊥) → b ≡ false
not_so {b = true} f = absurd (f refl)
not_so {b = false} f = refl

-- two tests that imply each other are equal
pub same_test : {a b : Bool} → (a ≡ true → b ≡ true) → (b ≡ true → a ≡ true) → a ≡ b
same_test {a = true} {b = true} f g = refl
same_test {a = true} {b = false} f g = sym (f refl)
same_test {a = false} {b = true} f g = g refl
same_test {a = false} {b = false} f g = refl

pub and_left : (a b : Bool) → (a && b) ≡ true → a ≡ true
and_left true b e = refl
and_left false b e = e

pub and_right : (a b : Bool) → (a && b) ≡ true → b ≡ true
and_right true b e = e
and_right false b e = never e refl

pub and_both : {a b : Bool} → a ≡ true → b ≡ true → (a && b) ≡ true
and_both e f = rw (e, f)

pub or_cases : (a b : Bool) → (a || b) ≡ true → (a ≡ true) ⊎ (b ≡ true)
or_cases true b e = inl refl
or_cases false b e = inr e

pub or_elim : {C : Type 0} (a b : Bool) → (a || b) ≡ true → (a ≡ true → C) → (b ≡ true → C) → C
or_elim true b e f g = f refl
or_elim false b e f g = g e

pub or_left : {a : Bool} (b : Bool) → a ≡ true → (a || b) ≡ true
or_left b e = rw e

pub or_right : (a : Bool) {b : Bool} → b ≡ true → (a || b) ≡ true
or_right a e = rw (e, or-true)

pub or-false-left : (a b : Bool) → (a || b) ≡ false → a ≡ false
or-false-left true b e = e
or-false-left false b e = refl

pub or-false-right : (a b : Bool) → (a || b) ≡ false → b ≡ false
or-false-right true b e = never refl e
or-false-right false b e = e

pub neither : (a b : Bool) → (a || b) ≡ false → (a ≡ false) × (b ≡ false)
neither a b e = (or-false-left a b e, or-false-right a b e)

pub or-false-both : {a b : Bool} → a ≡ false → b ≡ false → (a || b) ≡ false
or-false-both p q = rw (p, q)

pub eqb-flip : (a b : ℕ) → eqb a b ≡ eqb b a
eqb-flip a b = by (eqb a b) (λ e. e ∙ sym (eq-eqb b a (sym (eqb-true a b e)))) (λ e. e ∙ sym (ne_eqb b a (λ q. eqb-false a b e (sym q))))

pub eqb-suc : (a b : ℕ) → eqb (suc a) (suc b) ≡ eqb a b
eqb-suc a b =
    by (eqb a b)
    (λ t. eq-eqb (suc a) (suc b) (ap suc (eqb-true a b t)) ∙ sym t)
    (λ t. ne_eqb (suc a) (suc b) (λ e. eqb-false a b t (omega arith)) ∙ sym t)

-- ---- members

pub cons-elim : {A C : Type 0} {x y : A} {l : List A} → In x (y ∷ l) → (x ≡ y → C) → (In x l → C) → C
cons-elim h f g = ⊎_elim f g (Memᴰ.cases_cons h)

-- a list without members is empty
pub null_of : {A : Type 0} (l : List A) → ((x : A) → In x l → ⊥) → null l ≡ true
null_of [] h = refl
null_of (x ∷ l) h = absurd (h x (Memᴰ.head refl))

pub null-nil : {A : Type 0} (l : List A) → null l ≡ true → l ≡ []
null-nil [] e = refl
null-nil (x ∷ l) e = never e refl

pub null-in : {A : Type 0} {x : A} {l : List A} → null l ≡ true → In x l → ⊥
null-in e (Memᴰ.head p) = never e refl
null-in e (Memᴰ.tail i) = never e refl

pub null-not : {A : Type 0} (l : List A) → null l ≡ false → (x : A) × In x l
null-not [] e = never refl e
null-not (x ∷ l) e = (x, Memᴰ.head refl)

-- ---- `any` and `all`

pub any-in : {A : Type 0} (f : A → Bool) {x : A} {l : List A} → In x l → f x ≡ true → any f l ≡ true
any-in f (Memᴰ.head {x = y} {xs = l} e) p = or_left (any f l) (ap f (sym e) ∙ p)
any-in f (Memᴰ.tail {x = y} {xs = l} h) p = or_right (f y) (any-in f h p)

pub any_of : {A : Type 0} (f : A → Bool) (l : List A) → any f l ≡ true → (x : A) × In x l × (f x ≡ true)
any_of f [] e = never e refl
any_of f (y ∷ l) e =
    ⊎_elim
    (λ p. (y, Memᴰ.head refl, p))
    (λ p. let r = any_of f l p in (r.0, Memᴰ.tail r.1, r.2))
    (or_cases (f y) (any f l) e)

-- where `any` fails, it fails of every member
pub any-not : {A : Type 0} (f : A → Bool) {x : A} {l : List A} → any f l ≡ false → In x l → f x ≡ false
any-not f e i = not_so (λ p. never (any-in f i p) e)

pub any_none : {A : Type 0} (f : A → Bool) (l : List A) → ((x : A) → In x l → f x ≡ false) → any f l ≡ false
any_none f l h = not_so (λ e. let r = any_of f l e in never r.2 (h r.0 r.1))

pub all_in : {A : Type 0} (f : A → Bool) {x : A} {l : List A} → all f l ≡ true → In x l → f x ≡ true
all_in f a (Memᴰ.head {x = y} {xs = l} e) = ap f e ∙ and_left (f y) (all f l) a
all_in f a (Memᴰ.tail {x = y} {xs = l} h) = all_in f (and_right (f y) (all f l) a) h

pub all_of : {A : Type 0} (f : A → Bool) (l : List A) → ((x : A) → In x l → f x ≡ true) → all f l ≡ true
all_of f [] h = refl
all_of f (y ∷ l) h = and_both (h y (Memᴰ.head refl)) (all_of f l (λ x i. h x (Memᴰ.tail i)))

-- where `all` fails, it fails of a member
pub all-not : {A : Type 0} (f : A → Bool) (l : List A) → all f l ≡ false → (x : A) × In x l × (f x ≡ false)
all-not f [] e = never refl e
all-not f (y ∷ l) e =
    by (f y)
    (λ p. let r = all-not f l (rw p at e) in (r.0, Memᴰ.tail r.1, r.2))
    (λ p. (y, Memᴰ.head refl, p))

-- over two lists with the same members `any` is the same, and so is `all`
pub any_same : {A : Type 0} (f : A → Bool) (l k : List A) → ((x : A) → In x l ↔ In x k) → any f l ≡ any f k
any_same f l k h =
    same_test
    (λ e. let r = any_of f l e in any-in f ((h r.0).0 r.1) r.2)
    (λ e. let r = any_of f k e in any-in f ((h r.0).1 r.1) r.2)

pub all_same : {A : Type 0} (f : A → Bool) (l k : List A) → ((x : A) → In x l ↔ In x k) → all f l ≡ all f k
all_same f l k h =
    same_test
    (λ e. all_of f k (λ x i. all_in f e ((h x).1 i)))
    (λ e. all_of f l (λ x i. all_in f e ((h x).0 i)))

-- ---- `filter`

keep-in : {A : Type 0} {b : Bool} {x y : A} (l : List A) → b ≡ true → x ≡ y → In x (keep b y l)
keep-in {b = true} l p e = Memᴰ.head e
keep-in {b = false} l p e = never p refl

keep-more : {A : Type 0} (b : Bool) {x : A} (y : A) {l : List A} → In x l → In x (keep b y l)
keep-more true y h = Memᴰ.tail h
keep-more false y h = h

keep-of : {A : Type 0} (b : Bool) {x y : A} {l : List A} → In x (keep b y l) → ((x ≡ y) × (b ≡ true)) ⊎ In x l
keep-of true h = cons-elim h (λ e. inl (e, refl)) inr
keep-of false h = inr h

pub filter-in : {A : Type 0} (f : A → Bool) {x : A} {l : List A} → In x l → f x ≡ true → In x (filter f l)
filter-in f (Memᴰ.head {xs = l} e) p = keep-in (filter f l) (ap f (sym e) ∙ p) e
filter-in f (Memᴰ.tail {x = y} h) p = keep-more (f y) y (filter-in f h p)

pub filter-of : {A : Type 0} (f : A → Bool) {x : A} (l : List A) → In x (filter f l) → In x l × (f x ≡ true)
filter-of f [] h = absurd (Memᴰ.not-nil h)
filter-of f (y ∷ l) h =
    ⊎_elim
    (λ p. (Memᴰ.head p.0, ap f p.0 ∙ p.1))
    (λ i. let r = filter-of f l i in (Memᴰ.tail r.0, r.1))
    (keep-of (f y) h)

pub filter-all : {A : Type 0} (f : A → Bool) (l : List A) → ((x : A) → In x l → f x ≡ true) → filter f l ≡ l
filter-all f [] h = refl
filter-all f (x ∷ l) h = rw (h x (Memᴰ.head refl)) (ap (λ k. x ∷ k) (filter-all f l (λ y i. h y (Memᴰ.tail i))))

-- ---- `each`

pub each_in : {A B : Type 0} (f : A → List B) {x : A} {y : B} {l : List A} → In x l → In y (f x) → In y (each f l)
each_in f {y = y} (Memᴰ.head {x = z} {xs = l} e) i = Memᴰ.append_left (each f l) (subst (λ w. In y (f w)) e i)
each_in f (Memᴰ.tail {x = z} h) i = Memᴰ.append_right (f z) (each_in f h i)

pub each_of : {A B : Type 0} (f : A → List B) {y : B} (l : List A) → In y (each f l) → (x : A) × In x l × In y (f x)
each_of f [] h = absurd (Memᴰ.not-nil h)
each_of f (x ∷ l) h =
    ⊎_elim
    (λ i. (x, Memᴰ.head refl, i))
    (λ i. let r = each_of f l i in (r.0, Memᴰ.tail r.1, r.2))
    (Memᴰ.append_cases (f x) h)

pub each_none : {A B : Type 0} (f : A → List B) (l : List A) → ((x : A) → In x l → f x ≡ []) → each f l ≡ []
each_none f [] h = refl
each_none f (x ∷ l) h = rw (h x (Memᴰ.head refl)) (each_none f l (λ y i. h y (Memᴰ.tail i)))

-- ---- `first_of` and `place_of`

-- where no first one is found, the test fails of every member
pub first-none : {A : Type 0} (f : A → Bool) (l : List A) → ((x : A) → In x l → f x ≡ false) → first_of f l ≡ []
first-none f [] h = refl
first-none f (x ∷ l) h = rw (h x (Memᴰ.head refl)) (first-none f l (λ y i. h y (Memᴰ.tail i)))

first_found : {A : Type 0} (f : A → Bool) {x : A} {l : List A} → In x l → f x ≡ true → (y : A) × (first_of f l ≡ y ∷ [])
first_found f (Memᴰ.head {x = y} e) p = (y, rw (ap f (sym e) ∙ p))
first_found f (Memᴰ.tail {x = y} h) p = by (f y) (λ q. (y, rw q)) (λ q. let r = first_found f h p in (r.0, rw q r.1))

pub first-not : {A : Type 0} (f : A → Bool) {x : A} {l : List A} → first_of f l ≡ [] → In x l → f x ≡ false
first-not f {x} {l} e i = not_so (λ p. let r = first_found f i p in cons≢nil (sym r.1 ∙ e))

-- at the place of the first stands one of which the test holds
pub place_at : {A : Type 0} (f : A → Bool) (l : List A) → any f l ≡ true → (x : A) × At x (place_of f l) l × (f x ≡ true)
place_at f [] e = never e refl
place_at f (y ∷ l) e =
    by (f y)
    (λ p. (y, rw p here, p))
    (λ p. let r = place_at f l (rw p at e) in (r.0, rw p (later r.1), r.2))

pub at_in : {A : Type 0} {x : A} {i : ℕ} {l : List A} → At x i l → In x l
at_in here = Memᴰ.head refl
at_in (later h) = Memᴰ.tail (at_in h)
