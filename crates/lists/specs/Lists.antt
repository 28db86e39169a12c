-- Lists, as the definitions use them. Nothing here knows of types or resources.
use Rattle.std.specs.Prelude.{Bool, true, false, ◌&&◌, ◌||◌, cond, ℕ, zero, suc, eqb, ltb}
use mathlib.Core.List.{List, [], ◌∷◌, ◌++◌, Memᴰ}

-- ---- statements

-- x stands in the list
abbrev pub In : {A : Type 0} → A → List A → Type 0
In x l = Memᴰ x l

-- x stands at place i of the list
pub data At {A : Type 0} (x : A) : ℕ → List A → Type 0 where
  here : {l : List A} → At x zero (x ∷ l)
  later : {y : A} {i : ℕ} {l : List A} → At x i l → At x (suc i) (y ∷ l)

-- each element stands in R to every later one
abbrev pub Sorted : {A : Type 0} → (A → A → Type 0) → List A → Type 0
Sorted R [] = Unit {0}
Sorted {A} R (x ∷ l) = ((y : A) → In y l → R x y) × Sorted R l

-- ---- tests

abbrev pub any : {A : Type 0} → (A → Bool) → List A → Bool
any f [] = false
any f (x ∷ l) = f x || any f l

abbrev pub all : {A : Type 0} → (A → Bool) → List A → Bool
all f [] = true
all f (x ∷ l) = f x && all f l

abbrev pub null : {A : Type 0} → List A → Bool
null [] = true
null (x ∷ l) = false

-- whether two places of the list are equal by `same`
abbrev pub repeats : {A : Type 0} → (A → A → Bool) → List A → Bool
repeats same [] = false
repeats same (x ∷ l) = any (same x) l || repeats same l

-- whether each element goes before the next
abbrev pub ascends : {A : Type 0} → (A → A → Bool) → List A → Bool
ascends before [] = true
ascends before (x ∷ []) = true
ascends before (x ∷ y ∷ l) = before x y && ascends before (y ∷ l)

-- whether two lists have equal elements, place by place
abbrev pub same_list : {A : Type 0} → (A → A → Bool) → List A → List A → Bool
same_list same [] [] = true
same_list same [] (y ∷ k) = false
same_list same (x ∷ l) [] = false
same_list same (x ∷ l) (y ∷ k) = same x y && same_list same l k

-- the order of lists of numbers: by the first place where they differ, a list before its extensions
abbrev pub list_before : List ℕ → List ℕ → Bool
list_before [] [] = false
list_before [] (y ∷ k) = true
list_before (x ∷ l) [] = false
list_before (x ∷ l) (y ∷ k) = ltb x y || (eqb x y && list_before l k)

-- ---- lists from lists

-- those of which f holds, in their order
abbrev pub keep : {A : Type 0} → Bool → A → List A → List A
keep true x l = x ∷ l
keep false x l = l

abbrev pub filter : {A : Type 0} → (A → Bool) → List A → List A
filter f [] = []
filter f (x ∷ l) = keep (f x) x (filter f l)

-- what f makes of each, one after the other
abbrev pub each : {A B : Type 0} → (A → List B) → List A → List B
each f [] = []
each f (x ∷ l) = f x ++ each f l

-- the first of which f holds, alone; or none
abbrev pub first_of : {A : Type 0} → (A → Bool) → List A → List A
first_of f [] = []
first_of f (x ∷ l) = cond (f x) (x ∷ []) (first_of f l)

-- how many stand before the first of which f holds
abbrev pub place_of : {A : Type 0} → (A → Bool) → List A → ℕ
place_of f [] = zero
place_of f (x ∷ l) = cond (f x) zero (suc (place_of f l))

-- the list sorted: each element before the first that it goes before
unfoldable pub insert : {A : Type 0} → (A → A → Bool) → A → List A → List A
insert before x [] = x ∷ []
insert before x (y ∷ l) = cond (before x y) (x ∷ y ∷ l) (y ∷ insert before x l)

unfoldable pub sort : {A : Type 0} → (A → A → Bool) → List A → List A
sort before [] = []
sort before (x ∷ l) = insert before x (sort before l)

-- the elements in ascending order, each once
unfoldable pub include : {A : Type 0} → (A → A → Bool) → A → List A → List A
include before x [] = x ∷ []
include before x (y ∷ l) = cond (before x y) (x ∷ y ∷ l) (y ∷ cond (before y x) (include before x l) l)

unfoldable pub set_of : {A : Type 0} → (A → A → Bool) → List A → List A
set_of before [] = []
set_of before (x ∷ l) = include before x (set_of before l)
