-- Appending, and what is made of each element.
use Rattle.std.specs.Prelude.{Bool, true, false, ◌&&◌, ◌||◌, cond, ◌≡◌, refl}
use Rattle.std.proofs.Math.Bool.{and_assoc, or_assoc}
use mathlib.Core.List.Memᴰ
use mathlib.Core.List.{List, [], ◌∷◌, ◌++◌, map, append-nil, append_assoc, cons≢nil}
use Rattle.std.proofs.Common.{sym, ap, ap₂, ◌∙◌}
use Rattle.lists.specs.Lists.{In, any, all, null, filter, keep, each, first_of, repeats}
use Rattle.lists.specs.Tests.{by, all_in}

pub append-empty : {A : Type 0} (a b : List A) → a ++ b ≡ [] → (a ≡ []) × (b ≡ [])
append-empty [] b e = (refl, e)
append-empty (x ∷ a) b e = absurd (cons≢nil e)

pub each_append : {A B : Type 0} (f : A → List B) (a b : List A) → each f (a ++ b) ≡ each f a ++ each f b
each_append f [] b = refl
each_append f (x ∷ a) b = ap (λ l. f x ++ l) (each_append f a b) ∙ sym (append_assoc (f x) (each f a) (each f b))

pub each_snoc : {A B : Type 0} (f : A → List B) (l : List A) (x : A) → each f (l ++ x ∷ []) ≡ each f l ++ f x
each_snoc f l x = each_append f l (x ∷ []) ∙ ap (λ k. each f l ++ k) (append-nil (f x))

pub each-each : {A B C : Type 0} (f : A → List B) (g : B → List C) (l : List A) → each g (each f l) ≡ each (λ x. each g (f x)) l
each-each f g [] = refl
each-each f g (x ∷ l) = each_append g (f x) (each f l) ∙ ap (λ k. each g (f x) ++ k) (each-each f g l)

pub map-append : {A B : Type 0} (f : A → B) (a b : List A) → map f (a ++ b) ≡ map f a ++ map f b
map-append f [] b = refl
map-append f (x ∷ a) b = ap (λ l. f x ∷ l) (map-append f a b)

pub map_each : {A B C : Type 0} (f : B → C) (g : A → List B) (l : List A) → map f (each g l) ≡ each (λ x. map f (g x)) l
map_each f g [] = refl
map_each f g (x ∷ l) = map-append f (g x) (each g l) ∙ ap (λ k. map f (g x) ++ k) (map_each f g l)

pub each_map : {A B C : Type 0} (f : B → List C) (g : A → B) (l : List A) → each f (map g l) ≡ each (λ x. f (g x)) l
each_map f g [] = refl
each_map f g (x ∷ l) = ap (λ k. f (g x) ++ k) (each_map f g l)

pub each_same : {A B : Type 0} (f g : A → List B) (l : List A) → ((x : A) → In x l → f x ≡ g x) → each f l ≡ each g l
each_same f g [] h = refl
each_same f g (x ∷ l) h = ap₂ (λ a b. a ++ b) (h x (Memᴰ.head refl)) (each_same f g l (λ y i. h y (Memᴰ.tail i)))

pub map_same : {A B : Type 0} (f g : A → B) (l : List A) → ((x : A) → In x l → f x ≡ g x) → map f l ≡ map g l
map_same f g [] h = refl
map_same f g (x ∷ l) h = ap₂ (λ a b. a ∷ b) (h x (Memᴰ.head refl)) (map_same f g l (λ y i. h y (Memᴰ.tail i)))

pub map-map : {A B C : Type 0} (g : B → C) (f : A → B) (l : List A) → map g (map f l) ≡ map (λ x. g (f x)) l
map-map g f [] = refl
map-map g f (x ∷ l) = ap (λ k. g (f x) ∷ k) (map-map g f l)

pub map-self : {A : Type 0} (f : A → A) (l : List A) → ((x : A) → In x l → f x ≡ x) → map f l ≡ l
map-self f [] h = refl
map-self f (x ∷ l) h = ap₂ (λ a b. a ∷ b) (h x (Memᴰ.head refl)) (map-self f l (λ y i. h y (Memᴰ.tail i)))

-- of elements that were tested
pub map-checked : {A B : Type 0} (ok : A → Bool) (f g : A → B) (l : List A) → all ok l ≡ true → ((x : A) → ok x ≡ true → f x ≡ g x) → map f l ≡ map g l
map-checked ok f g l e h = map_same f g l (λ x i. h x (all_in ok e i))

keep-map : {A B : Type 0} (b : Bool) (f : A → B) (x : A) (l : List A) → keep b (f x) (map f l) ≡ map f (keep b x l)
keep-map true f x l = refl
keep-map false f x l = refl

pub filter_map : {A B : Type 0} (g : B → Bool) (f : A → B) (l : List A) → filter g (map f l) ≡ map f (filter (λ x. g (f x)) l)
filter_map g f [] = refl
filter_map g f (x ∷ l) = ap (keep (g (f x)) (f x)) (filter_map g f l) ∙ keep-map (g (f x)) f x (filter (λ x. g (f x)) l)

keep_append : {A : Type 0} (c : Bool) (x : A) (a b : List A) → keep c x (a ++ b) ≡ keep c x a ++ b
keep_append true x a b = refl
keep_append false x a b = refl

pub filter-append : {A : Type 0} (f : A → Bool) (a b : List A) → filter f (a ++ b) ≡ filter f a ++ filter f b
filter-append f [] b = refl
filter-append f (x ∷ a) b = ap (keep (f x) x) (filter-append f a b) ∙ keep_append (f x) x (filter f a) (filter f b)

pub each-filter : {A B : Type 0} (f : A → B) (g : A → Bool) (l : List A) → each (λ x. map f (filter g (x ∷ []))) l ≡ map f (filter g l)
each-filter f g [] = refl
each-filter f g (x ∷ l) = by (g x) (λ e. rw e (ap (λ k. f x ∷ k) (each-filter f g l))) (λ e. rw e (each-filter f g l))

pub each-one : {A B : Type 0} (f : A → B) (l : List A) → each (λ x. f x ∷ []) l ≡ map f l
each-one f [] = refl
each-one f (x ∷ l) = ap (λ k. f x ∷ k) (each-one f l)

-- one list for each element, of one element
pub each-single : {A B : Type 0} (f : A → List B) (g : A → B) (l : List A) → ((x : A) → In x l → f x ≡ g x ∷ []) → each f l ≡ map g l
each-single f g l h = each_same f (λ x. g x ∷ []) l h ∙ each-one g l

pub filter-each : {A B : Type 0} (t : B → Bool) (f : A → List B) (l : List A) → filter t (each f l) ≡ each (λ x. filter t (f x)) l
filter-each t f [] = refl
filter-each t f (x ∷ l) = filter-append t (f x) (each f l) ∙ ap (λ k. filter t (f x) ++ k) (filter-each t f l)

-- ---- tests

pub any_append : {A : Type 0} (f : A → Bool) (a b : List A) → any f (a ++ b) ≡ (any f a || any f b)
any_append f [] b = refl
any_append f (x ∷ a) b = rw (any_append f a b) (sym (or_assoc (f x) (any f a) (any f b)))

pub all_append : {A : Type 0} (f : A → Bool) (a b : List A) → all f (a ++ b) ≡ (all f a && all f b)
all_append f [] b = refl
all_append f (x ∷ a) b = rw (all_append f a b) (sym (and_assoc (f x) (all f a) (all f b)))

pub any-map : {A B : Type 0} (f : B → Bool) (g : A → B) (l : List A) → any f (map g l) ≡ any (λ x. f (g x)) l
any-map f g [] = refl
any-map f g (x ∷ l) = ap (λ b. f (g x) || b) (any-map f g l)

pub all_map : {A B : Type 0} (f : B → Bool) (g : A → B) (l : List A) → all f (map g l) ≡ all (λ x. f (g x)) l
all_map f g [] = refl
all_map f g (x ∷ l) = ap (λ b. f (g x) && b) (all_map f g l)

pub null-map : {A B : Type 0} (f : A → B) (l : List A) → null (map f l) ≡ null l
null-map f [] = refl
null-map f (x ∷ l) = refl

pub repeats-map : {A B : Type 0} (s : B → B → Bool) (f : A → B) (l : List A) → repeats s (map f l) ≡ repeats (λ x y. s (f x) (f y)) l
repeats-map s f [] = refl
repeats-map s f (x ∷ l) = ap₂ (λ (p q : Bool). p || q) (any-map (s (f x)) f l) (repeats-map s f l)

pub any-each : {A B : Type 0} (g : B → Bool) (f : A → List B) (l : List A) → any g (each f l) ≡ any (λ x. any g (f x)) l
any-each g f [] = refl
any-each g f (x ∷ l) = any_append g (f x) (each f l) ∙ ap (λ b. any g (f x) || b) (any-each g f l)

pub all-each : {A B : Type 0} (g : B → Bool) (f : A → List B) (l : List A) → all g (each f l) ≡ all (λ x. all g (f x)) l
all-each g f [] = refl
all-each g f (x ∷ l) = all_append g (f x) (each f l) ∙ ap (λ b. all g (f x) && b) (all-each g f l)

-- ---- tests that agree on each element

module _ {A : Type 0} (f g : A → Bool) (h : (x : A) → f x ≡ g x) where
  pub any-alike : (l : List A) → any f l ≡ any g l
  any-alike [] = refl
  any-alike (x ∷ l) = ap₂ (λ a b. a || b) (h x) (any-alike l)

  pub all_alike : (l : List A) → all f l ≡ all g l
  all_alike [] = refl
  all_alike (x ∷ l) = ap₂ (λ a b. a && b) (h x) (all_alike l)

  pub filter_alike : (l : List A) → filter f l ≡ filter g l
  filter_alike [] = refl
  filter_alike (x ∷ l) = ap₂ (λ b k. keep b x k) (h x) (filter_alike l)

  pub first_alike : (l : List A) → first_of f l ≡ first_of g l
  first_alike [] = refl
  first_alike (x ∷ l) = ap₂ (λ b k. cond b (x ∷ []) k) (h x) (first_alike l)

pub repeats-alike : {A : Type 0} (s r : A → A → Bool) → ((x y : A) → s x y ≡ r x y) → (l : List A) → repeats s l ≡ repeats r l
repeats-alike s r h [] = refl
repeats-alike s r h (x ∷ l) = ap₂ (λ a b. a || b) (any-alike (s x) (r x) (h x) l) (repeats-alike s r h l)
