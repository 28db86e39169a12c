-- How far the words that go on with a hyphen reach, and the order of names that this gives by word numbers.
use Rattle.std.specs.Prelude.{Bool, true, false, ◌&&◌, ◌||◌, not, cond, drop, ◌≡◌, refl, ℕ, zero, suc, ◌+◌, ◌-◌, ◌≤◌, ◌<◌, eqb, ltb, leb, length, get_or}
use mathlib.Core.List.Memᴰ
use mathlib.Core.List.{List, [], ◌∷◌, ◌++◌}
use Rattle.std.proofs.Common.{⊎_elim, sym, ◌∙◌, subst, arith, eq-eqb, eqb-true, length-drop, get_or-drop}
use Rattle.std.proofs.lemmas.Bool.{eqb-false}
use Rattle.lists.specs.Lists.{In, Sorted, null, list_before, place_of}
use Rattle.lists.specs.Tests.{by, never, not_so, and_left, and_right, and_both}
use Rattle.lists.specs.Lexicographic.{before-cases}
use Rattle.lists.specs.Places.{get_d-in, sorted-places}
use Rattle.definitions.specs.Records.{Name}
use Rattle.definitions.specs.Comparisons.{bytes_before, hyphen}

-- whether v begins with the bytes of w
abbrev pub begins : List ℕ → List ℕ → Bool
begins [] v = true
begins (x ∷ w) [] = false
begins (x ∷ w) (y ∷ v) = eqb x y && begins w v

-- whether v is w and a hyphen, and what may follow
abbrev pub goes_on : List ℕ → List ℕ → Bool
goes_on w v = begins (w ++ (hyphen ∷ [])) v

-- the last number up to which all words behind a are word a and a hyphen, and what may follow: they stand directly behind it
unfoldable pub reach : List (List ℕ) → ℕ → ℕ
reach ws a = a + place_of (λ v. not (goes_on (get_or ws a []) v)) (drop (a + 1) ws)

-- no word has a hyphen
abbrev pub NoHyphen : List (List ℕ) → Type 0
NoHyphen ws = (w : List ℕ) → In w ws → (b : ℕ) → In b w → b ≡ hyphen → ⊥

-- the order of names of one or two words, by the numbers of the words: the first words decide, but that a name which goes on
-- with a dot comes behind the names whose first word goes on with a hyphen; then nothing before something, and the second word
abbrev pub reached_before : List (List ℕ) → Name → Name → Bool
reached_before ws [] [] = false
reached_before ws [] (c ∷ m) = true
reached_before ws (a ∷ n) [] = false
reached_before ws (a ∷ n) (c ∷ m) =
    cond (ltb a c) (null n || not (leb c (reach ws a))) (cond (ltb c a) (not (null m) && leb a (reach ws c)) (list_before n m))

-- ---- places in front of the first

-- the test fails of what stands before the place
place-before : {A : Type 0} (f : A → Bool) (l : List A) (d : A) (i : ℕ) → i < place_of f l → f (get_or l i d) ≡ false
place-before f [] d i h = absurd (omega arith)
place-before f (x ∷ l) d zero h = not_so (λ e. absurd (omega (arith, rw e at h)))
place-before f (x ∷ l) d (suc i) h = by (f x) (λ e. absurd (omega (arith, rw e at h))) (λ e. place-before f l d i (omega (arith, rw e at h)))

-- and where it fails up to n, the place is beyond
place-beyond : {A : Type 0} (f : A → Bool) (l : List A) (d : A) (n : ℕ) → n ≤ length l → ((i : ℕ) → i < n → f (get_or l i d) ≡ false) → n ≤ place_of f l
place-beyond f l d zero h k = omega arith
place-beyond f [] d (suc n) h k = absurd (omega arith)
place-beyond f (x ∷ l) d (suc n) h k =
    let p = place-beyond f l d n (omega arith) (λ i g. k (suc i) (omega arith)) in
    rw (k 0 (omega arith)) (omega arith)

-- ---- how far words reach

pub reach-least : (ws : List (List ℕ)) (a : ℕ) → a ≤ reach ws a
unfolding reach
reach-least ws a = omega arith

-- what stands behind a, up to there, goes on with a hyphen
pub reach-goes : (ws : List (List ℕ)) (a c : ℕ) → a < c → c ≤ reach ws a → goes_on (get_or ws a []) (get_or ws c []) ≡ true
unfolding reach
reach-goes ws a c h k =
    let f : List ℕ → Bool = λ v. not (goes_on (get_or ws a []) v) in
    let i : c - (a + 1) < place_of f (drop (a + 1) ws) = omega arith in
    let e : a + 1 + (c - (a + 1)) ≡ c = omega arith in
    let p : f (get_or ws c []) ≡ false =
    subst (λ j. f (get_or ws j []) ≡ false) e
    (rw (get_or-drop (a + 1) ws (c - (a + 1)) []) at (place-before f (drop (a + 1) ws) [] (c - (a + 1)) i)) in
    by (goes_on (get_or ws a []) (get_or ws c [])) (λ q. q) (λ q. never refl (rw q at p))

-- and where all up to c go on with a hyphen, a reaches c
reach-all : (ws : List (List ℕ)) (a c : ℕ) → c < length ws → ((i : ℕ) → a < i → i ≤ c → goes_on (get_or ws a []) (get_or ws i []) ≡ true) → c ≤ reach ws a
unfolding reach
reach-all ws a c h k =
    let f : List ℕ → Bool = λ v. not (goes_on (get_or ws a []) v) in
    let p : c - a ≤ place_of f (drop (a + 1) ws) =
    place-beyond f (drop (a + 1) ws) [] (c - a) (omega (arith, length-drop (a + 1) ws))
    (λ i g. rw (get_or-drop (a + 1) ws i []) (rw (k (a + 1 + i) (omega arith) (omega arith)) refl)) in
    omega arith

-- what stands between v and a word that goes on from v with a hyphen goes on from v with a hyphen
between-goes : (v u w : List ℕ) → ((b : ℕ) → In b u → hyphen ≤ b) → list_before v u ≡ true → list_before u w ≡ true → goes_on v w ≡ true → goes_on v u ≡ true
between-goes [] [] w least p q e = never p refl
between-goes [] (y ∷ u) [] least p q e = never e refl
between-goes [] (y ∷ u) (z ∷ w) least p q e =
    let h = eqb-true hyphen z (and_left (eqb hyphen z) true e) in
    let i = least y (Memᴰ.head refl) in
    and_both (eq-eqb hyphen y (⊎_elim (λ (k : y < z). omega arith) (λ k. h ∙ sym k.0) (before-cases y z u w q))) refl
between-goes (x ∷ v) [] w least p q e = never p refl
between-goes (x ∷ v) (y ∷ u) [] least p q e = never e refl
between-goes (x ∷ v) (y ∷ u) (z ∷ w) least p q e =
    let h : x ≡ z = eqb-true x z (and_left (eqb x z) (goes_on v w) e) in
    ⊎_elim
    (λ (k : x < y). ⊎_elim (λ (l : y < z). absurd (omega arith)) (λ l. absurd (omega (arith, l.0))) (before-cases y z u w q))
    (λ k.
    ⊎_elim
    (λ (l : y < z). absurd (omega (arith, k.0)))
    (λ l.
    and_both (eq-eqb x y k.0)
    (between-goes v u w (λ b i. least b (Memᴰ.tail i)) k.1 l.1 (and_right (eqb x z) (goes_on v w) e)))
    (before-cases y z u w q))
    (before-cases x y v u p)

-- among words that ascend, those that go on with a hyphen stand directly behind
pub reach-far : (ws : List (List ℕ)) → Sorted (λ v w. bytes_before v w ≡ true) ws → ((w : List ℕ) → In w ws → (b : ℕ) → In b w → hyphen ≤ b) →
    (a c : ℕ) → a < c → c < length ws → goes_on (get_or ws a []) (get_or ws c []) ≡ true → c ≤ reach ws a
unfolding bytes_before
reach-far ws s least a c h k e =
    reach-all ws a c k
    (λ i l m.
    by (eqb i c)
    (λ q. rw (eqb-true i c q) e)
    (λ q.
    between-goes (get_or ws a []) (get_or ws i []) (get_or ws c []) (least (get_or ws i []) (get_d-in ws [] i (omega arith)))
    (sorted-places (λ v u. bytes_before v u ≡ true) ws [] s a i l (omega arith))
    (sorted-places (λ v u. bytes_before v u ≡ true) ws [] s i c (omega (arith, eqb-false i c q)) k)
    e))

-- without hyphens no word goes on with one
pub goes-has : (v w : List ℕ) → goes_on v w ≡ true → In hyphen w
goes-has [] [] e = never e refl
goes-has [] (y ∷ w) e = Memᴰ.head (eqb-true hyphen y (and_left (eqb hyphen y) true e))
goes-has (x ∷ v) [] e = never e refl
goes-has (x ∷ v) (y ∷ w) e = Memᴰ.tail (goes-has v w (and_right (eqb x y) (goes_on v w) e))
