-- Names ascend as their numbers do.
use Rattle.std.specs.Prelude.{Bool, true, false, ◌&&◌, ◌||◌, not, cond, List, [], ◌∷◌, ◌≡◌, refl, ℕ, ◌+◌, ◌-◌, ◌*◌, ◌/◌, ◌%◌, ◌<◌, ◌≤◌, length, get_or}
use Rattle.std.proofs.Common.{sym, ap, ap₂, ◌∙◌, arith, eqb, ltb, leb, eq-eqb, ne_eqb, eqb-true, lt-ltb, le-ltb, ltb-true, ltb-false, le-leb, length-drop}
use Rattle.std.proofs.lemmas.Bool.{eqb-false}
use Rattle.lists.specs.Lists.{list_before}
use Rattle.lists.specs.Tests.{by, same_test, never, and_left, and_right, and_both}
use Rattle.lists.specs.Places.{place-le}
use Rattle.definitions.specs.Comparisons.{name_before, hyphen}
use Rattle.law_orders.specs.Reach.{goes_on, reach, reached_before, reach-least, reach-goes, reach-far}
use Rattle.law_orders.specs.Statements.{DotFree}
use Rattle.law_orders.proofs.Spelling.{dot-free-above-dot, spelling-is-word-order, reached-order, name-worded}
use Rattle.sheet_keys.specs.Keys.{name_of_key}
use Rattle.sheet_reach.specs.Reach.{Reaches, LegalKey, rank_by, rank_of}
use Rattle.sheet_reach.specs.declared.Reach.{Reach}

-- ---- keys ascend as names do by word number

pub key-before : (a b : ℕ) → list_before (name_of_key a) (name_of_key b) ≡ ltb a b
unfolding name_of_key
key-before a b = go (eqb (a % 256) 0) refl (eqb (b % 256) 0) refl
  where
    words : (t : Bool) → t ≡ ltb (a % 256) (b % 256) → (ltb (a / 256) (b / 256) || (eqb (a / 256) (b / 256) && t)) ≡ ltb a b
    words t e =
        by (ltb (a / 256) (b / 256))
        (λ l. rw l (sym (lt-ltb a b (omega (arith, ltb-true (a / 256) (b / 256) l)))))
        (λ l.
        by (eqb (a / 256) (b / 256))
        (λ q. rw (l, q, e) (same (eqb-true (a / 256) (b / 256) q)))
        (λ q. rw (l, q) (sym (le-ltb a b (omega (arith, ltb-false (a / 256) (b / 256) l, eqb-false (a / 256) (b / 256) q))))))
      where
        same : a / 256 ≡ b / 256 → ltb (a % 256) (b % 256) ≡ ltb a b
        same q =
            same_test
            (λ l. lt-ltb a b (omega (arith, ltb-true (a % 256) (b % 256) l)))
            (λ l. lt-ltb (a % 256) (b % 256) (omega (arith, ltb-true a b l)))

    go : (s : Bool) → eqb (a % 256) 0 ≡ s → (t : Bool) → eqb (b % 256) 0 ≡ t →
        list_before ((a / 256) ∷ cond s [] ((a % 256 - 1) ∷ [])) ((b / 256) ∷ cond t [] ((b % 256 - 1) ∷ [])) ≡ ltb a b
    go true p true q = words false (sym (le-ltb (a % 256) (b % 256) (omega (arith, eqb-true (a % 256) 0 p, eqb-true (b % 256) 0 q))))
    go true p false q = words true (sym (lt-ltb (a % 256) (b % 256) (omega (arith, eqb-true (a % 256) 0 p, eqb-false (b % 256) 0 q))))
    go false p true q = words false (sym (le-ltb (a % 256) (b % 256) (omega (arith, eqb-false (a % 256) 0 p, eqb-true (b % 256) 0 q))))
    go false p false q =
        words (ltb (a % 256 - 1) (b % 256 - 1) || (eqb (a % 256 - 1) (b % 256 - 1) && false))
        (by (ltb (a % 256 - 1) (b % 256 - 1))
        (λ l. rw l (sym (lt-ltb (a % 256) (b % 256) (omega (arith, ltb-true (a % 256 - 1) (b % 256 - 1) l)))))
        (λ l. rw l (none (eqb (a % 256 - 1) (b % 256 - 1)) ∙ sym (le-ltb (a % 256) (b % 256) (omega (arith, ltb-false (a % 256 - 1) (b % 256 - 1) l, eqb-false (a % 256) 0 p, eqb-false (b % 256) 0 q))))))
      where
        none : (x : Bool) → (x && false) ≡ false
        none true = refl
        none false = refl

-- ---- what a word reaches is nested

goes-back : (v u w : List ℕ) → goes_on v u ≡ true → goes_on u w ≡ true → goes_on v w ≡ true
goes-back [] [] w e f = never e refl
goes-back [] (y ∷ u) [] e f = never f refl
goes-back [] (y ∷ u) (z ∷ w) e f =
    let p : hyphen ≡ y = eqb-true hyphen y (and_left (eqb hyphen y) true e) in
    let q : y ≡ z = eqb-true y z (and_left (eqb y z) (goes_on u w) f) in
    and_both (eq-eqb hyphen z (p ∙ q)) refl
goes-back (x ∷ v) [] w e f = never e refl
goes-back (x ∷ v) (y ∷ u) [] e f = never f refl
goes-back (x ∷ v) (y ∷ u) (z ∷ w) e f =
    let p : x ≡ y = eqb-true x y (and_left (eqb x y) (goes_on v u) e) in
    let q : y ≡ z = eqb-true y z (and_left (eqb y z) (goes_on u w) f) in
    and_both (eq-eqb x z (p ∙ q)) (goes-back v u w (and_right (eqb x y) (goes_on v u) e) (and_right (eqb y z) (goes_on u w) f))

reach-below : (ws : List (List ℕ)) (a : ℕ) → a < length ws → reach ws a < length ws
unfolding reach
reach-below ws a h =
    omega (arith, place-le (λ v. not (goes_on (get_or ws a []) v)) (Rattle.std.proofs.Math.ListN.drop (a + 1) ws), length-drop (a + 1) ws)

module _ (ws : List (List ℕ)) (f : DotFree ws) where
  nested : (a c : ℕ) → c < length ws → a < c → c ≤ reach ws a → reach ws c ≤ reach ws a
  nested a c h l k =
      by (ltb c (reach ws c))
      (λ e.
      let m = ltb-true c (reach ws c) e in
      reach-far ws f.ascend f.least a (reach ws c) (omega arith) (reach-below ws c h)
      (goes-back (get_or ws a []) (get_or ws c []) (get_or ws (reach ws c) []) (reach-goes ws a c l k) (reach-goes ws c (reach ws c) m (omega arith))))
      (λ e. omega (arith, ltb-false c (reach ws c) e))

-- ---- numbers that ascend so

-- of words x and y that reach R and S
module _ (x y R S : ℕ) (few : x < 200) (low : y < 200) (least : x ≤ R) (from : y ≤ S) (inner : x < y → y ≤ R → S ≤ R) (outer : y < x → x ≤ S → R ≤ S) where
  abbrev ahead : Bool → Bool → Bool → Bool
  ahead one two rest = cond (ltb x y) (one || not (leb y R)) (cond (ltb y x) (not two && leb x S) rest)

  words-alone : ltb (x * 131072) (y * 131072) ≡ ahead true true false
  words-alone =
      by (ltb x y)
      (λ e. rw e (lt-ltb (x * 131072) (y * 131072) (omega (arith, ltb-true x y e))))
      (λ e. rw (e, le-ltb (x * 131072) (y * 131072) (omega (arith, ltb-false x y e))) (by (ltb y x) (λ g. rw g refl) (λ g. rw g refl)))

  first-alone : (v : ℕ) → v < 256 → ltb (x * 131072) (S * 131072 + 65536 + (255 - y) * 256 + v) ≡ ahead true false true
  first-alone v b =
      by (ltb x y)
      (λ e. rw e (lt-ltb (x * 131072) (S * 131072 + 65536 + (255 - y) * 256 + v) (omega (arith, ltb-true x y e))))
      (λ e. rw e (by (ltb y x)
      (λ g. rw g (by (leb x S)
      (λ l. rw l (lt-ltb (x * 131072) (S * 131072 + 65536 + (255 - y) * 256 + v) (omega (arith, Rattle.std.proofs.Common.leb-true x S l))))
      (λ l. rw l (le-ltb (x * 131072) (S * 131072 + 65536 + (255 - y) * 256 + v) (omega (arith, Rattle.std.proofs.Common.leb-false x S l))))))
      (λ g. rw g (lt-ltb (x * 131072) (S * 131072 + 65536 + (255 - y) * 256 + v) (omega (arith, ltb-false y x g))))))

  second-alone : (u : ℕ) → u < 256 → ltb (R * 131072 + 65536 + (255 - x) * 256 + u) (y * 131072) ≡ ahead false true false
  second-alone u b =
      by (ltb x y)
      (λ e. rw e (by (leb y R)
      (λ l. rw l (le-ltb (R * 131072 + 65536 + (255 - x) * 256 + u) (y * 131072) (omega (arith, Rattle.std.proofs.Common.leb-true y R l))))
      (λ l. rw l (lt-ltb (R * 131072 + 65536 + (255 - x) * 256 + u) (y * 131072) (omega (arith, Rattle.std.proofs.Common.leb-false y R l))))))
      (λ e. rw (e, le-ltb (R * 131072 + 65536 + (255 - x) * 256 + u) (y * 131072) (omega (arith, ltb-false x y e))) (by (ltb y x) (λ g. rw g refl) (λ g. rw g refl)))

  both : (u v : ℕ) → u < 256 → v < 256 → (x ≡ y → R ≡ S) → ltb (R * 131072 + 65536 + (255 - x) * 256 + u) (S * 131072 + 65536 + (255 - y) * 256 + v) ≡ ahead false false (ltb u v)
  both u v b d same =
      let A = R * 131072 + 65536 + (255 - x) * 256 + u in
      let B = S * 131072 + 65536 + (255 - y) * 256 + v in
      by (ltb x y)
      (λ e.
      let h = ltb-true x y e in
      rw e (by (leb y R)
      (λ l. let k = inner h (Rattle.std.proofs.Common.leb-true y R l) in rw l (le-ltb A B (omega arith)))
      (λ l. let k = Rattle.std.proofs.Common.leb-false y R l in rw l (lt-ltb A B (omega arith)))))
      (λ e.
      rw e (by (ltb y x)
      (λ g.
      let h = ltb-true y x g in
      rw g (by (leb x S)
      (λ l. let k = outer h (Rattle.std.proofs.Common.leb-true x S l) in rw l (lt-ltb A B (omega arith)))
      (λ l. let k = Rattle.std.proofs.Common.leb-false x S l in rw l (le-ltb A B (omega arith)))))
      (λ g.
      let q : x ≡ y = omega (arith, ltb-false x y e, ltb-false y x g) in
      let r = same q in
      rw g (same_test (λ t. let w = ltb-true A B t in lt-ltb u v (omega arith)) (λ t. let w = ltb-true u v t in lt-ltb A B (omega arith))))))

-- ---- names

key-first : (ws : List (List ℕ)) (k : ℕ) → LegalKey ws k → k / 256 < length ws
unfolding name_of_key
key-first ws k h = h.0

-- of the second words, each one more than its number or 0
seconds : (u v : ℕ) → eqb u 0 ≡ false → eqb v 0 ≡ false → list_before ((u - 1) ∷ []) ((v - 1) ∷ []) ≡ ltb u v
seconds u v e f =
    by (ltb (u - 1) (v - 1))
    (λ l. rw l (sym (lt-ltb u v (omega (arith, ltb-true (u - 1) (v - 1) l)))))
    (λ l. rw l (none (eqb (u - 1) (v - 1)) ∙ sym (le-ltb u v (omega (arith, ltb-false (u - 1) (v - 1) l, eqb-false u 0 e, eqb-false v 0 f)))))
  where
    none : (x : Bool) → (x && false) ≡ false
    none true = refl
    none false = refl

module _ (ws : List (List ℕ)) (f : DotFree ws) (r : Reach) (h : Reaches ws r) (a b : ℕ) (la : LegalKey ws a) (lb : LegalKey ws b) where
  abbrev x : ℕ
  x = a / 256

  abbrev y : ℕ
  y = b / 256

  lower : x < length ws
  lower = key-first ws a la

  upper : y < length ws
  upper = key-first ws b lb

  -- the comparison of their numbers, where they are of one word or of two
  module _ (on : r.any ≡ true) where
    abbrev ranked : Bool → Bool → ℕ → ℕ → Bool
    ranked s t u v =
        ltb (cond s (x * 131072) (get_or r.last x 0 * 131072 + 65536 + (255 - x) * 256 + u))
        (cond t (y * 131072) (get_or r.last y 0 * 131072 + 65536 + (255 - y) * 256 + v))

    abbrev named : Bool → Bool → ℕ → ℕ → Bool
    named s t u v = reached_before ws (x ∷ cond s [] ((u - 1) ∷ [])) (y ∷ cond t [] ((v - 1) ∷ []))

    least-x : x ≤ reach ws x
    least-x = reach-least ws x

    least-y : y ≤ reach ws y
    least-y = reach-least ws y

    inner : x < y → y ≤ reach ws x → reach ws y ≤ reach ws x
    inner l k = nested ws f x y upper l k

    outer : y < x → x ≤ reach ws y → reach ws x ≤ reach ws y
    outer l k = nested ws f y x lower l k

    by-words : (s t : Bool) (u v : ℕ) → u < 256 → v < 256 → eqb u 0 ≡ s → eqb v 0 ≡ t → ranked s t u v ≡ named s t u v
    by-words true true u v d e p q =
        words-alone x y (reach ws x) (reach ws y) (omega (arith, lower, h.few)) (omega (arith, upper, h.few)) least-x least-y inner outer
    by-words true false u v d e p q =
        rw (h.each on y upper) (first-alone x y (reach ws x) (reach ws y) (omega (arith, lower, h.few)) (omega (arith, upper, h.few)) least-x least-y inner outer v e)
    by-words false true u v d e p q =
        rw (h.each on x lower) (second-alone x y (reach ws x) (reach ws y) (omega (arith, lower, h.few)) (omega (arith, upper, h.few)) least-x least-y inner outer u d)
    by-words false false u v d e p q =
        ap₂ (λ (m n : ℕ). ltb (m * 131072 + 65536 + (255 - x) * 256 + u) (n * 131072 + 65536 + (255 - y) * 256 + v)) (h.each on x lower) (h.each on y upper)
        ∙ both x y (reach ws x) (reach ws y) (omega (arith, lower, h.few)) (omega (arith, upper, h.few)) least-x least-y inner outer u v d e (ap (reach ws))
        ∙ ap (ahead x y (reach ws x) (reach ws y) (omega (arith, lower, h.few)) (omega (arith, upper, h.few)) least-x least-y inner outer false false) (sym (seconds u v p q))

    by-rank : ltb (rank_by r.last a) (rank_by r.last b) ≡ reached_before ws (name_of_key a) (name_of_key b)
    unfolding name_of_key
    by-rank = by-words (eqb (a % 256) 0) (eqb (b % 256) 0) (a % 256) (b % 256) (omega arith) (omega arith) refl refl

  -- names ascend as their numbers do
  pub rank-before : ltb (rank_of r a) (rank_of r b) ≡ name_before ws (name_of_key a) (name_of_key b)
  unfolding rank_of
  rank-before =
      by r.any
      (λ on. rw on (by-rank on) ∙ sym (reached-order ws f (name_of_key a) (name_of_key b) la lb))
      (λ off.
      rw off
      (sym (key-before a b)
      ∙ sym (spelling-is-word-order ws (dot-free-above-dot ws f (h.none off)) (name_of_key a) (name_of_key b)
      (name-worded ws (name_of_key a) la) (name-worded ws (name_of_key b) lb))))
