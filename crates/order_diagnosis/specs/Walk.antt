-- What a step of the search goes by, and what it finds.
use Rattle.std.specs.Prelude.{true, false, ◌&&◌, not, List, [], ◌∷◌, ◌++◌, map, ◌≡◌, refl, ℕ, suc, ◌+◌, ◌≤◌, ◌<◌, ltb, length, get_or, Option, MatchOption}
use Rattle.std.proofs.Common.{append-nil, ap, ◌∙◌, zero-le, arith, ltb-true}
use Rattle.std.proofs.Math.Path.{sym}
use Rattle.std.proofs.lemmas.Bool.{not-false}
use Rattle.lists.specs.Lists.{any, null, each, first_of, place_of, filter}
use Rattle.lists.specs.Tests.{by, never, or-false-left, or-false-right, null-nil}
use Rattle.lists.specs.Appending.{map-append, each_append}
use Rattle.rows.specs.Rows.{has_bit}
use Rattle.rows.specs.RowLaws.{bit-none}
use Rattle.bitsets.specs.Bitsets.{more}
use Rattle.order_form.specs.Lists.{first_of-placed, first_of-beyond, first_of-nil, any-tab-out, tab, tab-at, filter-tab-yes, filter-tab-no, elem, below, below_all, below-yes, below-no, below-same}
use Rattle.order_form.specs.Reading.{parent_at, how_many, listed, self_in, listed-length}
use Rattle.order_form.specs.declared.Parent.{Parent}
use Rattle.order_form.specs.Rounds.{round, placed, final, lists_self, rests, earlier}
use Rattle.order_form.specs.declared.Parents.{Parents}
use Rattle.order_placed.specs.Placing.{off, Plain}
use Rattle.order_placed.specs.PlacingLaws.{off-step}
use Rattle.emitting.specs.declared.Row.{Row}
use Rattle.emitting.specs.declared.Kind.TheVariants.{ListsSelf}
use Rattle.order_diagnosis.specs.Rows.{bad, bad_kind, parent_row, answer, rows, no_parent_rows, self_rows_of, self_rows}
use Rattle.order_diagnosis.specs.Path.{on-all, quiet}

-- the set has what all rounds place, and no type in it lists `self`
pub record Stage (p : Parents) (out : ℕ) : Type 0 where
  pub plain : Plain p p.count
  pub places : (x : ℕ) → has_bit out x ≡ elem x (final p)

-- neither type t nor a type of the path that leads to it is placed, and t is not on the path
pub record At (p : Parents) (out t path : ℕ) : Type 0 where
  pub stage : Stage p out
  pub type : t < p.count
  pub here : has_bit path t ≡ false
  pub left : has_bit out t ≡ false
  pub others : (x : ℕ) → has_bit path x ≡ true → has_bit out x ≡ false

-- the place of the first bad parent, if there is one
abbrev pub FirstBad : Parents → ℕ → ℕ → Option ℕ → Type 0
FirstBad p path t r = MatchOption r (how_many p t ≤ place_of (bad p path) (listed p t)) (λ i. (i < how_many p t) × (i ≡ place_of (bad p path) (listed p t)))

pub listed_at : (p : Parents) (t i : ℕ) (d : Parent) → i < how_many p t → get_or (listed p t) i d ≡ parent_at p t i
unfolding listed
listed_at p t i d h = tab-at (λ j. parent_at p t j) (how_many p t) i d h

module _ (p : Parents) (out t path : ℕ) (a : At p out t path) where
  pub fewer : off p.count path ≡ suc (off p.count (more path t))
  fewer = off-step p.count t path a.type a.here

  rows_are : rows (off p.count path) p path t
      ≡ answer p t (first_of (bad p (more path t)) (listed p t)) (each (λ (q : Parent). rows (off p.count (more path t)) p (more path t) q.place) (listed p t))
  unfolding rows
  rows_are = rw fewer

  pub rows-bad : (i : ℕ) → i ≡ place_of (bad p (more path t)) (listed p t) → i < how_many p t
      → rows (off p.count path) p path t ≡ parent_row (bad_kind p (parent_at p t i)) p t (parent_at p t i) ∷ []
  rows-bad i e h =
      let l : place_of (bad p (more path t)) (listed p t) < length (listed p t) = omega (arith, listed-length p t) in
      let f = first_of-placed (bad p (more path t)) (listed p t) (parent_at p 0 0) l in
      let g : first_of (bad p (more path t)) (listed p t) ≡ parent_at p t i ∷ [] =
      f ∙ ap (λ (q : Parent). q ∷ []) (ap (λ (j : ℕ). get_or (listed p t) j (parent_at p 0 0)) (sym e) ∙ listed_at p t i (parent_at p 0 0) h) in
      rows_are
      ∙ ap
      (λ (l : List Parent). answer p t l (each (λ (q : Parent). rows (off p.count (more path t)) p (more path t) q.place) (listed p t)))
      g

  none-bad : how_many p t ≤ place_of (bad p (more path t)) (listed p t) → first_of (bad p (more path t)) (listed p t) ≡ []
  none-bad h = first_of-beyond (bad p (more path t)) (listed p t) (omega (arith, listed-length p t))

  pub rows_on : how_many p t ≤ place_of (bad p (more path t)) (listed p t)
      → rows (off p.count path) p path t ≡ each (λ (q : Parent). rows (off p.count (more path t)) p (more path t) q.place) (listed p t)
  rows_on h =
      rows_are
      ∙ ap
      (λ (l : List Parent). answer p t l (each (λ (q : Parent). rows (off p.count (more path t)) p (more path t) q.place) (listed p t)))
      (none-bad h)

  others-on : (x : ℕ) → has_bit (more path t) x ≡ true → has_bit out x ≡ false
  others-on = on-all (λ x. has_bit out x ≡ false) path t a.left a.others

  -- a parent that is placed has no rows
  pub pass : (d x : ℕ) → has_bit out x ≡ true → rows d p (more path t) x ≡ []
  unfolding final
  pass d x e =
      quiet p p.count d (more path t) x a.stage.plain
      (sym (a.stage.places x) ∙ e)
      (λ y i. sym (a.stage.places y) ∙ others-on y i)

  -- where no parent is bad, each is a type, and not on the path
  fair : (i : ℕ) → how_many p t ≤ place_of (bad p (more path t)) (listed p t) → i < how_many p t → bad p (more path t) (parent_at p t i) ≡ false
  unfolding listed
  fair i n h = any-tab-out (λ j. parent_at p t j) (bad p (more path t)) (how_many p t) i (first_of-nil (bad p (more path t)) (listed p t) (none-bad n)) h

  pub declared : (i : ℕ) → how_many p t ≤ place_of (bad p (more path t)) (listed p t) → i < how_many p t → (parent_at p t i).place < p.count
  declared i n h =
      let x : ℕ = (parent_at p t i).place in
      ltb-true x p.count (not-false (ltb x p.count) (or-false-left (not (ltb x p.count)) (has_bit (more path t) x) (fair i n h)))

  -- from a parent that is not placed, the search goes on
  pub onward : (i : ℕ) → how_many p t ≤ place_of (bad p (more path t)) (listed p t) → i < how_many p t → has_bit out (parent_at p t i).place ≡ false
      → At p out (parent_at p t i).place (more path t)
  onward i n h l =
      let x : ℕ = (parent_at p t i).place in
      record {
        stage = a.stage;
        type = declared i n h;
        here = or-false-right (not (ltb x p.count)) (has_bit (more path t) x) (fair i n h);
        left = l;
        others = others-on;
      }

-- ---- the types in turn

off-none : (n : ℕ) → off n 0 ≡ n
unfolding off
off-none n = below_all (λ x. not (has_bit 0 x)) n (λ x l. rw (bit-none x))

-- a type that is not placed, where the search begins
pub at-start : (p : Parents) (out : ℕ) → Stage p out → (t : ℕ) → t < p.count → has_bit out t ≡ false → At p out t 0
at-start p out s t h l = record { stage = s; type = h; here = bit-none t; left = l; others = λ x e. never e (bit-none x) }

-- the rows of the types below t that are not placed
unfoldable pub before : Parents → ℕ → ℕ → List Row
before p out t = each (rows (off p.count 0) p 0) (below (λ x. not (has_bit out x)) t)

pub before-yes : (p : Parents) (out t : ℕ) → has_bit out t ≡ false → before p out (t + 1) ≡ before p out t ++ rows (off p.count 0) p 0 t
unfolding before
before-yes p out t e = rw (below-yes (λ x. not (has_bit out x)) t (rw e), each_append, append-nil)

pub before-no : (p : Parents) (out t : ℕ) → has_bit out t ≡ true → before p out (t + 1) ≡ before p out t
unfolding before
before-no p out t e = rw (below-no (λ x. not (has_bit out x)) t (rw e))

pub before-all : (p : Parents) (out : ℕ) → Stage p out → before p out p.count ≡ no_parent_rows p (final p)
unfolding before no_parent_rows
before-all p out s =
    ap (each (rows (off p.count 0) p 0)) (below-same (λ x. not (has_bit out x)) (λ x. not (elem x (final p))) p.count (λ x h. ap not (s.places x)))
    ∙ ap (λ (n : ℕ). each (rows n p 0) (below (λ x. not (elem x (final p))) p.count)) (off-none p.count)

-- the rows of kind 1 of the types below t
unfoldable pub self_before : Parents → ℕ → List Row
self_before p t = each (λ x. self_rows_of p x (listed p x)) (below (λ x. true) t)

pub self-step : (p : Parents) (t : ℕ) → self_before p (t + 1) ≡ self_before p t ++ self_rows_of p t (listed p t)
unfolding self_before
self-step p t = rw (below-yes (λ x. true) t refl, each_append, append-nil)

pub self-all : (p : Parents) → self_before p p.count ≡ self_rows p
unfolding self_before self_rows
self-all p = refl

-- the rows of kind 1 of one type, with one listing more
pub self-yes : (p : Parents) (t : ℕ) (f : ℕ → Parent) (i : ℕ) → self_in p (f i) ≡ true → self_rows_of p t (tab f (i + 1)) ≡ self_rows_of p t (tab f i) ++ (parent_row ListsSelf p t (f i) ∷ [])
self-yes p t f i e = ap (map (parent_row ListsSelf p t)) (filter-tab-yes f (self_in p) i e) ∙ map-append (parent_row ListsSelf p t) (filter (self_in p) (tab f i)) (f i ∷ [])

pub self-no : (p : Parents) (t : ℕ) (f : ℕ → Parent) (i : ℕ) → self_in p (f i) ≡ false → self_rows_of p t (tab f (i + 1)) ≡ self_rows_of p t (tab f i)
self-no p t f i e = ap (map (parent_row ListsSelf p t)) (filter-tab-no f (self_in p) i e)

-- ---- where the cycle diagnosis is consulted

-- no placed type lists `self`: none lists it, or none was ready in round one and none is placed
pub plain-final : (p : Parents) → (lists_self p && not (null (placed p 1))) ≡ false → Plain p p.count
unfolding lists_self placed round
plain-final p e x i =
    by (lists_self p)
    (λ q.
    let n : null (placed p 1) ≡ true = not-false (null (placed p 1)) (sym (rw q) ∙ e) in
    let z : placed p p.count ≡ [] = rests p 0 p.count zero-le (null-nil (placed p 1) n) in
    never i (ap (elem x) z))
    (λ q. any-tab-out (listed p) (λ (l : List Parent). any (self_in p) l) p.count x q (earlier p p.count x i).0)
