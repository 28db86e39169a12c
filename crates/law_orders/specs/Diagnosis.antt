-- The rows of refusal 8: which types have some.
use Rattle.std.specs.Prelude.{true, false, ◌&&◌, not, ◌↔◌, ◌≡◌, length}
use mathlib.Core.List.Memᴰ
use mathlib.Core.List.{List, [], ◌∷◌, map}
use Rattle.std.proofs.Math.Logic.{⊎_elim}
use Rattle.std.proofs.Math.Path.{refl, subst}
use Rattle.std.proofs.Common.{sym, ap, ◌∙◌, arith}
use Prim.Native.Nat.{ℕ, zero, suc, ◌+◌, ◌≤◌, ◌<◌}
use Rattle.std.proofs.lemmas.List.{length-map}
use Rattle.std.proofs.lemmas.Bool.{not-false}
use Rattle.lists.specs.Lists.{In, any, null, filter, each, first_of}
use Rattle.lists.specs.Tests.{by, never, not_so, and_left, or_cases, or-false-left, or-false-right, cons-elim, null-in, null-not, any_of, filter-in, each_in, each_none, first-none, first-not}
use Rattle.lists.specs.Sorting.{Distinct}
use Rattle.lists.specs.Counting.{pigeonhole}
use Rattle.definitions.specs.Records.{Name, TypeInfo}
use Rattle.definitions.specs.Comparisons.{elem_name}
use Rattle.definitions.specs.Map.{TypeMap, type_map_of}
use Rattle.definitions.specs.Order.{is_self, passes, last_pass, inherits_self, has_order}
use Rattle.definitions.specs.OrderRows.{parent_row, self_rows, type_named, is_bad, bad_row, find_cycles_or_bad_types, no_parent_rows, order_rows}
use Rattle.law_orders.specs.Statements.{Reaches, start, onward, CycleDiagnosis, WaitingHasRow, PlacedHasNoRow, RefusalHasRow}
use Rattle.law_orders.specs.Comparisons.{names_of, elem_in, elem_of, look-up-is, types-apart, NamesApart}
use Rattle.law_orders.specs.Passes.{Placed, Waits, ready-not, placed-type, waits-type, placed-or-waits, stays, listed-placed, last-waits, none_first, waits-not}

-- ---- one call of the walk

module _ (m : TypeMap) where
  -- a type that is declared under a name
  named-is : (p : Name) (U : TypeInfo) → In U (type_named m p) ↔ (In U m.types × (U.name ≡ p))
  named-is p U = look-up-is (λ (T : TypeInfo). T.name) m.types p U

  not-bad : (path : List Name) (p : Name) → is_bad m path p ≡ false → (In p path → ⊥) × ((U : TypeInfo) × In U (type_named m p))
  unfolding is_bad
  not-bad path p e = (
    λ i. never (elem_in i) (or-false-left (elem_name p path) (null (type_named m p)) e),
    null-not (type_named m p) (or-false-right (elem_name p path) (null (type_named m p)) e),
  )

  -- where no parent is bad the parents answer, otherwise the first bad one
  walk-on : (k : ℕ) (path : List Name) (T : TypeInfo) → first_of (is_bad m (T.name ∷ path)) T.parents ≡ []
      → find_cycles_or_bad_types (suc k) m path T ≡ each (λ p. each (find_cycles_or_bad_types k m (T.name ∷ path)) (type_named m p)) T.parents
  unfolding find_cycles_or_bad_types
  walk-on k path T e = rw (e, find_cycles_or_bad_types)

  walk-bad : (k : ℕ) (path : List Name) (T : TypeInfo) {p : Name} {ps : List Name} → first_of (is_bad m (T.name ∷ path)) T.parents ≡ p ∷ ps
      → find_cycles_or_bad_types (suc k) m path T ≡ bad_row (T.name ∷ path) T p ∷ []
  unfolding find_cycles_or_bad_types
  walk-bad k path T e = rw (e, find_cycles_or_bad_types)

  -- ---- paths

  reach-type : {path : List Name} {T : TypeInfo} → Reaches m path T → In T m.types
  unfolding last_pass
  reach-type (start w) = waits-type m (length m.types) w
  reach-type (onward {U = U} {p = p} r i b u) = ((named-is p U).0 u).0

  -- the names of a path, and of the type that it reaches, are declared
  reach-declared : {path : List Name} {T : TypeInfo} → Reaches m path T → (n : Name) → In n (T.name ∷ path) → In n (names_of m.types)
  reach-declared {T = T} (start w) n j =
      cons-elim j (λ e. Memᴰ.cast e (Memᴰ.map (λ (U : TypeInfo). U.name) (reach-type (start w)))) (λ h. absurd (Memᴰ.not-nil h))
  reach-declared {T = T} (onward r i b u) n j =
      cons-elim j (λ e. Memᴰ.cast e (Memᴰ.map (λ (U : TypeInfo). U.name) (reach-type (onward r i b u)))) (λ h. reach-declared r n h)

  -- and none is met twice
  reach-distinct : {path : List Name} {T : TypeInfo} → Reaches m path T → Distinct (T.name ∷ path)
  reach-distinct (start w) = (λ n j. absurd (Memᴰ.not-nil j), tt)
  reach-distinct (onward {path = path} {T = T} {U = U} {p = p} r i b u) =
      (λ n j e. (not-bad (T.name ∷ path) p b).0 (Memᴰ.cast (sym ((named-is p U).0 u).1 ∙ e) j), reach-distinct r)

  -- so it is shorter than the types are many
  reach-short : {path : List Name} {T : TypeInfo} → Reaches m path T → length path < length m.types
  reach-short {path} {T} r =
      let h : length (T.name ∷ path) ≤ length (names_of m.types) =
      pigeonhole (T.name ∷ path) (names_of m.types) (reach-distinct r) (reach-declared r) in
      omega (arith, length-map m.types (λ (U : TypeInfo). U.name))

  -- ---- types that wait

  -- a type that waits has a parent that waits, or a bad one
  waits-for : (T : TypeInfo) → In T (last_pass m).waiting → (path : List Name) → first_of (is_bad m path) T.parents ≡ []
      → (p : Name) × In p T.parents × (is_bad m path p ≡ false) × ((U : TypeInfo) × In U (type_named m p) × In U (last_pass m).waiting)
  unfolding last_pass
  waits-for T w path e =
      let r = ready-not m (last_pass m).placed T (last-waits m w) in
      let b = first-not (is_bad m path) e r.1 in
      let u = (not-bad path r.0 b).1 in
      let d = (named-is r.0 u.0).0 u.1 in
      (r.0, r.1, b, (u.0, u.1, ⊎_elim (λ j. absurd (r.2 u.0 j d.1)) (λ j. j) (placed-or-waits m (length m.types) d.0)))

  -- so a row is found before the depth runs out
  loud : (k : ℕ) (path : List Name) (T : TypeInfo) → Reaches m path T → In T (last_pass m).waiting → k + length path ≡ length m.types
      → null (find_cycles_or_bad_types k m path T) ≡ false
  loud zero path T r w e = absurd (omega (arith, reach-short r))
  loud (suc k) path T r w e = go (loud k (T.name ∷ path)) (first_of (is_bad m (T.name ∷ path)) T.parents) refl
    where
      go : ((U : TypeInfo) → Reaches m (T.name ∷ path) U → In U (last_pass m).waiting → k + length (T.name ∷ path) ≡ length m.types
          → null (find_cycles_or_bad_types k m (T.name ∷ path) U) ≡ false)
          → (l : List Name) → first_of (is_bad m (T.name ∷ path)) T.parents ≡ l → null (find_cycles_or_bad_types (suc k) m path T) ≡ false
      go f [] q =
          let x = waits-for T w (T.name ∷ path) q in
          let u = x.3 in
          let y = null-not (find_cycles_or_bad_types k m (T.name ∷ path) u.0) (f u.0 (onward r x.1 x.2 u.1) u.2 (omega arith)) in
          not_so (λ z.
          null-in (sym (ap null (walk-on k path T q)) ∙ z)
          (each_in (λ p. each (find_cycles_or_bad_types k m (T.name ∷ path)) (type_named m p)) x.1
          (each_in (find_cycles_or_bad_types k m (T.name ∷ path)) u.1 y.1)))
      go f (p ∷ ps) q = ap null (walk-bad k path T q)

-- ---- types that are placed

module _ (m : TypeMap) (apart : NamesApart m.types) (no_self : inherits_self m ≡ false) where
  -- no type of the path is placed after k rounds
  abbrev Clear : ℕ → List Name → Type 0
  Clear k path = (U : TypeInfo) → Placed m U k → In U.name path → ⊥

  -- what is declared under the name of a type that is placed is placed
  name-placed : (k : ℕ) {U Q : TypeInfo} {p : Name} → Placed m U k → U.name ≡ p → In Q (type_named m p) → Placed m Q k
  name-placed k {U} {Q} {p} i e v =
      let d = (named-is m p Q).0 v in
      ⊎_elim (λ j. j) (λ j. absurd (waits-not m apart k j i (e ∙ sym d.1))) (placed-or-waits m k d.0)

  clear-more : (k : ℕ) (path : List Name) (T : TypeInfo) → Waits m T k → Clear (suc k) path → Clear k (T.name ∷ path)
  clear-more k path T w c U i j = cons-elim j (λ e. waits-not m apart k w i e) (c U (stays m k i))

  parents-good : (k : ℕ) (path : List Name) (T : TypeInfo) → Waits m T k → Placed m T (suc k) → Clear (suc k) path
      → (p : Name) → In p T.parents → is_bad m (T.name ∷ path) p ≡ false
  unfolding is_bad
  parents-good k path T w i c p h =
      let r = listed-placed m no_self k i h in
      not_so (λ e.
      ⊎_elim
      (λ q. clear-more k path T w c r.0 r.1 (Memᴰ.cast r.2 (elem_of p (T.name ∷ path) q)))
      (λ q. null-in q ((named-is m p r.0).1 (placed-type m k r.1, r.2)))
      (or_cases (elem_name p (T.name ∷ path)) (null (type_named m p)) e))

  Quiet : ℕ → Type 0
  Quiet j = (k : ℕ) (path : List Name) (T : TypeInfo) → Placed m T j → Clear j path → find_cycles_or_bad_types k m path T ≡ []

  quiet_step : (j : ℕ) → Quiet j → (k : ℕ) (path : List Name) (T : TypeInfo) → Waits m T j → Placed m T (suc j) → Clear (suc j) path
      → find_cycles_or_bad_types k m path T ≡ []
  unfolding find_cycles_or_bad_types Quiet
  quiet_step j ih zero path T w i c = refl
  quiet_step j ih (suc k) path T w i c =
      walk-on m k path T (first-none (is_bad m (T.name ∷ path)) T.parents (parents-good j path T w i c))
      ∙ each_none (λ p. each (find_cycles_or_bad_types k m (T.name ∷ path)) (type_named m p)) T.parents (λ p h.
      let r = listed-placed m no_self j i h in
      each_none (find_cycles_or_bad_types k m (T.name ∷ path)) (type_named m p) (λ Q v. ih k (T.name ∷ path) Q (name-placed j r.1 r.2 v) (clear-more j path T w c)))

  -- a type that is placed has no rows, whatever path over types that are not leads to it
  quiet : (j k : ℕ) (path : List Name) (T : TypeInfo) → Placed m T j → Clear j path → find_cycles_or_bad_types k m path T ≡ []
  unfolding passes Quiet
  quiet zero k path T i c = absurd (Memᴰ.not-nil i)
  quiet (suc j) k path T i c =
      ⊎_elim
      (λ h. quiet j k path T h (λ U u. c U (stays m j u)))
      (λ w. quiet_step j (quiet j) k path T w i c)
      (placed-or-waits m j (placed-type m (suc j) i))

  -- where a type of a path is placed, what the path reaches was placed before
  reach-placed : {path : List Name} {T : TypeInfo} → Reaches m path T → (j : ℕ) (U : TypeInfo) → Placed m U (suc j) → In U.name path → Placed m T j
  reach-placed (start w) j U i h = absurd (Memᴰ.not-nil h)
  reach-placed (onward {path = path} {T = T} {U = Q} {p = p} r q b v) j U i h =
      let t : Placed m T (suc j) =
      cons-elim h
      (λ e. name-placed (suc j) i e ((named-is m T.name T).1 (reach-type m r, refl)))
      (λ e. stays m j (reach-placed r j U i e)) in
      let x = listed-placed m no_self j t q in
      name-placed j x.1 x.2 v

  quiet-reached : (j k : ℕ) (path : List Name) (T : TypeInfo) → Reaches m path T → Placed m T j → find_cycles_or_bad_types k m path T ≡ []
  unfolding passes
  quiet-reached zero k path T r i = absurd (Memᴰ.not-nil i)
  quiet-reached (suc j) k path T r i =
      ⊎_elim
      (λ h. quiet-reached j k path T r h)
      (λ w. quiet (suc j) k path T i (λ U u h. waits-not m apart j w (reach-placed r j U u h) refl))
      (placed-or-waits m j (placed-type m (suc j) i))

-- ---- the theorems

pub waiting-has-row : WaitingHasRow
waiting-has-row m path T r w k e = loud m k path T r w e

-- where a listing is `self` and round one places none, all wait
module _ (m : TypeMap) (c : CycleDiagnosis m) (self : inherits_self m ≡ true) where
  all-wait : (last_pass m).waiting ≡ m.types
  all-wait = none_first m (empty (passes m 1).placed (not-false (null (passes m 1).placed) (rw self at c)))
    where
      empty : (l : List TypeInfo) → null l ≡ true → l ≡ []
      empty [] e = refl
      empty (x ∷ l) e = never e refl

pub placed-has-no-row : PlacedHasNoRow
unfolding last_pass
placed-has-no-row s names c path T r i k =
    by (inherits_self (type_map_of s))
    (λ e.
    absurd
    (waits-not (type_map_of s) (types-apart s names) (length (type_map_of s).types)
    (subst (In T) (sym (all-wait (type_map_of s) c e)) (placed-type (type_map_of s) (length (type_map_of s).types) i)) i refl))
    (λ e. quiet-reached (type_map_of s) (types-apart s names) e (length (type_map_of s).types) k path T r i)

module _ (m : TypeMap) where
  self-rows : inherits_self m ≡ true → null (self_rows m) ≡ false
  unfolding inherits_self self_rows
  self-rows e =
      let t = any_of (λ (T : TypeInfo). any (is_self m) T.parents) m.types e in
      let p = any_of (is_self m) t.0.parents t.2 in
      not_so (λ z.
      null-in z
      (each_in (λ (T : TypeInfo). map (parent_row 1 T) (filter (is_self m) T.parents)) t.1 (Memᴰ.map (parent_row 1 t.0) (filter-in (is_self m) p.1 p.2))))

  -- where the cycle diagnosis answers, a type waits
  one-waits : CycleDiagnosis m → has_order m ≡ false → (T : TypeInfo) × In T (last_pass m).waiting
  unfolding inherits_self has_order
  one-waits c e =
      by (inherits_self m)
      (λ q.
      let t = any_of (λ (T : TypeInfo). any (is_self m) T.parents) m.types q in
      (t.0, subst (In t.0) (sym (all-wait m c q)) t.1))
      (λ q. null-not (last_pass m).waiting (rw q at e))

  answer-self : (inherits_self m && not (null (passes m 1).placed)) ≡ true → order_rows m ≡ self_rows m
  unfolding order_rows
  answer-self e = rw (e, order_rows)

  answer-cycles : CycleDiagnosis m → order_rows m ≡ no_parent_rows m
  unfolding order_rows
  answer-cycles e = rw (e, order_rows)

pub refusal-has-row : RefusalHasRow
unfolding no_parent_rows
refusal-has-row m e =
    by (inherits_self m && not (null (passes m 1).placed))
    (λ q. ap null (answer-self m q) ∙ self-rows m (and_left (inherits_self m) (not (null (passes m 1).placed)) q))
    (λ q.
    let t = one-waits m q e in
    let r = null-not (find_cycles_or_bad_types (length m.types) m [] t.0) (loud m (length m.types) [] t.0 (start t.1) t.1 (omega arith)) in
    ap null (answer-cycles m q) ∙ not_so (λ z. null-in z (each_in (find_cycles_or_bad_types (length m.types) m []) t.1 r.1)))
