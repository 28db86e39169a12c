-- The rows over places are those of the definitions, for every map that the compact form reads.
use Rattle.std.specs.Prelude.{Bool, ◌&&◌, ◌||◌, cond, ◌≡◌, eqb, length}
use Rattle.std.proofs.Math.Bool.{true, false, not}
use mathlib.Core.List.{List, [], ◌∷◌, map, append-nil}
use Rattle.std.proofs.Math.Path.{refl, sym, ap}
use Rattle.std.proofs.Common.{ap₂, ◌∙◌}
use Prim.Native.Nat.{ℕ, zero, suc, ◌<◌}
use Rattle.std.proofs.Math.Dec.{ltb}
use borrow.Author.Tests.{eqb-true, eqb-false, lt-ltb, ltb-true, ltb-false, not-false, not-true}
use Rattle.lists.specs.Lists.{any, null, filter, each, first_of}
use Rattle.lists.specs.Tests.{by, never, or-false-right}
use Rattle.lists.specs.Appending.{each_map, map_each, map-map, filter_map, null-map, map_same, first_alike}
use Rattle.rows.specs.Rows.{has_bit}
use Rattle.rows.specs.RowLaws.{bit-none}
use Rattle.bitsets.specs.Bitsets.{more}
use Rattle.definitions.specs.Records.{Name, TypeInfo}
use Rattle.definitions.specs.Records as records
use Rattle.definitions.specs.Comparisons.{elem_name}
use Rattle.definitions.specs.Map.{TypeMap}
use Rattle.definitions.specs.Order.{is_self}
use Rattle.definitions.specs.OrderRows as rules
use Rattle.definitions.specs.OrderRows.{type_named, is_bad, bad_row, find_cycles_or_bad_types}
use Rattle.definitions.specs.Packing.{name_bytes, row_bytes}
use Rattle.order_form.specs.Lists.{filter_same, each_same, any-not, first_of-map, first_of-holds, first_of-nil, elem, below, below-all-lt}
use Rattle.order_form.specs.Reading.{listed, self_in, type_at, place_in, first_word, second_word, parent_in, is_name, Reads}
use Rattle.order_form.specs.declared.Parent.{Parent}
use Rattle.order_form.specs.Rounds.{placed, final}
use Rattle.order_form.specs.Names.{unplaced, place_same, types_are, named-yes, named-no, self-is, self-lists, passes-are, last-waiting}
use Rattle.order_form.specs.declared.Parents.{Parents}
use Rattle.order_placed.specs.PlacingLaws.{on_same, on-other}
use Rattle.emitting.specs.Row.{number_of, bytes_of}
use Rattle.emitting.specs.declared.Row.{Row}
use Rattle.emitting.specs.declared.Kind.{Kind}
use Rattle.emitting.specs.declared.Kind.TheVariants.{ListsSelf, ClosesCycle, UndeclaredParent}
use Rattle.order_diagnosis.specs.Rows.{parent_row, bad, bad_kind, answer, rows, no_parent_rows, self_rows_of, self_rows, chosen, order_rows}

name-bytes : (n : Name) → name_bytes n ≡ first_word n ∷ second_word n ∷ []
name-bytes [] = refl
name-bytes (a ∷ []) = refl
name-bytes (a ∷ b ∷ n) = refl

bad-bool : (l f e : Bool) → e ≡ (l && f) → (e || not l) ≡ (not l || f)
bad-bool true true e h = rw h
bad-bool true false e h = rw h
bad-bool false f e h = rw h

kind-bool : (l f e : Bool) → e ≡ (l && f) → (not l || f) ≡ true → cond {A = ℕ} e 2 3 ≡ number_of (cond l ClosesCycle UndeclaredParent)
kind-bool true f e h b = rw (h, b)
kind-bool false f e h b = rw h

module _ (p : Parents) (m : TypeMap) (r : Reads p m) where
  -- the row of type t and one of its parents
  row_is : (kind : Kind) (t : ℕ) (n : Name) → t < p.count → row_bytes (rules.parent_row (number_of kind) (type_at m t) n) ≡ bytes_of (parent_row kind p t (parent_in m n))
  unfolding row_bytes parent_in
  row_is kind t n h = rw (name-bytes (type_at m t).name, name-bytes n, (r.types t h).name)

  -- ---- rows of kind 1

  self_row : (t : ℕ) → t < p.count → map row_bytes (map (rules.parent_row 1 (type_at m t)) (filter (is_self m) (type_at m t).parents)) ≡ map bytes_of (self_rows_of p t (listed p t))
  self_row t h =
      ap (λ (l : List Name). map row_bytes (map (rules.parent_row 1 (type_at m t)) l))
      (filter_same is_name (is_self m) (λ n. self_in p (parent_in m n)) (type_at m t).parents (r.types t h).names (self-is p m r))
      ∙ map-map row_bytes (rules.parent_row 1 (type_at m t)) (filter (λ n. self_in p (parent_in m n)) (type_at m t).parents)
      ∙ map_same (λ n. row_bytes (rules.parent_row 1 (type_at m t) n)) (λ n. bytes_of (parent_row ListsSelf p t (parent_in m n))) (filter (λ n. self_in p (parent_in m n)) (type_at m t).parents) (λ n i. row_is ListsSelf t n h)
      ∙ sym (map-map (λ q. bytes_of (parent_row ListsSelf p t q)) (parent_in m) (filter (λ n. self_in p (parent_in m n)) (type_at m t).parents))
      ∙ ap (map (λ q. bytes_of (parent_row ListsSelf p t q))) (sym (filter_map (self_in p) (parent_in m) (type_at m t).parents) ∙ ap (filter (self_in p)) (sym (r.types t h).parents))
      ∙ sym (map-map bytes_of (parent_row ListsSelf p t) (filter (self_in p) (listed p t)))

  self-rows : map row_bytes (rules.self_rows m) ≡ map bytes_of (self_rows p)
  unfolding rules.self_rows self_rows
  self-rows =
      ap (λ (l : List TypeInfo). map row_bytes (each (λ (T : TypeInfo). map (rules.parent_row 1 T) (filter (is_self m) T.parents)) l)) (types_are p m r)
      ∙ map_each row_bytes (λ (T : TypeInfo). map (rules.parent_row 1 T) (filter (is_self m) T.parents)) (map (type_at m) (below (λ t. true) p.count))
      ∙ each_map (λ (T : TypeInfo). map row_bytes (map (rules.parent_row 1 T) (filter (is_self m) T.parents))) (type_at m) (below (λ t. true) p.count)
      ∙ each_same (λ t. ltb t p.count)
      (λ t. map row_bytes (map (rules.parent_row 1 (type_at m t)) (filter (is_self m) (type_at m t).parents)))
      (λ t. map bytes_of (self_rows_of p t (listed p t)))
      (below (λ t. true) p.count) (below-all-lt (λ t. true) p.count) (λ t h. self_row t (ltb-true t p.count h))
      ∙ sym (map_each bytes_of (λ t. self_rows_of p t (listed p t)) (below (λ t. true) p.count))

  -- ---- rows of kinds 2 and 3

  -- the flags say which names are on the path
  abbrev On : ℕ → List Name → Type 0
  On flags path = (n : Name) → elem_name n path ≡ (ltb (place_in m n) p.count && has_bit flags (place_in m n))

  on_step : (flags : ℕ) (path : List Name) (t : ℕ) → t < p.count → On flags path → On (more flags t) ((type_at m t).name ∷ path)
  on_step flags path t h o n =
      rw (place_same p m r n t h, o n)
      (by (eqb (place_in m n) t)
      (λ q. let e = eqb-true (place_in m n) t q in rw (q, e, lt-ltb t p.count h) (sym (on_same flags t)))
      (λ q. rw (q, on-other flags t (place_in m n) (eqb-false (place_in m n) t q))))

  undeclared : (n : Name) → null (type_named m n) ≡ not (ltb (place_in m n) p.count)
  undeclared n =
      by (ltb (place_in m n) p.count)
      (λ q. rw (named-yes p m r n (ltb-true _ _ q), q))
      (λ q. rw (named-no p m r n (ltb-false _ _ q), q))

  bad-is : (flags : ℕ) (path : List Name) → On flags path → (n : Name) → is_bad m path n ≡ bad p flags (parent_in m n)
  unfolding is_bad parent_in
  bad-is flags path o n =
      ap (λ (b : Bool). elem_name n path || b) (undeclared n)
      ∙ bad-bool (ltb (place_in m n) p.count) (has_bit flags (place_in m n)) (elem_name n path) (o n)

  opened : (path : List Name) (n : Name) → (elem_name n path || null (type_named m n)) ≡ is_bad m path n
  unfolding is_bad
  opened path n = refl

  kind-is : (flags : ℕ) (path : List Name) → On flags path → (n : Name) → bad p flags (parent_in m n) ≡ true → cond {A = ℕ} (elem_name n path) 2 3 ≡ number_of (bad_kind p (parent_in m n))
  unfolding parent_in
  kind-is flags path o n c = kind-bool (ltb (place_in m n) p.count) (has_bit flags (place_in m n)) (elem_name n path) (o n) c

  bad-row : (flags : ℕ) (path : List Name) (t : ℕ) → t < p.count → On flags path → (n : Name) → is_bad m path n ≡ true
      → row_bytes (bad_row path (type_at m t) n) ≡ bytes_of (parent_row (bad_kind p (parent_in m n)) p t (parent_in m n))
  unfolding bad_row
  bad-row flags path t h o n b =
      ap (λ (k : ℕ). row_bytes (rules.parent_row k (type_at m t) n)) (kind-is flags path o n (sym (bad-is flags path o n) ∙ b))
      ∙ row_is (bad_kind p (parent_in m n)) t n h

  -- a type's rows, at a depth
  Found : ℕ → Type 0
  Found k = (flags : ℕ) (path : List Name) (t : ℕ) → t < p.count → On flags path
      → map row_bytes (find_cycles_or_bad_types k m path (type_at m t)) ≡ map bytes_of (rows k p flags t)

  -- a parent that is not bad is a type, and has its rows
  parent-rows : (k : ℕ) → Found k → (flags : ℕ) (path : List Name) → On flags path → (n : Name) → not (is_bad m path n) ≡ true
      → map row_bytes (each (find_cycles_or_bad_types k m path) (type_named m n)) ≡ map bytes_of (rows k p flags (parent_in m n).place)
  unfolding Found parent_in
  parent-rows k f flags path o n b =
      let c : is_bad m path n ≡ false = not-true (is_bad m path n) b in
      let h : place_in m n < p.count =
      ltb-true _ _ (not-false (ltb (place_in m n) p.count) (sym (undeclared n) ∙ or-false-right (elem_name n path) (null (type_named m n)) (opened path n ∙ c))) in
      rw (named-yes p m r n h, append-nil) (f flags path (place_in m n) h o)

  later_rows : (k : ℕ) → Found k → (flags : ℕ) (path : List Name) → On flags path → (ns : List Name) → any (is_bad m path) ns ≡ false
      → map row_bytes (each (λ n. each (find_cycles_or_bad_types k m path) (type_named m n)) ns) ≡ map bytes_of (each (λ (q : Parent). rows k p flags q.place) (map (parent_in m) ns))
  later_rows k f flags path o ns b =
      map_each row_bytes (λ n. each (find_cycles_or_bad_types k m path) (type_named m n)) ns
      ∙ each_same (λ n. not (is_bad m path n))
      (λ n. map row_bytes (each (find_cycles_or_bad_types k m path) (type_named m n)))
      (λ n. map bytes_of (rows k p flags (parent_in m n).place))
      ns (any-not (is_bad m path) ns b) (parent-rows k f flags path o)
      ∙ sym (map_each bytes_of (λ (q : Parent). rows k p flags q.place) (map (parent_in m) ns) ∙ each_map (λ (q : Parent). map bytes_of (rows k p flags q.place)) (parent_in m) ns)

  answers : (path : List Name) (t : ℕ) (ns : List Name) (later : List records.Row) (rest : List Row) → (ns ≡ [] → map row_bytes later ≡ map bytes_of rest)
      → ((n : Name) (k : List Name) → ns ≡ n ∷ k → row_bytes (bad_row path (type_at m t) n) ≡ bytes_of (parent_row (bad_kind p (parent_in m n)) p t (parent_in m n)))
      → map row_bytes (elim ns [ [] ↦ later | n ∷ k ↦ bad_row path (type_at m t) n ∷ [] ]) ≡ map bytes_of (answer p t (map (parent_in m) ns) rest)
  answers path t [] later rest f g = f refl
  answers path t (n ∷ ns) later rest f g = ap (λ (b : List ℕ). b ∷ []) (g n ns refl)

  rows-found : (k : ℕ) → Found k
  unfolding Found find_cycles_or_bad_types rows
  rows-found zero flags path t h o = refl
  rows-found (suc k) flags path t h o =
      let on : ℕ = more flags t in
      let way : List Name = (type_at m t).name ∷ path in
      let w : On on way = on_step flags path t h o in
      let ps : List Name = (type_at m t).parents in
      let ns : List Name = first_of (is_bad m way) ps in
      let e : first_of (bad p on) (listed p t) ≡ map (parent_in m) ns =
      ap (first_of (bad p on)) (r.types t h).parents ∙ first_of-map (bad p on) (parent_in m) ps
      ∙ ap (map (parent_in m)) (first_alike (λ n. bad p on (parent_in m n)) (is_bad m way) (λ n. sym (bad-is on way w n)) ps) in
      answers way t ns (each (λ n. each (find_cycles_or_bad_types k m way) (type_named m n)) ps) (each (λ (q : Parent). rows k p on q.place) (listed p t))
      (λ z.
      later_rows k (rows-found k) on way w ps (first_of-nil (is_bad m way) ps z)
      ∙ ap (λ (qs : List Parent). map bytes_of (each (λ (q : Parent). rows k p on q.place) qs)) (sym (r.types t h).parents))
      (λ n j z. bad-row on way t h w n (first_of-holds (is_bad m way) ps n j z))
      ∙ ap (λ (qs : List Parent). map bytes_of (answer p t qs (each (λ (q : Parent). rows k p on q.place) (listed p t)))) (sym e)

  none-on : On 0 []
  none-on n = by (ltb (place_in m n) p.count) (λ q. rw q (sym (bit-none (place_in m n)))) (λ q. rw q)

  no-parent-rows : map row_bytes (rules.no_parent_rows m) ≡ map bytes_of (no_parent_rows p (final p))
  unfolding rules.no_parent_rows no_parent_rows Found
  no-parent-rows =
      ap (λ (l : List TypeInfo). map row_bytes (each (find_cycles_or_bad_types (length m.types) m []) l)) (last-waiting p m r)
      ∙ map_each row_bytes (find_cycles_or_bad_types (length m.types) m []) (map (type_at m) (unplaced p (final p)))
      ∙ each_map (λ (T : TypeInfo). map row_bytes (find_cycles_or_bad_types (length m.types) m [] T)) (type_at m) (unplaced p (final p))
      ∙ each_same (λ t. ltb t p.count)
      (λ t. map row_bytes (find_cycles_or_bad_types (length m.types) m [] (type_at m t)))
      (λ t. map bytes_of (rows p.count p 0 t))
      (unplaced p (final p)) (below-all-lt (λ t. not (elem t (final p))) p.count)
      (λ t h.
      rows-found (length m.types) 0 [] t (ltb-true t p.count h) none-on
      ∙ ap (λ (k : ℕ). map bytes_of (rows k p 0 t)) (sym r.count))
      ∙ sym (map_each bytes_of (rows p.count p 0) (unplaced p (final p)))

  -- ---- which of the two stands

  pub rows_are : map row_bytes (rules.order_rows m) ≡ map bytes_of (order_rows p)
  unfolding rules.order_rows order_rows
  rows_are = chosen-are _ _ (ap₂ (λ (a b : Bool). a && not b) (self-lists p m r) (ap null (passes-are p m r 1).0 ∙ null-map (type_at m) (placed p 1)))
    where
      chosen-are : (a b : Bool) → a ≡ b → map row_bytes (elim a [ true ↦ rules.self_rows m | false ↦ rules.no_parent_rows m ]) ≡ map bytes_of (chosen b (self_rows p) (no_parent_rows p (final p)))
      chosen-are true true e = self-rows
      chosen-are true false e = never refl e
      chosen-are false true e = never e refl
      chosen-are false false e = no-parent-rows
