-- The visit leaves no row exactly if each type, given all that its parents hand on, has none. Then each type is interpreted
-- once.
use Rattle.std.specs.Prelude.{true, ◌⊎◌, ◌↔◌, ◌≡◌, length}
use Rattle.std.proofs.Math.Bool.{false}
use mathlib.Core.List.Memᴰ
use mathlib.Core.List.Permᴰ
use mathlib.Core.List.{List, [], ◌∷◌, ◌++◌, map, append-nil, append_assoc, Permᴰ}
use Rattle.std.proofs.Math.Logic.{inl, inr, ⊎_elim}
use Rattle.std.proofs.Math.Path.{refl, sym, ap, ap₂, subst}
use Rattle.std.proofs.Common.{◌∙◌}
use Prim.Native.Nat.{ℕ, zero, suc}
use Rattle.lists.specs.Lists.{In, Sorted, null, each}
use Rattle.lists.specs.Tests.{by, never, and_both, cons-elim}
use Rattle.lists.specs.Sorting.{one_key, sorted-imp}
use Rattle.definitions.specs.Records.{Name, TypeInfo, Sheet}
use Rattle.definitions.specs.Comparisons.{elem_name}
use Rattle.definitions.specs.Map.{TypeMap, type_map_of}
use Rattle.definitions.specs.Checks.{something_twice}
use Rattle.definitions.specs.Order.{has_order}
use Rattle.definitions.specs.Inherited.{InheritedAnnotation, handed_on}
use Rattle.definitions.specs.Synthesis.{Interpreted, interpret_type, Visited, Called, Heard, only_if, hear, hear_all, listed_parents, finish, visit, visit_all, synthesis}
use Rattle.definitions.specs.Ancestry.{Parent, Ancestor, direct, further}
use Rattle.law_orders.specs.Comparisons.{elem_in, elem_of, types-is, types-apart, names-once}
use Rattle.law_orders.specs.Rounds.{ancestor-type}
use Rattle.law_orders.specs.Visit.{heard_by, visit-seen, visit-new}
use Rattle.lists.specs.Appending.{append-empty}
use Rattle.lists.specs.Permutations.{perm-append, perm_same, perm-each, distinct-perm}
use Rattle.law_synthesis.specs.Handed.{listed-is, acyclic}

-- ---- what its parents hand on, where no call fails

unfoldable pub whole : TypeMap → TypeInfo → List InheritedAnnotation
whole m T = each (handed_on m) (listed_parents m T)

abbrev pub result : TypeMap → TypeInfo → Interpreted
result m T = interpret_type m T (whole m T)

abbrev pub Clean : TypeMap → TypeInfo → Type 0
Clean m T = (result m T).rows ≡ []

-- ---- a call

abbrev start_heard : Visited → Heard
start_heard v = record { ok = true; got = []; visited = v }

-- ---- no row: each type is clean

module _ (m : TypeMap) (one : (T U : TypeInfo) → In T m.types → In U m.types → T.name ≡ U.name → T ≡ U)
    (parents : (T P : TypeInfo) → In P (listed_parents m T) → In P m.types) where
  -- each type that was seen is clean
  abbrev Good : Visited → Type 0
  Good v = (T : TypeInfo) → In T m.types → In T.name v.seen → Clean m T

  -- what a call does to the rows and to what is seen; and what it has done where it leaves no row
  record Steady (f : TypeInfo → Visited → Called) (P : TypeInfo) : Type 0 where
    rows : (v : Visited) → (f P v).visited.rows ≡ [] → v.rows ≡ []
    seen : (v : Visited) (n : Name) → In n v.seen → In n (f P v).visited.seen
    ok : (v : Visited) → Good v → (f P v).visited.rows ≡ [] → (f P v).ok ≡ true
    good : (v : Visited) → Good v → (f P v).visited.rows ≡ [] → Good (f P v).visited

  hear-rows : (f : TypeInfo → Visited → Called) (Ps : List TypeInfo) → ((P : TypeInfo) → In P Ps → Steady f P) → (h : Heard)
      → (hear_all m f Ps h).visited.rows ≡ [] → h.visited.rows ≡ []
  unfolding hear_all
  hear-rows f [] q h e = e
  hear-rows f (P ∷ Ps) q h e =
      (q P (Memᴰ.head refl)).rows h.visited (hear-rows f Ps (λ Q i. q Q (Memᴰ.tail i)) (hear h (handed_on m P) (f P h.visited)) e)

  hear-seen : (f : TypeInfo → Visited → Called) (Ps : List TypeInfo) → ((P : TypeInfo) → In P Ps → Steady f P) → (h : Heard) (n : Name)
      → In n h.visited.seen → In n (hear_all m f Ps h).visited.seen
  unfolding hear_all
  hear-seen f [] q h n i = i
  hear-seen f (P ∷ Ps) q h n i =
      hear-seen f Ps (λ Q j. q Q (Memᴰ.tail j)) (hear h (handed_on m P) (f P h.visited)) n ((q P (Memᴰ.head refl)).seen h.visited n i)

  record Fully (before after : Heard) (l : List InheritedAnnotation) : Type 0 where
    ok : before.ok ≡ true → after.ok ≡ true
    got : after.got ≡ before.got ++ l
    good : Good after.visited

  hear-fully : (f : TypeInfo → Visited → Called) (Ps : List TypeInfo) → ((P : TypeInfo) → In P Ps → Steady f P) → (h : Heard) → Good h.visited
      → (hear_all m f Ps h).visited.rows ≡ [] → Fully h (hear_all m f Ps h) (each (handed_on m) Ps)
  unfolding hear_all
  hear-fully f [] q h g e = record { ok = λ o. o; got = sym (append-nil h.got); good = g }
  hear-fully f (P ∷ Ps) q h g e =
      let c = q P (Memᴰ.head refl) in
      let rest : (Q : TypeInfo) → In Q Ps → Steady f Q = λ Q i. q Q (Memᴰ.tail i) in
      let next = hear h (handed_on m P) (f P h.visited) in
      let z : (f P h.visited).visited.rows ≡ [] = hear-rows f Ps rest next e in
      let k = hear-fully f Ps rest next (c.good h.visited g z) e in
      let o = c.ok h.visited g z in
      record {
        ok = λ p. k.ok (and_both p o);
        got = k.got ∙ ap (λ b. (h.got ++ only_if b (handed_on m P)) ++ each (handed_on m) Ps) o ∙ append_assoc h.got (handed_on m P) (each (handed_on m) Ps);
        good = k.good;
      }

  visit-steady : (k : ℕ) (T : TypeInfo) → In T m.types → Steady (visit k m) T
  unfolding finish whole
  visit-steady zero T i = unfold visit in record { rows = λ v e. e; seen = λ v n h. h; ok = λ v g e. refl; good = λ v g e. g }
  visit-steady (suc k) T i =
      let q : (P : TypeInfo) → In P (listed_parents m T) → Steady (visit k m) P = λ P j. visit-steady k P (parents T P j) in
      record {
        rows = λ v. steady-rows q v;
        seen = λ v. steady-seen q v;
        ok = λ v. steady-ok q v;
        good = λ v. steady-good q v;
      }
    where
      -- where T is new, by what is heard from its parents
      at_new : (v : Visited) (A : Called → Type 0) → elem_name T.name v.seen ≡ false → A (visit (suc k) m T v)
          → A (finish T (heard_by k m T v) (interpret_type m T (heard_by k m T v).got))
      at_new v A e a = subst A (visit-new k m T v e) a

      from-new : (v : Visited) (A : Called → Type 0) → elem_name T.name v.seen ≡ false
          → A (finish T (heard_by k m T v) (interpret_type m T (heard_by k m T v).got)) → A (visit (suc k) m T v)
      from-new v A e a = subst A (sym (visit-new k m T v e)) a

      from-seen : (v : Visited) (A : Called → Type 0) → elem_name T.name v.seen ≡ true → A (record { ok = true; visited = v }) → A (visit (suc k) m T v)
      from-seen v A e a = subst A (sym (visit-seen k m T v e)) a

      -- no row before, and none of its own
      split : (v : Visited) → elem_name T.name v.seen ≡ false → (visit (suc k) m T v).visited.rows ≡ []
          → ((heard_by k m T v).visited.rows ≡ []) × ((interpret_type m T (heard_by k m T v).got).rows ≡ [])
      split v e z =
          append-empty (heard_by k m T v).visited.rows (interpret_type m T (heard_by k m T v).got).rows (at_new v (λ (c : Called). c.visited.rows ≡ []) e z)

      steady-rows : ((P : TypeInfo) → In P (listed_parents m T) → Steady (visit k m) P) → (v : Visited) → (visit (suc k) m T v).visited.rows ≡ [] → v.rows ≡ []
      steady-rows q v z =
          by (elem_name T.name v.seen)
          (λ e. subst (λ (c : Called). c.visited.rows ≡ []) (visit-seen k m T v e) z)
          (λ e. hear-rows (visit k m) (listed_parents m T) q (start_heard v) (split v e z).0)

      steady-seen : ((P : TypeInfo) → In P (listed_parents m T) → Steady (visit k m) P) → (v : Visited) (n : Name) → In n v.seen → In n (visit (suc k) m T v).visited.seen
      steady-seen q v n i =
          by (elem_name T.name v.seen)
          (λ e. from-seen v (λ (c : Called). In n c.visited.seen) e i)
          (λ e. from-new v (λ (c : Called). In n c.visited.seen) e (Memᴰ.tail (hear-seen (visit k m) (listed_parents m T) q (start_heard v) n i)))

      steady-ok : ((P : TypeInfo) → In P (listed_parents m T) → Steady (visit k m) P) → (v : Visited) → Good v → (visit (suc k) m T v).visited.rows ≡ []
          → (visit (suc k) m T v).ok ≡ true
      steady-ok q v g z =
          by (elem_name T.name v.seen)
          (λ e. from-seen v (λ (c : Called). c.ok ≡ true) e refl)
          (λ e.
          let a = split v e z in
          from-new v (λ (c : Called). c.ok ≡ true) e
          (and_both ((hear-fully (visit k m) (listed_parents m T) q (start_heard v) g a.0).ok refl) (ap null a.1)))

      steady-good : ((P : TypeInfo) → In P (listed_parents m T) → Steady (visit k m) P) → (v : Visited) → Good v → (visit (suc k) m T v).visited.rows ≡ []
          → Good (visit (suc k) m T v).visited
      steady-good q v g z =
          by (elem_name T.name v.seen)
          (λ e. from-seen v (λ (c : Called). Good c.visited) e g)
          (λ e.
          let a = split v e z in
          let h = hear-fully (visit k m) (listed_parents m T) q (start_heard v) g a.0 in
          from-new v (λ (c : Called). Good c.visited) e
          (λ U j l. cons-elim l (λ w. subst (Clean m) (one T U i j (sym w)) (ap (λ x. (interpret_type m T x).rows) (sym h.got) ∙ a.1)) (h.good U j)))

  visit-sees : (k : ℕ) (T : TypeInfo) (v : Visited) → In T.name (visit (suc k) m T v).visited.seen
  unfolding finish
  visit-sees k T v =
      by (elem_name T.name v.seen)
      (λ e. subst (λ (c : Called). In T.name c.visited.seen) (sym (visit-seen k m T v e)) (elem_of T.name v.seen e))
      (λ e. subst (λ (c : Called). In T.name c.visited.seen) (sym (visit-new k m T v e)) (Memᴰ.head refl))

  all-rows : (k : ℕ) (Ts : List TypeInfo) → ((T : TypeInfo) → In T Ts → In T m.types) → (v : Visited) → (visit_all k m Ts v).rows ≡ [] → v.rows ≡ []
  unfolding visit_all
  all-rows k [] i v e = e
  all-rows k (T ∷ Ts) i v e =
      (visit-steady k T (i T (Memᴰ.head refl))).rows v (all-rows k Ts (λ U j. i U (Memᴰ.tail j)) (visit k m T v).visited e)

  -- what was seen stays so, and each type that is tried is seen
  all_seen : (k : ℕ) (Ts : List TypeInfo) → ((T : TypeInfo) → In T Ts → In T m.types) → (v : Visited)
      → ((n : Name) → In n v.seen → In n (visit_all (suc k) m Ts v).seen) × ((T : TypeInfo) → In T Ts → In T.name (visit_all (suc k) m Ts v).seen)
  unfolding visit_all
  all_seen k [] i v = (λ n h. h, λ T h. absurd (Memᴰ.not-nil h))
  all_seen k (T ∷ Ts) i v =
      let c = visit-steady (suc k) T (i T (Memᴰ.head refl)) in
      let r = all_seen k Ts (λ U j. i U (Memᴰ.tail j)) (visit (suc k) m T v).visited in (
        λ n h. r.0 n (c.seen v n h),
        λ U h. cons-elim h (λ q. r.0 U.name (Memᴰ.cast (ap (λ (T : TypeInfo). T.name) q) (visit-sees k T v))) (r.1 U),
      )

  all-good : (k : ℕ) (Ts : List TypeInfo) → ((T : TypeInfo) → In T Ts → In T m.types) → (v : Visited) → Good v → (visit_all k m Ts v).rows ≡ []
      → Good (visit_all k m Ts v)
  unfolding visit_all
  all-good k [] i v g e = g
  all-good k (T ∷ Ts) i v g e =
      let c = visit-steady k T (i T (Memᴰ.head refl)) in
      let j : (U : TypeInfo) → In U Ts → In U m.types = λ U h. i U (Memᴰ.tail h) in
      all-good k Ts j (visit k m T v).visited (c.good v g (all-rows k Ts j (visit k m T v).visited e)) e

  abbrev begin : Visited
  begin = record { seen = []; rows = []; items = [] }

  -- as many steps as there are types are at least one
  some-steps : {T : TypeInfo} {l : List TypeInfo} → In T l → (n : ℕ) × (length l ≡ suc n)
  some-steps (Memᴰ.head {xs = l} e) = (length l, refl)
  some-steps (Memᴰ.tail {xs = l} i) = (length l, refl)

  all-visited : (T : TypeInfo) → In T m.types → In T.name (synthesis m).seen
  unfolding synthesis
  all-visited T i =
      let n = some-steps i in
      subst (λ k. In T.name (visit_all k m m.types begin).seen) (sym n.1) ((all_seen n.0 m.types (λ U h. h) begin).1 T i)

  no-rows-clean : (synthesis m).rows ≡ [] → (T : TypeInfo) → In T m.types → Clean m T
  unfolding synthesis
  no-rows-clean e T i = all-good (length m.types) m.types (λ U h. h) begin (λ U j h. absurd (Memᴰ.not-nil h)) e T i (all-visited T i)

-- ---- each type is clean: no row, and each type once

module _ (s : Sheet) (once : something_twice s ≡ false) (order : has_order (type_map_of s) ≡ true)
    (clean : (T : TypeInfo) → In T (type_map_of s).types → Clean (type_map_of s) T) where
  abbrev M : TypeMap
  M = type_map_of s

  one_name : (T U : TypeInfo) → In T M.types → In U M.types → T.name ≡ U.name → T ≡ U
  one_name T U i j e = one_key (λ (T : TypeInfo). T.name) M.types (types-apart s (names-once s once)) i j e

  listed-type : (T P : TypeInfo) → In P (listed_parents M T) → In P M.types
  listed-type T P i = (types-is s P).1 ((listed-is s T P).0 i).declared

  -- what stands when some types were visited
  record Stands (v : Visited) : Type 0 where
    types : List TypeInfo
    known : (T : TypeInfo) → In T types → In T M.types
    apart : Sorted (λ (T U : TypeInfo). T.name ≡ U.name → ⊥) types
    seen : v.seen ≡ map (λ (T : TypeInfo). T.name) types
    rows : v.rows ≡ []
    items : Permᴰ v.items (each (λ T. (result M T).items) types)

  -- a call that succeeds and sees T and its ancestors at most
  record Quiet (T : TypeInfo) (v : Visited) (c : Called) : Type 0 where
    ok : c.ok ≡ true
    stands : Stands c.visited
    only : (n : Name) → In n c.visited.seen → In n v.seen ⊎ ((U : TypeInfo) × ((U ≡ T) ⊎ Ancestor s U T) × (U.name ≡ n))

  record QuietHeard (T : TypeInfo) (before after : Heard) (l : List InheritedAnnotation) : Type 0 where
    ok : after.ok ≡ true
    got : after.got ≡ before.got ++ l
    stands : Stands after.visited
    only : (n : Name) → In n after.visited.seen → In n before.visited.seen ⊎ ((U : TypeInfo) × Ancestor s U T × (U.name ≡ n))

  hear-quiet : (f : TypeInfo → Visited → Called) (T : TypeInfo) (Ps : List TypeInfo) → ((P : TypeInfo) → In P Ps → Parent s P T)
      → ((P : TypeInfo) → In P Ps → (v : Visited) → Stands v → Quiet P v (f P v)) → (h : Heard) → h.ok ≡ true → Stands h.visited
      → QuietHeard T h (hear_all M f Ps h) (each (handed_on M) Ps)
  unfolding hear_all
  hear-quiet f T [] p q h o st = record { ok = o; got = sym (append-nil h.got); stands = st; only = λ n i. inl i }
  hear-quiet f T (P ∷ Ps) p q h o st =
      let c = q P (Memᴰ.head refl) h.visited st in
      let a = p P (Memᴰ.head refl) in
      let next = hear h (handed_on M P) (f P h.visited) in
      let r = hear-quiet f T Ps (λ Q i. p Q (Memᴰ.tail i)) (λ Q i. q Q (Memᴰ.tail i)) next (and_both o c.ok) c.stands in
      record {
        ok = r.ok;
        got = r.got ∙ ap (λ b. (h.got ++ only_if b (handed_on M P)) ++ each (handed_on M) Ps) c.ok ∙ append_assoc h.got (handed_on M P) (each (handed_on M) Ps);
        stands = r.stands;
        only = λ n i.
            ⊎_elim
            (λ j.
            ⊎_elim inl
            (λ u. inr (u.0, ⊎_elim (λ e. direct (subst (λ Q. Parent s Q T) (sym e) a)) (λ b. further a b) u.1, u.2))
            (c.only n j))
            inr
            (r.only n i);
      }

  visit-quiet : (k : ℕ) (T : TypeInfo) → In T M.types → (v : Visited) → Stands v → Quiet T v (visit k M T v)
  unfolding finish whole
  visit-quiet zero T i v st = unfold visit in record { ok = refl; stands = st; only = λ n j. inl j }
  visit-quiet (suc k) T i v st =
      let h =
      hear-quiet (visit k M) T (listed_parents M T) (λ P j. (listed-is s T P).0 j) (λ P j w. visit-quiet k P (listed-type T P j) w) (start_heard v) refl st in
      by (elem_name T.name v.seen)
      (λ e. subst (Quiet T v) (sym (visit-seen k M T v e)) (record { ok = refl; stands = st; only = λ n j. inl j }))
      (λ e. subst (Quiet T v) (sym (visit-new k M T v e)) (new e h))
    where
      new : elem_name T.name v.seen ≡ false → QuietHeard T (start_heard v) (heard_by k M T v) (each (handed_on M) (listed_parents M T))
          → Quiet T v (finish T (heard_by k M T v) (interpret_type M T (heard_by k M T v).got))
      new e h =
          let st = h.stands in
          let w : interpret_type M T (heard_by k M T v).got ≡ result M T = ap (interpret_type M T) h.got in
          let z : (interpret_type M T (heard_by k M T v).got).rows ≡ [] = ap (λ (x : Interpreted). x.rows) w ∙ clean T i in
          record {
            ok = and_both h.ok (ap null z);
            stands = record {
              types = T ∷ st.types;
              known = λ U j. cons-elim j (λ q. subst (λ W. In W M.types) (sym q) i) (st.known U);
              apart = (
                λ U j q.
                    let n : In T.name (heard_by k M T v).visited.seen =
                    subst (In T.name) (sym st.seen) (Memᴰ.cast q (Memᴰ.map (λ (T : TypeInfo). T.name) j)) in
                    ⊎_elim
                    (λ a. never (elem_in a) e)
                    (λ a.
                    let t : a.0 ≡ T = one_name a.0 T ((types-is s a.0).1 (ancestor-type a.1)) i a.2 in
                    acyclic s once order T ((types-is s T).0 i) (subst (λ A. Ancestor s A T) t a.1))
                    (h.only T.name n),
                st.apart,
              );
              seen = ap (λ l. T.name ∷ l) st.seen;
              rows = ap₂ (λ a b. a ++ b) st.rows z;
              items =
                  Permᴰ.trans (perm-append st.items (perm_same (ap (λ (x : Interpreted). x.items) w)))
                  (Permᴰ.append_comm (each (λ T. (result M T).items) st.types) (result M T).items);
            };
            only = λ n j.
                cons-elim j (λ q. inr (T, inl refl, sym q))
                (λ k. ⊎_elim inl (λ a. inr (a.0, inr a.1, a.2)) (h.only n k));
          }

  all_quiet : (k : ℕ) (Ts : List TypeInfo) → ((T : TypeInfo) → In T Ts → In T M.types) → (v : Visited) → Stands v → Stands (visit_all k M Ts v)
  unfolding visit_all
  all_quiet k [] i v st = st
  all_quiet k (T ∷ Ts) i v st =
      all_quiet k Ts (λ U j. i U (Memᴰ.tail j)) (visit k M T v).visited (visit-quiet k T (i T (Memᴰ.head refl)) v st).stands

  stands : Stands (synthesis M)
  unfolding synthesis
  stands =
      all_quiet (length M.types) M.types (λ U h. h) (record { seen = []; rows = []; items = [] }) (record {
        types = [];
        known = λ T i. absurd (Memᴰ.not-nil i);
        apart = tt;
        seen = refl;
        rows = refl;
        items = Permᴰ.nil;
      })

  clean-no-rows : (synthesis M).rows ≡ []
  clean-no-rows = stands.rows

  abbrev Apart : TypeInfo → TypeInfo → Type 0
  Apart T U = T.name ≡ U.name → ⊥

  -- the items of each type, once
  pub clean-items : Permᴰ (synthesis M).items (each (λ T. (result M T).items) M.types)
  clean-items =
      let st = stands in
      Permᴰ.trans st.items
      (perm-each (λ T. (result M T).items)
      (distinct-perm st.types M.types
      (sorted-imp st.types (λ T U i j n e. n (ap (λ (T : TypeInfo). T.name) e)) st.apart)
      (sorted-imp M.types (λ T U i j n e. n (ap (λ (T : TypeInfo). T.name) e)) (types-apart s (names-once s once)))
      (λ T. (
        st.known T,
        λ i.
            let n : In T.name (map (λ (T : TypeInfo). T.name) st.types) = subst (In T.name) st.seen (all-visited M one_name listed-type T i) in
            let u = Memᴰ.of_map (λ (T : TypeInfo). T.name) st.types n in
            subst (λ U. In U st.types) (one_name u.0 T (st.known u.0 u.1) i u.2) u.1,
      ))))

-- the synthesis leaves no row exactly if each type is clean
pub no-rows-is : (s : Sheet) → something_twice s ≡ false → has_order (type_map_of s) ≡ true
    → ((synthesis (type_map_of s)).rows ≡ []) ↔ ((T : TypeInfo) → In T (type_map_of s).types → Clean (type_map_of s) T)
no-rows-is s once order = (
  no-rows-clean (type_map_of s) (λ T U i j e. one_key (λ (T : TypeInfo). T.name) (type_map_of s).types (types-apart s (names-once s once)) i j e)
      (λ T P i. (types-is s P).1 ((listed-is s T P).0 i).declared),
  clean-no-rows s once order,
)
