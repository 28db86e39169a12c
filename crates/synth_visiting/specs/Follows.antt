-- The walk over places is the reach over the types of every map that the compact form reads.
use Rattle.std.specs.Prelude.{Bool, true, ◌&&◌, ◌||◌, not, ◌≡◌, eqb}
use Rattle.std.proofs.Math.Bool.{or-false}
use mathlib.Core.List.Memᴰ
use mathlib.Core.List.{List, [], ◌∷◌, ◌++◌, map}
use Rattle.std.proofs.Math.Path.{refl, sym, ap, ap₂, subst}
use Rattle.std.proofs.Common.{◌∙◌, arith, eqb-true, eq-eqb}
use Prim.Native.Nat.{ℕ, zero, suc, ◌≤◌, ◌<◌}
use Rattle.lists.specs.Lists.{In}
use Rattle.lists.specs.Tests.{by, never, or_left, or_right}
use Rattle.lists.specs.Appending.{each-single, map-map, map-append}
use Rattle.lists.specs.Lexicographic.{numbers-same}
use Rattle.definitions.specs.Records.{Name, TypeInfo}
use Rattle.definitions.specs.Comparisons.{same_name}
use Rattle.definitions.specs.Map.{TypeMap}
use Rattle.definitions.specs.OrderRows.{type_named}
use Rattle.definitions.specs.Synthesis.{listed_parents}
use Rattle.law_visit.specs.Trail.{Reached, seen_in, reach_all, reach, reach_each, trail}
use Rattle.law_visit.specs.TwoSteps.{reach-seen, reach-new}
use Rattle.order_form.specs.Lists.{map_below, tab, elem, elem-cases}
use Rattle.order_form.specs.Reading.{listed, type_at, place_in, parent_in, Reads}
use Rattle.order_form.specs.declared.Parent.{Parent}
use Rattle.order_form.specs.Names.{place_same, types_are, named-yes}
use Rattle.order_form.specs.declared.Parents.{Parents}
use Rattle.law_parents.specs.Placed.{ParentsBelow}
use Rattle.synth_visiting.specs.Walk.{Stop, spots, walk_all, walk, walk_each}
use Rattle.synth_visiting.specs.Good.{walk-seen, walk-new, spots-more}

-- a stop as the visit has it
abbrev pub as_reached : TypeMap → Stop → Reached
as_reached m x = record { type = type_at m x.place; fresh = x.fresh }

each_append : (k : ℕ) (m : TypeMap) (a b : List TypeInfo) (l : List Reached) → reach_each k m (a ++ b) l ≡ reach_each k m b (reach_each k m a l)
unfolding reach_each
each_append k m [] b l = refl
each_append k m (T ∷ a) b l = each_append k m a b (reach k m T l)

module _ (p : Parents) (m : TypeMap) (r : Reads p m) (lower : (t : ℕ) → t < p.count → ParentsBelow p t) where
  -- two places have one name exactly if they are one
  same_at : (t u : ℕ) → t < p.count → u < p.count → same_name (type_at m t).name (type_at m u).name ≡ eqb t u
  same_at t u h k =
      let e : place_in m (type_at m t).name ≡ t = eqb-true _ _ (sym (place_same p m r (type_at m t).name t h) ∙ numbers-same {l = (type_at m t).name} refl) in
      place_same p m r (type_at m t).name u k ∙ ap (λ (n : ℕ). eqb n u) e

  -- every place is that of a type
  abbrev Low : List Stop → Type 0
  Low l = (x : ℕ) → elem x (spots l) ≡ true → x < p.count

  seen_at : (l : List Stop) → Low l → (t : ℕ) → t < p.count → seen_in (map (as_reached m) l) (type_at m t).name ≡ elem t (spots l)
  seen_at [] b t h = refl
  seen_at (x ∷ l) b t h =
      ap₂ (λ (c d : Bool). c || d)
      (same_at t x.place h (b x.place (or_left (elem x.place (spots l)) (eq-eqb x.place x.place refl))))
      (seen_at l (λ y e. b y (or_right (eqb y x.place) e)) t h)

  -- the listed parents, by their places
  parents-are : (t : ℕ) → t < p.count → listed_parents m (type_at m t) ≡ map (λ (q : Parent). type_at m q.place) (listed p t)
  unfolding listed_parents parent_in
  parents-are t h =
      let ns : List Name = (type_at m t).parents in
      each-single (type_named m) (λ n. type_at m (place_in m n)) ns
      (λ n i. named-yes p m r n ((lower t h).lower (parent_in m n) (subst (In (parent_in m n)) (sym (r.types t h).parents) (Memᴰ.map (parent_in m) i))))
      ∙ sym (map-map (λ (q : Parent). type_at m q.place) (parent_in m) ns)
      ∙ ap (map (λ (q : Parent). type_at m q.place)) (sym (r.types t h).parents)

  -- a trail of types, and one of places
  record Follows (k : List Reached) (l : List Stop) : Type 0 where
    low : Low l
    same : k ≡ map (as_reached m) l

  abbrev Following : (TypeInfo → List Reached → List Reached) → (ℕ → List Stop → List Stop) → Type 0
  Following f g = (t : ℕ) → t < p.count → (l : List Stop) → Low l → Follows (f (type_at m t) (map (as_reached m) l)) (g t l)

  record FollowsAll (a : List Reached × List Bool) (b : List Stop × List Bool) : Type 0 where
    low : Low b.0
    same : a ≡ (map (as_reached m) b.0, b.1)

  follows-all : (f : TypeInfo → List Reached → List Reached) (g : ℕ → List Stop → List Stop) → Following f g → (qs : List Parent)
      → ((q : Parent) → In q qs → q.place < p.count) → (l : List Stop) (fs : List Bool) → Low l
      → FollowsAll (reach_all f (map (λ (q : Parent). type_at m q.place) qs) (map (as_reached m) l) fs) (walk_all g qs l fs)
  unfolding reach_all walk_all
  follows-all f g w [] b l fs lo = record { low = lo; same = refl }
  follows-all f g w (q ∷ qs) b l fs lo =
      let t = q.place in
      let h = b q (Memᴰ.head refl) in
      let c = w t h l lo in
      let n = (type_at m t).name in
      let Ps = map (λ (q : Parent). type_at m q.place) qs in
      let rest = follows-all f g w qs (λ y i. b y (Memᴰ.tail i)) (g t l) (fs ++ ((not (elem t (spots l)) && elem t (spots (g t l))) ∷ [])) c.low in
      record {
        low = rest.low;
        same =
            ap (λ (k : List Reached). reach_all f Ps k (fs ++ ((not (seen_in (map (as_reached m) l) n) && seen_in k n) ∷ []))) c.same
            ∙ ap₂ (λ (x y : Bool). reach_all f Ps (map (as_reached m) (g t l)) (fs ++ ((not x && y) ∷ []))) (seen_at l lo t h) (seen_at (g t l) c.low t h)
            ∙ rest.same;
      }

  low-more : (l : List Stop) (t : ℕ) (fs : List Bool) → t < p.count → Low l → Low (l ++ (record { place = t; fresh = fs } ∷ []))
  low-more l t fs h lo x e =
      elem-cases x (spots l) (t ∷ []) (sym (ap (elem x) (spots-more l t fs)) ∙ e) (lo x)
      (λ q. subst (λ (y : ℕ). y < p.count) (sym (eqb-true x t (sym (or-false (eqb x t)) ∙ q))) h)

  follows : (k : ℕ) → Following (reach k m) (walk k p)
  follows zero t h l lo = unfold reach in unfold walk in record { low = lo; same = refl }
  follows (suc k) t h l lo =
      by (elem t (spots l))
      (λ e.
      subst (Follows (reach (suc k) m (type_at m t) (map (as_reached m) l))) (sym (walk-seen k p t l e))
      (record { low = lo; same = reach-seen k m (type_at m t) (map (as_reached m) l) (seen_at l lo t h ∙ e) }))
      (λ e.
      let b = walk_all (walk k p) (listed p t) l [] in
      let a = follows-all (reach k m) (walk k p) (follows k) (listed p t) (lower t h).lower l [] lo in
      subst (Follows (reach (suc k) m (type_at m t) (map (as_reached m) l))) (sym (walk-new k p t l e))
      (record {
        low = low-more b.0 t b.1 h a.low;
        same =
            reach-new k m (type_at m t) (map (as_reached m) l) (seen_at l lo t h ∙ e)
            ∙ ap (λ (Ps : List TypeInfo). let r = reach_all (reach k m) Ps (map (as_reached m) l) [] in r.0 ++ (record { type = type_at m t; fresh = r.1 } ∷ [])) (parents-are t h)
            ∙ ap (λ (r : List Reached × List Bool). r.0 ++ (record { type = type_at m t; fresh = r.1 } ∷ [])) a.same
            ∙ sym (map-append (as_reached m) b.0 (record { place = t; fresh = b.1 } ∷ []));
      }))

  follows-each : (k n : ℕ) → n ≤ p.count → Follows (reach_each k m (tab (type_at m) n) []) (walk_each k p n)
  unfolding reach_each walk_each
  follows-each k zero h = record { low = λ x e. never e refl; same = refl }
  follows-each k (suc n) h =
      let i = follows-each k n (omega arith) in
      let c = follows k n (omega arith) (walk_each k p n) i.low in
      record { low = c.low; same = each_append k m (tab (type_at m) n) (type_at m n ∷ []) [] ∙ ap (reach k m (type_at m n)) i.same ∙ c.same }

  pub trail_is : trail m ≡ map (as_reached m) (walk_each p.count p p.count)
  unfolding trail
  trail_is =
      ap₂ (λ (k : ℕ) (Ts : List TypeInfo). reach_each k m Ts []) (sym r.count) (types_are p m r ∙ map_below (type_at m) p.count)
      ∙ (follows-each p.count p.count (omega arith)).same
