-- The rows of the visit are those of the two steps, for every map.
use Rattle.std.specs.Prelude.{Bool, false, ◌&&◌, ◌||◌, ◌≡◌, length}
use Rattle.std.proofs.Math.Bool.{true, not, or-true, or_comm, or-false, and_assoc, and-true}
use mathlib.Core.List.{List, [], ◌∷◌, ◌++◌, append-nil, append_assoc}
use Rattle.std.proofs.Math.Path.{refl, sym, ap, ap₂, subst}
use Rattle.std.proofs.Common.{◌∙◌}
use Prim.Native.Nat.{ℕ, zero, suc}
use Rattle.lists.specs.Lists.{null}
use Rattle.lists.specs.Tests.{by, and_right}
use Rattle.definitions.specs.Records.{Name, TypeInfo, Row}
use Rattle.definitions.specs.Comparisons.{same_name, elem_name}
use Rattle.definitions.specs.Map.{TypeMap}
use Rattle.definitions.specs.Inherited.{InheritedAnnotation, handed_on}
use Rattle.definitions.specs.Synthesis.{interpret_type, Visited, Called, Heard, only_if, hear, hear_all, listed_parents, finish, visit, visit_all, synthesis}
use Rattle.law_orders.specs.Comparisons.{name-same}
use Rattle.law_orders.specs.Visit.{heard_by, choose, visit-seen, visit-new}
use Rattle.law_visit.specs.Trail.{Reached, seen_in, reach_all, reach, reach_each, trail, Played, succeeded, passes, flags_of, got_from, all_of, play, play_all, nothing_played, played_rows}
use Rattle.law_visit.specs.Extends.{Extends, no-further, further, one_more, seen-append, play-append, told_by, told-stays}

-- ---- one step of each

abbrev reached_by : ℕ → TypeMap → TypeInfo → List Reached → List Reached × List Bool
reached_by k m T l = reach_all (reach k m) (listed_parents m T) l []

reach_step : (k : ℕ) (m : TypeMap) (T : TypeInfo) (l : List Reached)
    → reach (suc k) m T l ≡ choose (seen_in l T.name) l ((reached_by k m T l).0 ++ (record { type = T; fresh = (reached_by k m T l).1 } ∷ []))
unfolding reach choose
reach_step k m T l = refl

pub reach-seen : (k : ℕ) (m : TypeMap) (T : TypeInfo) (l : List Reached) → seen_in l T.name ≡ true → reach (suc k) m T l ≡ l
unfolding choose
reach-seen k m T l e = reach_step k m T l ∙ rw e

pub reach-new : (k : ℕ) (m : TypeMap) (T : TypeInfo) (l : List Reached) → seen_in l T.name ≡ false
    → reach (suc k) m T l ≡ (reached_by k m T l).0 ++ (record { type = T; fresh = (reached_by k m T l).1 } ∷ [])
unfolding choose
reach-new k m T l e = reach_step k m T l ∙ rw e

-- ---- what is visited, and the trail

module _ (m : TypeMap) where
  -- the same names are seen, and the rows are those of the trail
  record Matches (v : Visited) (l : List Reached) : Type 0 where
    rows : v.rows ≡ (play_all m nothing_played l).rows
    seen : (n : Name) → elem_name n v.seen ≡ seen_in l n

  -- whether a call of T was the first to reach it
  abbrev first_at : TypeInfo → List Reached → List Reached → Bool
  first_at T l k = not (seen_in l T.name) && seen_in k T.name

  -- a call of T, and the trail before and after it
  record Calls (T : TypeInfo) (l : List Reached) (c : Called) (k : List Reached) : Type 0 where
    same : Matches c.visited k
    more : Extends l k
    ok : c.ok ≡ passes (told_by m k) (first_at T l k) T

  -- the calls of some listed parents: the flags that they add, and what the last of the trail says of each
  record Listens (Ps : List TypeInfo) (h : Heard) (l : List Reached) (fs : List Bool) (g : Heard) (r : List Reached × List Bool) : Type 0 where
    flags : List Bool
    fresh : r.1 ≡ fs ++ flags
    same : Matches g.visited r.0
    more : Extends l r.0
    ok : g.ok ≡ (h.ok && all_of (flags_of (told_by m r.0) flags Ps))
    got : g.got ≡ h.got ++ got_from m (flags_of (told_by m r.0) flags Ps) Ps

  -- what passed when it was heard passes at the end
  passes-stays : (P : TypeInfo) (l k j : List Reached) → Extends k j → passes (told_by m k) (first_at P l k) P ≡ passes (told_by m j) (first_at P l k) P
  passes-stays P l k j x =
      by (first_at P l k)
      (λ e. rw e (sym (told-stays m x P.name (and_right (not (seen_in l P.name)) (seen_in k P.name) e))))
      (λ e. rw e)

  Calling : (TypeInfo → Visited → Called) → (TypeInfo → List Reached → List Reached) → Type 0
  Calling f g = (T : TypeInfo) (v : Visited) (l : List Reached) → Matches v l → Calls T l (f T v) (g T l)

  listen : (f : TypeInfo → Visited → Called) (g : TypeInfo → List Reached → List Reached) → Calling f g → (Ps : List TypeInfo) (h : Heard) (l : List Reached) (fs : List Bool)
      → Matches h.visited l → Listens Ps h l fs (hear_all m f Ps h) (reach_all g Ps l fs)
  unfolding hear_all reach_all Calling
  listen f g q [] h l fs s =
      record { flags = []; fresh = sym (append-nil fs); same = s; more = no-further l; ok = sym (and-true h.ok); got = sym (append-nil h.got) }
  listen f g q (P ∷ Ps) h l fs s =
      let c = q P h.visited l s in
      let k = g P l in
      let b = first_at P l k in
      let next = hear h (handed_on m P) (f P h.visited) in
      let r = listen f g q Ps next k (fs ++ (b ∷ [])) c.same in
      let end = (reach_all g Ps k (fs ++ (b ∷ []))).0 in
      let o : (f P h.visited).ok ≡ passes (told_by m end) b P = c.ok ∙ passes-stays P l k end r.more in
      record {
        flags = b ∷ r.flags;
        fresh = r.fresh ∙ append_assoc fs (b ∷ []) r.flags;
        same = r.same;
        more = further c.more r.more;
        ok =
            r.ok
            ∙ ap (λ (a : Bool). (h.ok && a) && all_of (flags_of (told_by m end) r.flags Ps)) o
            ∙ and_assoc h.ok (passes (told_by m end) b P) (all_of (flags_of (told_by m end) r.flags Ps));
        got =
            r.got
            ∙ ap (λ (a : Bool). (h.got ++ only_if a (handed_on m P)) ++ got_from m (flags_of (told_by m end) r.flags Ps) Ps) o
            ∙ append_assoc h.got (only_if (passes (told_by m end) b P) (handed_on m P)) (got_from m (flags_of (told_by m end) r.flags Ps) Ps);
      }

  played-one : (l : List Reached) (x : Reached) → play_all m nothing_played (l ++ (x ∷ [])) ≡ play m (play_all m nothing_played l) x
  played-one l x = play-append m nothing_played l (x ∷ []) ∙ unfold play_all in refl

  -- the last call is that of the last type
  told-now : (d : Played) (x : Reached) →
      let Ps = listed_parents m x.type in
      let fs = flags_of d.told x.fresh Ps in
      succeeded (play m d x).told x.type.name ≡ (all_of fs && null (interpret_type m x.type (got_from m fs Ps)).rows)
  unfolding play
  told-now d x = rw (name-same {a = x.type.name} refl) (or-false _)

  -- T itself behind its parents
  finishes : (T : TypeInfo) (v : Visited) (l : List Reached) (h : Heard) (r : List Reached × List Bool) → seen_in l T.name ≡ false
      → Listens (listed_parents m T) (record { ok = true; got = []; visited = v }) l [] h r
      → Calls T l (finish T h (interpret_type m T h.got)) (r.0 ++ (record { type = T; fresh = r.1 } ∷ []))
  unfolding finish play
  finishes T v l h r e s =
      let x : Reached = record { type = T; fresh = r.1 } in
      let k = r.0 ++ (x ∷ []) in
      let Ps = listed_parents m T in
      let fs = flags_of (told_by m r.0) r.1 Ps in
      let got : h.got ≡ got_from m fs Ps = s.got ∙ ap (λ (a : List Bool). got_from m (flags_of (told_by m r.0) a Ps) Ps) (sym s.fresh) in
      let ok : h.ok ≡ all_of fs = s.ok ∙ ap (λ (a : List Bool). all_of (flags_of (told_by m r.0) a Ps)) (sym s.fresh) in
      let rs : (interpret_type m T h.got).rows ≡ (interpret_type m T (got_from m fs Ps)).rows = ap (λ (a : List InheritedAnnotation). (interpret_type m T a).rows) got in
      let o : first_at T l k ≡ true = ap₂ (λ (a b : Bool). not a && b) e (seen-append r.0 (x ∷ []) T.name ∙ rw (name-same {a = T.name} refl, or-true)) in
      record {
        same = record {
          rows = ap₂ (λ (a b : List Row). a ++ b) s.same.rows rs ∙ sym (ap (λ (d : Played). d.rows) (played-one r.0 x));
          seen = λ n.
              or_comm (same_name n T.name) (elem_name n h.visited.seen)
              ∙ ap₂ (λ (a b : Bool). a || b) (s.same.seen n) (sym (or-false (same_name n T.name)))
              ∙ sym (seen-append r.0 (x ∷ []) n);
        };
        more = one_more s.more x e;
        ok =
            ap₂ (λ (a b : Bool). a && b) ok (ap null rs)
            ∙ sym
            (ap (λ (b : Bool). passes (told_by m k) b T) o
            ∙ ap (λ (d : Played). succeeded d.told T.name) (played-one r.0 x)
            ∙ told-now (play_all m nothing_played r.0) x);
      }

  visits : (k : ℕ) → Calling (visit k m) (reach k m)
  unfolding Calling
  visits zero T v l s = unfold visit in unfold reach in record { same = s; more = no-further l; ok = by (seen_in l T.name) (λ e. rw e) (λ e. rw e) }
  visits (suc k) T v l s =
      by (seen_in l T.name)
      (λ e.
      subst (λ c. Calls T l c (reach (suc k) m T l)) (sym (visit-seen k m T v (s.seen T.name ∙ e)))
      (subst (Calls T l (record { ok = true; visited = v })) (sym (reach-seen k m T l e))
      (record { same = s; more = no-further l; ok = rw e })))
      (λ e.
      subst (λ c. Calls T l c (reach (suc k) m T l)) (sym (visit-new k m T v (s.seen T.name ∙ e)))
      (subst (Calls T l (finish T (heard_by k m T v) (interpret_type m T (heard_by k m T v).got))) (sym (reach-new k m T l e))
      (finishes T v l (heard_by k m T v) (reached_by k m T l) e (listen (visit k m) (reach k m) (visits k) (listed_parents m T) (record { ok = true; got = []; visited = v }) l [] s))))

  each-visited : (k : ℕ) (Ts : List TypeInfo) (v : Visited) (l : List Reached) → Matches v l → Matches (visit_all k m Ts v) (reach_each k m Ts l)
  unfolding visit_all reach_each
  each-visited k [] v l s = s
  each-visited k (T ∷ Ts) v l s = each-visited k Ts (visit k m T v).visited (reach k m T l) (unfold Calling in (visits k T v l s).same)

-- the rows of the synthesis, made in two steps
pub rows-in-two-steps : (m : TypeMap) → (synthesis m).rows ≡ played_rows m
unfolding synthesis played_rows trail
rows-in-two-steps m = (each-visited m (length m.types) m.types (record { seen = []; rows = []; items = [] }) [] (unfold play_all in record { rows = refl; seen = λ n. refl })).rows
