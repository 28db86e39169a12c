-- Identical makings: a type has none exactly if none of its items stands twice, and whether it has is decided.
use Rattle.std.specs.Prelude.{Bool, true, false, ◌&&◌, not, List, [], ◌∷◌, ◌++◌, map, ◌⊎◌, ◌≡◌, eqb}
use mathlib.Core.List.Memᴰ
use mathlib.Core.List.Permᴰ
use Rattle.std.proofs.lemmas.List.{append_cancel_right}
use Rattle.std.proofs.Common.{inl, inr, ◌∙◌, eq-eqb, eqb-true}
use Rattle.std.proofs.Math.Logic.{⊎_elim}
use Rattle.std.proofs.Math.Path.{refl, sym, ap, ap₂, subst}
use Prim.Native.Nat.{ℕ, zero, suc}
use Rattle.std.proofs.lemmas.Bool.{not-true}
use Rattle.lists.specs.Lists.{In, At, here, later, Sorted, any, keep, filter, each}
use Rattle.lists.specs.Tests.{by, never, not_so, and_left, and_right, and_both, cons-elim, any_of, any-not, filter-in, filter-of, each_in, each_of, at_in}
use Rattle.lists.specs.Sorting.{Distinct, sorted-across, sorted-imp, perm-sorted, sort-perm}
use Rattle.definitions.specs.Records.{Name, Resource, make_list, associate, nest_associate, alias, inherit, derive, no_derive, Annotation, TypeInfo, Sheet, Item}
use Rattle.definitions.specs.Comparisons.{name_before, dotted}
use Rattle.definitions.specs.Map.{LineType, LineMap, line_type_of}
use Rattle.definitions.specs.Making.{extension_line, same_item}
use Rattle.definitions.specs.Items.{associate_of, owned, of_word, has_word, associate_word, own_resource, own_classes, inherited_resource, words_made, items_at, items_for}
use Rattle.definitions.specs.Lines.{OwnResource, HasMaking, OwnMaking, InheritedMaking, Source, Making, ClassOf}
use Rattle.definitions.specs.ItemOrder.{word_of}
use Rattle.lists.specs.Members.{filter_none, at-sorted, map-sorted, sorted-left, each-sorted, each-sorted-in, Between}
use Rattle.lists.specs.Places.{one_at}
use Rattle.lists.specs.Strict.{which}
use Rattle.law_lines.specs.Statements.{Readable, line_map, NoneIdentical, DeclaredFor, IdenticalIsTwice}
use Rattle.law_lines.specs.Associating.{word-is, word-of, owned-of, owned_in, above, made-is}
use Rattle.law_lines.specs.Lines.{own-making-of, own-making-in, own-classes-are, inherited-making-is, class-above}
use Rattle.law_lines.specs.Once.{own-word, own-class, inherited-word, for-once, SameResource}
use Rattle.law_lines.specs.SameItem.{same_item_lem, item-same}

resources-of : {rs rs' : List Resource} → associate rs ≡ associate rs' → rs ≡ rs'
resources-of e = ap associate_of e

-- what holds within each word holds throughout
by-word : (us : List Resource) → ((r : ℕ) → Sorted (λ u w. SameResource u w → ⊥) (of_word r us)) → Sorted (λ u w. SameResource u w → ⊥) us
by-word [] h = tt
by-word (u ∷ us) h = (
  λ w i e. first (h u.word) w ((word-is u.word us w).1 (i, sym e.0)) e,
  by-word us (λ r. rest (of_word r us) (eqb u.word r) (h r)),
)
  where
    first : Sorted (λ u w. SameResource u w → ⊥) (keep (eqb u.word u.word) u (of_word u.word us)) → (w : Resource) → In w (of_word u.word us) → SameResource u w → ⊥
    first s = (rw (eq-eqb u.word u.word refl) at s).0

    rest : (l : List Resource) (b : Bool) → Sorted (λ u w. SameResource u w → ⊥) (keep b u l) → Sorted (λ u w. SameResource u w → ⊥) l
    rest l true s = s.1
    rest l false s = s

module _ (s : Sheet) (ok : Readable s) (T : TypeInfo) where
  abbrev D : LineType
  D = line_type_of T

  abbrev As : List LineType
  As = above s ok T

  module _ (once : Distinct (items_for (line_map s) D As)) where
    at-word : (r : ℕ) → HasMaking s T r → Distinct (items_at (line_map s) D As r)
    unfolding items_for
    at-word r h = each-sorted-in (λ a b. a ≡ b → ⊥) (items_at (line_map s) D As) once ((made-is s ok T r).1 h)

    owns-once : (r : ℕ) → HasMaking s T r → Sorted (λ u w. SameResource u w → ⊥) (of_word r (owned D))
    unfolding items_at own_classes
    owns-once r h =
        let f : Resource → Name = λ u. dotted u.dom r in
        let us = of_word r (owned D) in
        let a = map-sorted (λ a b. a ≡ b → ⊥) (own_resource (line_map s) D r) (own_classes (line_map s) D r)
        (sorted-left (λ a b. a ≡ b → ⊥) (map (own_resource (line_map s) D r) (own_classes (line_map s) D r)) _ (at-word r h)) in
        let b : Distinct (own_classes (line_map s) D r) = sorted-imp (own_classes (line_map s) D r) (λ c d _ _ n e. n (ap (own_resource (line_map s) D r) e)) a in
        let c : Distinct (map f us) = perm-sorted (λ a b. a ≡ b → ⊥) (λ a b h e. h (sym e)) (Permᴰ.symm (sort-perm (name_before (line_map s).words) (map f us))) b in
        sorted-imp us (λ u w _ _ n e. n (ap (λ d. dotted d r) e.1)) (map-sorted (λ a b. a ≡ b → ⊥) f us c)

    owned-unlike : Sorted (λ u w. SameResource u w → ⊥) (owned D)
    owned-unlike =
        by-word (owned D) (λ r.
        by (has_word (owned D) r)
        (λ p.
        let x = word-of (owned D) r p in
        let o = owned-of T x.1 in
        owns-once r (HasMaking.own o.0 o.1 x.0 o.2 x.2))
        (λ p. rw (filter_none (λ (u : Resource). eqb u.word r) (owned D) (λ u i. any-not (λ (u : Resource). eqb u.word r) p i)) tt))

    -- two own resources that are alike stand at one place
    one-source : {i j k l : ℕ} {u w : Resource} → OwnResource T i j u → OwnResource T k l w → SameResource u w → Source.own i j ≡ Source.own k l
    unfolding owned line_type_of
    one-source {i} {j} {k} {l} {u} {w} o p e =
        let R : Resource → Resource → Type 0 = λ u w. SameResource u w → ⊥ in
        let across = each-sorted R associate_of T.annotations owned-unlike in
        let back : SameResource w u = (sym e.0, sym e.1) in
        ⊎_elim
        (λ h. absurd (at-sorted (Between R associate_of) across o.annotation p.annotation h u w (at_in o.resource) (at_in p.resource) e))
        (⊎_elim
        (λ h. absurd (at-sorted (Between R associate_of) across p.annotation o.annotation h w u (at_in p.resource) (at_in o.resource) back))
        (λ q.
        let rs : o.resources ≡ p.resources = resources-of (one_at o.annotation (subst (λ n. At (associate p.resources) n T.annotations) (sym q) p.annotation)) in
        let within : Sorted R o.resources = each-sorted-in R associate_of owned-unlike (at_in o.annotation) in
        let at : At w l o.resources = subst (At w l) (sym rs) p.resource in
        ⊎_elim
        (λ h. absurd (at-sorted R within o.resource at h e))
        (⊎_elim (λ h. absurd (at-sorted R within at o.resource h back)) (λ z. ap₂ Source.own q z))
        (which j l)))
        (which i k)

    own-not-above : {i j r : ℕ} {x : Item} → OwnMaking s T i j x → InheritedMaking s T r x → ⊥
    unfolding items_at
    own-not-above {r = r} {x = x} h g =
        let m = line_map s in
        let a = own-making-of s ok T h in
        let b = (inherited-making-is s ok T r x).0 g in
        let u = a.0 in
        let e : u.word ≡ r = sym (own-word m D u.word (dotted u.dom u.word)) ∙ ap word_of (sym a.3 ∙ b.2) ∙ inherited-word m D As r in
        let c : own_resource m D u.word (dotted u.dom u.word) ≡ own_resource m D r (dotted u.dom r) = ap (λ w. own_resource m D w (dotted u.dom w)) e in
        let left : In x (map (own_resource m D r) (own_classes (line_map s) D r)) =
        Memᴰ.cast (a.3 ∙ c) (Memᴰ.map (own_resource m D r) ((own-classes-are s ok T r (dotted u.dom r)).1 (u, owned_in a.1, e, refl))) in
        let right : In x (map (inherited_resource m D As) (filter (associate_word As) (r ∷ [])) ++ (extension_line D r ∷ [])) =
        Memᴰ.append_left (extension_line D r ∷ [])
        (Memᴰ.cast b.2 (Memᴰ.map (inherited_resource m D As) (filter-in (associate_word As) {l = r ∷ []} (Memᴰ.head refl) b.0))) in
        sorted-across (λ a b. a ≡ b → ⊥) (map (own_resource m D r) (own_classes (line_map s) D r))
        (map (inherited_resource m D As) (filter (associate_word As) (r ∷ [])) ++ (extension_line D r ∷ []))
        (at-word r (HasMaking.inherited g.associated)) x x left right refl

    own-alike : {i j k l : ℕ} {x : Item} → OwnMaking s T i j x → OwnMaking s T k l x → Source.own i j ≡ Source.own k l
    own-alike h g =
        let m = line_map s in
        let a = own-making-of s ok T h in
        let b = own-making-of s ok T g in
        let u = a.0 in
        let w = b.0 in
        let q = sym a.3 ∙ b.3 in
        let e : u.word ≡ w.word = sym (own-word m D u.word (dotted u.dom u.word)) ∙ ap word_of q ∙ own-word m D w.word (dotted w.dom w.word) in
        let c : u.dom ++ (u.word ∷ []) ≡ w.dom ++ (w.word ∷ []) = own-class m D u.word w.word (dotted u.dom u.word) (dotted w.dom w.word) q in
        one-source a.1 b.1 (e, append_cancel_right u.dom w.dom (w.word ∷ []) (ap (λ n. u.dom ++ (n ∷ [])) (sym e) ∙ c))

    pub none-identical : NoneIdentical s T
    none-identical a b x n (Making.own i j e h) (Making.own k l f g) = n (e ∙ own-alike h g ∙ sym f)
    none-identical a b x n (Making.own i j e h) (Making.inherited q f g) = own-not-above h g
    none-identical a b x n (Making.inherited r e h) (Making.own k l f g) = own-not-above g h
    none-identical a b x n (Making.inherited r e h) (Making.inherited q f g) =
        let m = line_map s in
        let w : r ≡ q =
        sym (inherited-word m D As r) ∙ ap word_of (sym ((inherited-making-is s ok T r x).0 h).2 ∙ ((inherited-making-is s ok T q x).0 g).2) ∙ inherited-word m D As q in
        n (e ∙ ap Source.inherited w ∙ sym f)

pub identical-is-twice : IdenticalIsTwice
identical-is-twice s ok T d = (for-once s ok T d, none-identical s ok T)

-- ---- the makings, listed with their sources

-- the elements with their places
abbrev places : {A : Type 0} → List A → List (ℕ × A)
places [] = []
places {A} (x ∷ l) = (zero, x) ∷ map (λ (p : ℕ × A). (suc p.0, p.1)) (places l)

places-in : {A : Type 0} {x : A} {i : ℕ} {l : List A} → At x i l → In (i, x) (places l)
places-in here = Memᴰ.head refl
places-in {A} (later h) = Memᴰ.tail (Memᴰ.map (λ (p : ℕ × A). (suc p.0, p.1)) (places-in h))

places_of : {A : Type 0} (p : ℕ × A) (l : List A) → In p (places l) → At p.1 p.0 l
places_of p [] i = absurd (Memᴰ.not-nil i)
places_of {A} p (x ∷ l) i =
    cons-elim i
    (λ e. subst (λ (q : ℕ × A). At q.1 q.0 (x ∷ l)) (sym e) here)
    (λ j.
    let r = Memᴰ.of_map (λ (p : ℕ × A). (suc p.0, p.1)) (places l) j in
    subst (λ (q : ℕ × A). At q.1 q.0 (x ∷ l)) r.2 (later (places_of r.0 l r.1)))

abbrev Made : Type 0
Made = Source × Item

-- what the resources of an own Associate make (FORMAT 4.3)
abbrev own_made : LineMap → LineType → ℕ × Annotation → List Made
own_made m T a = map (λ (u : ℕ × Resource). (Source.own a.0 u.0, own_resource m T u.1.word (dotted u.1.dom u.1.word))) (places (associate_of a.1))

-- what a word associated above makes (FORMAT 4.4)
abbrev inherited_made : LineMap → LineType → List LineType → ℕ → Made
inherited_made m T As r = (Source.inherited r, inherited_resource m T As r)

made_of : LineMap → LineType → List LineType → List Made
made_of m T As = each (own_made m T) (places T.annotations) ++ map (inherited_made m T As) (filter (associate_word As) (words_made T As))

pub same_source : Source → Source → Bool
same_source (Source.own i j) (Source.own k l) = eqb i k && eqb j l
same_source (Source.own i j) (Source.inherited r) = false
same_source (Source.inherited r) (Source.own k l) = false
same_source (Source.inherited r) (Source.inherited q) = eqb r q

pub same_source_lem : (a b : Source) → same_source a b ≡ true → a ≡ b
unfolding same_source
same_source_lem (Source.own i j) (Source.own k l) e = ap₂ Source.own (eqb-true i k (and_left (eqb i k) (eqb j l) e)) (eqb-true j l (and_right (eqb i k) (eqb j l) e))
same_source_lem (Source.own i j) (Source.inherited r) e = never e refl
same_source_lem (Source.inherited r) (Source.own k l) e = never e refl
same_source_lem (Source.inherited r) (Source.inherited q) e = ap Source.inherited (eqb-true r q e)

pub source-self : (a : Source) → same_source a a ≡ true
unfolding same_source
source-self (Source.own i j) = and_both (eq-eqb i i refl) (eq-eqb j j refl)
source-self (Source.inherited r) = eq-eqb r r refl

own-place : {T : TypeInfo} {i j : ℕ} {u : Resource} (a : Annotation) → At a i T.annotations → At u j (associate_of a) → OwnResource T i j u
own-place make_list p q = absurd (Memᴰ.not-nil (at_in q))
own-place (associate rs) p q = record { resources = rs; annotation = p; resource = q }
own-place (nest_associate rs) p q = absurd (Memᴰ.not-nil (at_in q))
own-place (alias w) p q = absurd (Memᴰ.not-nil (at_in q))
own-place (inherit ns) p q = absurd (Memᴰ.not-nil (at_in q))
own-place (derive t) p q = absurd (Memᴰ.not-nil (at_in q))
own-place no_derive p q = absurd (Memᴰ.not-nil (at_in q))

-- two makings of T that are identical
abbrev pub Identical : Sheet → TypeInfo → Type 0
Identical s T = (a b : Source) × (x : Item) × (a ≡ b → ⊥) × Making s T a x × Making s T b x

module _ (s : Sheet) (ok : Readable s) (T : TypeInfo) where
  made_in : {a : Source} {x : Item} → Making s T a x → In (a, x) (made_of (line_map s) (line_type_of T) (above s ok T))
  unfolding made_of line_type_of
  made_in {a} {x} (Making.own i j e h) =
      let k = own-making-of s ok T h in
      let u = k.0 in
      let f : ℕ × Resource → Made = λ u. (Source.own i u.0, own_resource (line_map s) (line_type_of T) u.1.word (dotted u.1.dom u.1.word)) in
      Memᴰ.append_left _
      (each_in (own_made (line_map s) (line_type_of T)) (places-in k.1.annotation) (Memᴰ.cast (ap₂ (λ a x. (a, x)) e k.3) (Memᴰ.map f (places-in k.1.resource))))
  made_in {a} {x} (Making.inherited r e h) =
      let k = (inherited-making-is s ok T r x).0 h in
      Memᴰ.append_right (each (own_made (line_map s) (line_type_of T)) (places T.annotations))
      (Memᴰ.cast (ap₂ (λ a x. (a, x)) e k.2)
      (Memᴰ.map (inherited_made (line_map s) (line_type_of T) (above s ok T))
      (filter-in (associate_word (above s ok T)) ((made-is s ok T r).1 (HasMaking.inherited h.associated)) k.0)))

  made-of : DeclaredFor s T → (p : Made) → In p (made_of (line_map s) (line_type_of T) (above s ok T)) → Making s T p.0 p.1
  unfolding made_of line_type_of
  made-of d p i =
      let m = line_map s in
      let f : ℕ → ℕ × Resource → Made = λ n u. (Source.own n u.0, own_resource m (line_type_of T) u.1.word (dotted u.1.dom u.1.word)) in
      ⊎_elim
      (λ j.
      let y = each_of (own_made m (line_type_of T)) (places T.annotations) j in
      let z = Memᴰ.of_map (f y.0.0) (places (associate_of y.0.1)) y.2 in
      let u = z.0.1 in
      let o : OwnResource T y.0.0 z.0.0 u = own-place y.0.1 (places_of y.0 T.annotations y.1) (places_of z.0 (associate_of y.0.1) z.1) in
      subst (λ (q : Made). Making s T q.0 q.1) z.2
      (Making.own y.0.0 z.0.0 refl (own-making-in s ok T u o (d (dotted u.dom u.word) (ClassOf.own y.0.0 z.0.0 u o refl)) refl)))
      (λ j.
      let y = Memᴰ.of_map (inherited_made m (line_type_of T) (above s ok T)) (filter (associate_word (above s ok T)) (words_made (line_type_of T) (above s ok T))) j in
      let z = filter-of (associate_word (above s ok T)) (words_made (line_type_of T) (above s ok T)) y.1 in
      subst (λ (q : Made). Making s T q.0 q.1) y.2
      (Making.inherited y.0 refl ((inherited-making-is s ok T y.0 (inherited_resource m (line_type_of T) (above s ok T) y.0)).1
      (z.1, λ c k. d c (class-above s ok T y.0 k), refl))))
      (Memᴰ.append_cases (each (own_made m (line_type_of T)) (places T.annotations)) i)

  -- whether two are identical is decided
  pub identical-or-not : DeclaredFor s T → Identical s T ⊎ NoneIdentical s T
  identical-or-not d =
      by (any (λ p. any (twice p) L) L)
      (λ e.
      let x = any_of (λ p. any (twice p) L) L e in
      let y = any_of (twice x.0) L x.2 in
      let n = and_left (not (same_source x.0.0 y.0.0)) (same_item x.0.1 y.0.1) y.2 in
      let q : x.0.1 ≡ y.0.1 = same_item_lem x.0.1 y.0.1 (and_right (not (same_source x.0.0 y.0.0)) (same_item x.0.1 y.0.1) y.2) in
      inl (
        x.0.0,
        y.0.0,
        x.0.1,
        λ w. never (ap (same_source x.0.0) (sym w) ∙ source-self x.0.0) (not-true (same_source x.0.0 y.0.0) n),
        made-of d x.0 x.1,
        subst (Making s T y.0.0) (sym q) (made-of d y.0 y.1),
      ))
      (λ e.
      inr (λ a b x n h g.
      never (and_both (ap not (not_so (λ w. n (same_source_lem a b w)))) (item-same {x = x} refl))
      (any-not (twice (a, x)) (any-not (λ p. any (twice p) L) e (made_in h)) (made_in g))))
    where
      L : List Made
      L = made_of (line_map s) (line_type_of T) (above s ok T)

      twice : Made → Made → Bool
      twice p q = not (same_source p.0 q.0) && same_item p.1 q.1
