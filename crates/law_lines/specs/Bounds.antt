-- How many items there are, within the limits of a sheet that was read.
use mathlib.Core.List.{List, [], ◌∷◌, ◌++◌, map}
use Rattle.std.specs.Prelude.{◌≡◌, refl, eqb}
use Rattle.std.proofs.Math.Path.{sym, subst}
use Rattle.std.proofs.Common.{◌∙◌}
use Prim.Native.Nat.{ℕ, ◌+◌, ◌*◌, ◌≤◌, ◌<◌, zero-le}
use native.Mathlib.Omega.{arith}
use borrow.Author.Tests.{eqb-true, ltb-true}
use Rattle.std.proofs.Math.Dec.{ltb}
use Rattle.std.proofs.Math.ListN.{length, length-append, length-map}
use Rattle.lists.specs.Lists.{In, Sorted, filter, each, set_of}
use Rattle.lists.specs.Tests.{at_in}
use Rattle.lists.specs.Sorting.{Distinct, sorted-imp, sort-perm, perm-length, set-sorted}
use Rattle.definitions.specs.Records.{Name, Resource, make_list, associate, nest_associate, alias, inherit, derive, no_derive, Annotation, TypeInfo, Sheet, Item}
use Rattle.definitions.specs.Comparisons.{name_before, dotted}
use Rattle.definitions.specs.Map.{LineType, LineMap, type_map_of, line_type_of, line_map_of}
use Rattle.definitions.specs.Making.{extension_line}
use Rattle.definitions.specs.Items.{associate_of, owned, given, of_word, associate_word, own_resource, own_classes, inherited_resource, words_made, items_at, items_for, items_of, ancestors}
use Rattle.definitions.specs.Lines.{Gives, plainly, nested, OwnResource, HasMaking}
use Rattle.law_orders.specs.Comparisons.{types-perm}
use Rattle.law_orders.specs.Rounds.{ancestor-type}
use Rattle.law_lines.specs.Within.{ResourceWithin, AnnotationWithin, Within}
use Rattle.lists.specs.Members.{filter-short, each-short, rising-short, keep-once, each_more}
use Rattle.lists.specs.Strict.{number-strict}
use Rattle.law_lines.specs.Statements.{Readable, line_map, ItemsAtMost}
use Rattle.law_lines.specs.Declarations.{type-of}
use Rattle.law_lines.specs.Associating.{above, made-is}

-- the resources word by word are no more than the resources
words-short : (us : List Resource) (W : List ℕ) → Distinct W → length (each (λ r. of_word r us) W) ≤ length us
words-short [] W d = rw (nothing W) zero-le
  where
    nothing : (W : List ℕ) → each {B = Resource} (λ r. []) W ≡ []
    nothing [] = refl
    nothing (r ∷ W) = nothing W
words-short (u ∷ us) W d =
    let h = keep-once (λ r. eqb u.word r) u (λ r. of_word r us) W d (λ r q e f. sym (eqb-true u.word r e) ∙ eqb-true u.word q f) in
    let k = words-short us W d in
    omega arith

-- ---- the items of a type

module _ (m : LineMap) (D : LineType) (As : List LineType) where
  pub own-classes-length : (r : ℕ) → length (own_classes m D r) ≡ length (of_word r (owned D))
  unfolding own_classes
  own-classes-length r =
      let f : Resource → Name = λ u. dotted u.dom r in
      sym (perm-length (sort-perm (name_before m.words) (map f (of_word r (owned D))))) ∙ length-map (of_word r (owned D)) f

  at-short : (r : ℕ) → length (items_at m D As r) ≤ length (of_word r (owned D)) + 2
  unfolding items_at
  at-short r =
      let own = map (own_resource m D r) (own_classes m D r) in
      let inh = map (inherited_resource m D As) (filter (associate_word As) (r ∷ [])) in
      let a = length-map (own_classes m D r) (own_resource m D r) ∙ own-classes-length r in
      let b = length-map (filter (associate_word As) (r ∷ [])) (inherited_resource m D As) in
      let c = filter-short (associate_word As) (r ∷ []) in
      omega (arith, length-append own (inh ++ (extension_line D r ∷ [])), length-append inh (extension_line D r ∷ []))

  pub words-ascend : Sorted (λ x y. x < y) (words_made D As)
  unfolding words_made
  words-ascend =
      let W = map (λ (u : Resource). u.word) (owned D ++ each given As) in
      sorted-imp (set_of ltb W) (λ x y _ _ h. ltb-true x y h) (set-sorted number-strict W)

  for-short : (a w : ℕ) → length (owned D) ≤ a → ((r : ℕ) → In r (words_made D As) → r < w) → length (items_for m D As) ≤ a + w + w
  unfolding items_for
  for-short a w h b =
      let W = words_made D As in
      let p = each_more (items_at m D As) (λ r. of_word r (owned D)) W at-short in
      let q = words-short (owned D) W (sorted-imp W (λ x y _ _ l e. absurd (omega arith)) words-ascend) in
      let k = rising-short W 0 w zero-le words-ascend (λ r i. (zero-le, b r i)) in
      omega arith

-- ---- within the limits

module _ (s : Sheet) (ok : Readable s) (in' : Within s) where
  abbrev W : ℕ
  W = length s.words

  pub gives-within : {A : TypeInfo} {u : Resource} → In A s.types → Gives A u → ResourceWithin W u
  gives-within {A} {u} i (plainly rs j k) = ((in'.type A i).annotation (associate rs) j).resource u k
  gives-within {A} {u} i (nested rs j k) = ((in'.type A i).annotation (nest_associate rs) j).resource u k

  pub own-within : {T : TypeInfo} {i j : ℕ} {u : Resource} → In T s.types → OwnResource T i j u → ResourceWithin W u
  own-within t o = gives-within t (plainly o.resources (at_in o.annotation) (at_in o.resource))

  pub made-below : {T : TypeInfo} {r : ℕ} → In T s.types → HasMaking s T r → r < W
  made-below t (HasMaking.own i j u o e) = subst (λ n. n < W) e (own-within t o).word
  made-below t (HasMaking.inherited h) = subst (λ n. n < W) h.associates.word (gives-within (ancestor-type h.above) h.associates.gives).word

  owned-short : (T : TypeInfo) → In T s.types → length (owned (line_type_of T)) ≤ 12 * 15
  unfolding owned line_type_of
  owned-short T t =
      let w = in'.type T t in
      let h = each-short associate_of T.annotations 15 (λ a i. short-of a (w.annotation a i)) in
      let k = w.annotations in
      omega arith
    where
      short-of : (a : Annotation) → AnnotationWithin W a → length (associate_of a) ≤ 15
      short-of make_list h = zero-le
      short-of (associate rs) h = h.resources
      short-of (nest_associate rs) h = zero-le
      short-of (alias w) h = zero-le
      short-of (inherit ns) h = zero-le
      short-of (derive t) h = zero-le
      short-of no_derive h = zero-le

  pub types-short : length (line_map s).types ≤ 64
  unfolding line_map_of
  types-short = let a = length-map (type_map_of s).types line_type_of in let b = perm-length (types-perm s) in let c = in'.types in omega arith

  pub type-items-short : (T : TypeInfo) → In T s.types → length (items_for (line_map s) (line_type_of T) (above s ok T)) ≤ 12 * 15 + 200 + 200
  type-items-short T t =
      for-short (line_map s) (line_type_of T) (above s ok T) (12 * 15) 200 (owned-short T t)
      (λ r j. let b = made-below t ((made-is s ok T r).0 j) in let w = in'.words in omega arith)

  items-short : length (items_of (line_map s)) ≤ 64 * (12 * 15 + 200 + 200)
  unfolding items_of
  items-short =
      let f : LineType → List Item = λ D. items_for (line_map s) D (ancestors (line_map s) D) in
      let h = each-short f (line_map s).types (12 * 15 + 200 + 200) (λ X i.
      let t = type-of s i in subst (λ D. length (f D) ≤ 12 * 15 + 200 + 200) t.2 (type-items-short t.0 t.1)) in
      let k = types-short in
      omega arith

pub items-at-most : ItemsAtMost
items-at-most s ok in' = items-short s ok in'
