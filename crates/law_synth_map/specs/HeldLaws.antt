-- What follows from `HeldMap s bs ns p`: which types stand at which place, their names and their parents.
use Rattle.std.specs.Prelude.{Bool, true, false, ◌≡◌, ℕ, ◌<◌, length, Option}
use mathlib.Core.List.Memᴰ
use mathlib.Core.List.{List, map}
use Rattle.std.proofs.Math.Path.{sym, ap}
use Rattle.std.proofs.Common.{◌∙◌, subst, arith}
use Rattle.lists.specs.Lists.{In, ascends}
use Rattle.lists.specs.Sorting.{sorted-ascends}
use Rattle.lists.specs.Members as members
use Rattle.lists.specs.Appending.{map-map, each-single}
use Rattle.lists.specs.Places.{get_d-in}
use Rattle.definitions.specs.Records.{Name, TypeInfo, Sheet}
use Rattle.definitions.specs.Comparisons.{name_before}
use Rattle.definitions.specs.Checks.{names_twice}
use Rattle.definitions.specs.Map.{type_map_of}
use Rattle.definitions.specs.Synthesis.{listed_parents}
use Rattle.definitions.specs.OrderRows.{type_named}
use Rattle.law_orders.specs.Comparisons.{names-once, types-is, types-ascend}
use Rattle.order_form.specs.Reading.{listed, no_type, type_at, place_in, parent_in}
use Rattle.order_form.specs.declared.Parent.{Parent}
use Rattle.order_form.specs.Rounds.{final, lists_self}
use Rattle.order_form.specs.Names.{whole-order, no_self, named-yes}
use Rattle.order_form.specs.declared.Parents.{Parents}
use Rattle.synth_own.specs.declared.Location.{Location}
use Rattle.law_parents.specs.Placed.{ParentsBelow}
use Rattle.law_parents.specs.Earlier.{all-below}
use Rattle.synth_map.specs.HeldMap.{HeldMap}

module _ (s : Sheet) (bs : List Bool) (ns : List (Option Location)) (p : Parents) (h : HeldMap s bs ns p) where
  -- ---- the type at a place

  type-in-map : (i : ℕ) → i < p.count → In (type_at (type_map_of s) i) (type_map_of s).types
  type-in-map i l = get_d-in (type_map_of s).types no_type i (omega (arith, h.reads.count))

  pub type-in : (i : ℕ) → i < p.count → In (type_at (type_map_of s) i) s.types
  type-in i l = (types-is s (type_at (type_map_of s) i)).0 (type-in-map i l)

  -- ---- the order

  pub none-self : lists_self p ≡ false
  none-self = no_self p (type_map_of s) h.reads h.order

  pub all_placed : length (final p) ≡ p.count
  all_placed = whole-order p (type_map_of s) h.reads h.order

  pub parents-below : (t : ℕ) → t < p.count → ParentsBelow p t
  parents-below t l = all-below p all_placed none-self t l

  -- ---- the parents of a type

  -- every listed parent is a type
  pub parent_place : (t : ℕ) → t < p.count → (n : Name) → In n (type_at (type_map_of s) t).parents → place_in (type_map_of s) n < p.count
  unfolding parent_in
  parent_place t l n i =
      let m = type_map_of s in
      (parents-below t l).lower (parent_in m n) (subst (In (parent_in m n)) (sym (h.reads.types t l).parents) (Memᴰ.map (parent_in m) i))

  pub parents-are : (t : ℕ) → t < p.count → listed_parents (type_map_of s) (type_at (type_map_of s) t) ≡ map (λ (q : Parent). type_at (type_map_of s) q.place) (listed p t)
  unfolding listed_parents parent_in
  parents-are t l =
      let m = type_map_of s in
      let qs : List Name = (type_at m t).parents in
      each-single (type_named m) (λ n. type_at m (place_in m n)) qs (λ n i. named-yes p m h.reads n (parent_place t l n i))
      ∙ sym (map-map (λ (q : Parent). type_at m q.place) (parent_in m) qs)
      ∙ ap (map (λ (q : Parent). type_at m q.place)) (sym (h.reads.types t l).parents)

  -- ---- the names

  names-once-held : names_twice s ≡ false
  names-once-held = names-once s h.readable.once

  -- the types of a map stand in name order (FORMAT 1.4)
  pub names-ascend : ascends (name_before (type_map_of s).words) (map (λ (T : TypeInfo). T.name) (type_map_of s).types) ≡ true
  unfolding type_map_of
  names-ascend =
      let f : TypeInfo → Name = λ T. T.name in
      sorted-ascends (name_before (type_map_of s).words) (map f (type_map_of s).types)
      (members.sorted-map (λ a b. name_before s.words a b ≡ true) f (type_map_of s).types (types-ascend s names-once-held))
