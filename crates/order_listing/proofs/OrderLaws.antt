-- Where the order was found over the catalogue's sets, what is written is the order of the map.
use Rattle.std.specs.Prelude.{Bool, true, map, ◌≡◌, ℕ, ◌<◌}
use Rattle.std.proofs.Math.Path.{refl, sym, ap}
use Rattle.std.proofs.Common.{◌∙◌, arith}
use Rattle.std.proofs.Math.ListN.{get_or}
use Rattle.lists.specs.Tabulating.{tabulate, tabulate-same, map-tabulate, taken}
use Rattle.definitions.specs.Records.{Sheet}
use Rattle.definitions.specs.Map.{LineType, type_map_of, line_type_of}
use Rattle.definitions.specs.Order.{organize_type_map}
use Rattle.definitions.specs.Packing.{order_bits}
use Rattle.order_form.specs.Reading.{type_at}
use Rattle.catalogue.specs.Layout.{key_at}
use Rattle.catalogue.specs.Catalogue.{name_of_key, Listed}
use Rattle.catalogue.specs.declared.Catalogue.{Catalogue}
use Rattle.order_parents.specs.SheetLaws.{line-count, line_at}
use Rattle.order_rounds.specs.Organized.{Holds, Organized}
use Rattle.order_rounds.specs.declared.sequence.Order.{Order}
use Rattle.order_listing.specs.Order.{name_of, names_in, order_in}

module _ (s : Sheet) (t : Catalogue) (order : Order) (n : ℕ) (whole : Bool) (l : Listed s t) (h : Holds (type_map_of s) t n whole) (o : Organized t n whole order true) where
  key-name : (a : ℕ) → a < n → name_of_key (key_at t a) ≡ (type_at (type_map_of s) a).name
  unfolding line_type_of
  key-name a k =
      (l.entry a (omega (arith, line-count s, h.count))).name
      ∙ ap (λ (T : LineType). T.name) (line_at s a (omega (arith, h.count)))

  pub names-are : names_in t order ≡ organize_type_map (type_map_of s)
  unfolding names_in
  names-are =
      let places = order.types.items in
      ap (tabulate (name_of t places)) (o.counted refl)
      ∙ tabulate-same (name_of t places) (λ i. (type_at (type_map_of s) (get_or places i 0)).name) n (λ i k. key-name (get_or places i 0) (o.within refl i k))
      ∙ sym (map-tabulate (λ (a : ℕ). (type_at (type_map_of s) a).name) (λ i. get_or places i 0) n)
      ∙ ap (map (λ (a : ℕ). (type_at (type_map_of s) a).name)) (sym (taken places 0 n (omega (arith, order.types.long, h.count, h.within.most))))
      ∙ o.names (type_map_of s) h refl

  pub order-bits : order_in t order ≡ order_bits (organize_type_map (type_map_of s))
  unfolding order_in
  order-bits = ap order_bits names-are
