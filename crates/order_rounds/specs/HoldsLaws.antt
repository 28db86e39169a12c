-- What the order asks follows from what was put of the parents.
use Rattle.std.specs.Prelude.{List, ◌≡◌, ℕ, ◌<◌, length}
use Rattle.definitions.specs.Map.{TypeMap}
use Rattle.order_form.specs.Compact.{Within}
use Rattle.catalogue.specs.Layout.{parents_at}
use Rattle.catalogue.specs.declared.Catalogue.{Catalogue}
use Rattle.sheet_draft.specs.declared.Draft.{Draft}
use Rattle.sheet_draft.specs.declared.entry.Entry.{Entry}
use Rattle.order_parents.specs.Parents.{ParentsPut}
use Rattle.order_parents.specs.Known.{Rows}
use Rattle.order_parents.specs.MapLaws.{parent-sets, whole_is, sets-kept}
use Rattle.order_parents.specs.declared.Found.{Found}
use Rattle.order_rounds.specs.Organized.{Holds}

-- u is the catalogue later on, with the parents as they were put
pub holds_of : (m : TypeMap) (d : Draft) (entries : List Entry) (n own : ℕ) (old new u : Catalogue) (r : Found) → Within m → Rows m d entries n own old → ParentsPut d entries own n old new r
    → ((a : ℕ) → a < length m.types → parents_at u a ≡ parents_at new a) → Holds m u n r.whole
holds_of m d entries n own old new u r w rows put kept = record {
  within = w;
  count = rows.count;
  sets = sets-kept m new u kept (parent-sets m d entries n own old new r rows put);
  known = whole_is m d entries n own old new r rows put;
}
