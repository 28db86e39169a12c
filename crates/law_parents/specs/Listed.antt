-- The parents that a type lists, one by one.
use mathlib.Core.List.Memᴰ
use Rattle.std.specs.Prelude.{refl, ℕ, ◌<◌}
use Rattle.std.proofs.Common.{sym}
use Rattle.std.proofs.Math.Path.{subst}
use Rattle.lists.specs.Lists.{In}
use Rattle.order_form.specs.Lists.{tab, tab-split}
use Rattle.order_form.specs.Reading.{parent_at, how_many, listed}
use Rattle.order_form.specs.declared.Parent.{Parent}
use Rattle.order_form.specs.declared.Parents.{Parents}
use Rattle.law_parents.specs.Placed.{ParentsBelow}

module _ (p : Parents) (t : ℕ) where
  -- the parent that type t lists at i
  abbrev pub parent : ℕ → Parent
  parent i = parent_at p t i

  parent_listed : (i : ℕ) → i < how_many p t → In (parent i) (listed p t)
  unfolding listed
  parent_listed i h =
      let s = tab-split parent (how_many p t) i h in
      subst (In (parent i)) (sym s.1) (Memᴰ.append_right (tab parent i) (Memᴰ.head refl))

  pub parent-below : ParentsBelow p t → (i : ℕ) → i < how_many p t → (parent i).place < p.count
  parent-below b i h = b.lower (parent i) (parent_listed i h)
