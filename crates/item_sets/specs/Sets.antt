-- What the code makes for the catalogue of what stands there already: classes from above, classes passed on, the types that have
-- an extension record.
use Rattle.std.specs.Prelude.{List, ◌≡◌, ℕ, ◌/◌, ◌≤◌, ◌<◌}
use Rattle.lists.specs.Lists.{any}
use Rattle.rows.specs.Rows.{has_bit}
use Rattle.order_form.specs.Lists.{tab}
use Rattle.item_spread.specs.Spread.{Spread}
use Rattle.catalogue.specs.Layout.{extension_key_at, looked}
use Rattle.catalogue.specs.declared.Catalogue.{Catalogue}

-- Each of the first types in the order has its sets (FORMAT 3.1, 4.4).
pub record SpreadPut (order : List ℕ) (count : ℕ) (given : List ℕ) (old new : Catalogue) : Type 0 where
  pub right : Spread order count old.parents given new.above new.passed
  pub kept : new ≡ record old { above = new.above; passed = new.passed }

-- There are at most 32 records, and their keys have three bytes (FORMAT 2.2, 2.10).
pub record RecordKeysFit (t : Catalogue) (n : ℕ) : Type 0 where
  pub few : n ≤ 32
  pub small : (e : ℕ) → e < n → extension_key_at t e < 16777216

-- The types that have one of the first n records (FORMAT 2.10).
pub record ExtendedIs (t : Catalogue) (n r : ℕ) : Type 0 where
  pub types : (a : ℕ) → has_bit r a ≡ any (λ e. has_bit (looked t (extension_key_at t e / 256)) a) (tab (λ e. e) n)
