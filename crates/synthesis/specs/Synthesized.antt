-- What the synthesis leaves in the lent slice, and what it answers.
use Rattle.std.specs.Prelude.{Bool, List, ◌≡◌, ℕ, ◌+◌, ◌*◌, ◌≤◌, min, ltb, Option}
use Rattle.std.proofs.Common.{sym, ap, ◌∙◌, arith, lt-ltb, le-ltb, ltb-true, ltb-false}
use lib.ListN.{length, take}
use Rattle.lists.specs.Lists.{each}
use Rattle.lists.specs.Tests.{by}
use Rattle.definitions.specs.Records.{Sheet, Row}
use Rattle.definitions.specs.Map.{type_map_of}
use Rattle.definitions.specs.Packing.{row_bytes}
use Rattle.definitions.specs.Synthesis.{synthesis}
use Rattle.definitions.specs.Answer.{overwrite}
use Rattle.law_orders.specs.RowBytes.{six}
use Rattle.order_form.specs.declared.Parents.{Parents}
use Rattle.synth_own.specs.declared.Location.{Location}
use Rattle.catalogue.specs.declared.Catalogue.{Catalogue}
use Rattle.synth_map.specs.HeldMap.{HeldMap}
use Rattle.synth_classes.specs.Known.{Known}
use Rattle.emitting.specs.Emitting as emitting
use Rattle.emitting.specs.Emitting.{State}

-- the map of a sheet, with its catalogue
pub record Synthesizes (s : Sheet) (tb : Catalogue) (bs : List Bool) (ns : List (Option Location)) (p : Parents) : Type 0 where
  pub held : HeldMap s bs ns p
  pub known : Known s tb

-- the first `limit` rows are written and counted, and it is said whether there are more (FORMAT 8.2)
pub record Written (limit : ℕ) (rs : List Row) (old new : List ℕ) (count : ℕ) (more : Bool) : Type 0 where
  pub bytes : new ≡ overwrite (each row_bytes (take limit rs)) old
  pub counted : count ≡ min limit (length rs)
  pub rest : more ≡ ltb limit (length rs)

pub record Synthesized (tb : Catalogue) (bs : List Bool) (ns : List (Option Location)) (p : Parents) (limit : ℕ) (old new : List ℕ) (count : ℕ) (more : Bool) : Type 0 where
  pub written : (s : Sheet) → Synthesizes s tb bs ns p → Written limit (synthesis (type_map_of s)).rows old new count more

-- ---- the rows, all at once

module _ (limit : ℕ) (rs : List Row) (old new : List ℕ) (n : ℕ) (h : 6 * limit ≤ length old) (e : ◌≡◌ {A = State} (new, n) (emitting.emit row_bytes limit (old, 0) rs)) where
  done : ◌≡◌ {A = State} (new, n) (overwrite (each row_bytes (take limit rs)) old, min (limit + 1) (length rs))
  done = e ∙ emitting.emit-all row_bytes six limit old rs h

  total : n ≡ min (limit + 1) (length rs)
  total = ap (λ (w : State). w.1) done

  pub as_written : Written limit rs old new (min n limit) (ltb limit n)
  as_written = record {
    bytes = ap (λ (w : State). w.0) done;
    counted = omega (arith, total);
    rest =
        by (ltb limit n)
        (λ t. t ∙ sym (lt-ltb limit (length rs) (omega (arith, total, ltb-true limit n t))))
        (λ t. t ∙ sym (le-ltb limit (length rs) (omega (arith, total, ltb-false limit n t))));
  }
