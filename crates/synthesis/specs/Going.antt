-- How far the synthesis is, and what it leaves.
use Rattle.std.specs.Prelude.{List, ◌≡◌, ℕ, ◌<◌}
use Rattle.definitions.specs.Map.{TypeMap}
use Rattle.rows.specs.Rows.{has_bit}
use Rattle.order_form.specs.Lists.{tab}
use Rattle.order_form.specs.Reading.{how_many, type_at}
use Rattle.order_form.specs.declared.Parents.{Parents}
use Rattle.emitting.specs.declared.Writer.{Writer}
use Rattle.emitting.specs.Writing.{state}
use Rattle.synth_interpretation.specs.Emit.{emit}
use Rattle.law_visit.specs.Trail.{Reached, succeeded, nothing_played, play_all}

-- a type that is reached, by its place and the bits of its fresh listings
abbrev pub reached_at : TypeMap → Parents → ℕ → ℕ → Reached
reached_at m p t fresh = record { type = type_at m t; fresh = tab (has_bit fresh) (how_many p t) }

-- the types so far were played: their rows are written, and the bits of `ok` are those whose call succeeded
pub record Going (m : TypeMap) (p : Parents) (before : List Reached) (w w' : Writer) (ok : ℕ) : Type 0 where
  pub emits : state w' ≡ emit w.limit (state w) (play_all m nothing_played before).rows
  pub well : (a : ℕ) → a < p.count → has_bit ok a ≡ succeeded (play_all m nothing_played before).told (type_at m a).name
