-- The map of a sheet that none of 3 to 8 refuses, as the synthesis finds it: the annotations of each type where they stand in the
-- bits of the sheet, and the parents by places.
use Rattle.std.specs.Prelude.{Bool, true, List, ◌≡◌, ℕ, ◌<◌, get_or, Option, None}
use Rattle.definitions.specs.Records.{Sheet}
use Rattle.definitions.specs.Map.{type_map_of}
use Rattle.definitions.specs.Order.{has_order}
use Rattle.law_lines.specs.Statements.{Readable}
use Rattle.law_lines.specs.Within.{Within}
use Rattle.synth_own.specs.Owning.{Noted}
use Rattle.synth_own.specs.declared.Location.{Location}
use Rattle.order_form.specs.Reading.{Reads, type_at}
use Rattle.order_form.specs.declared.Parents.{Parents}

pub record HeldMap (s : Sheet) (bs : List Bool) (ns : List (Option Location)) (p : Parents) : Type 0 where
  pub readable : Readable s
  pub within : Within s
  pub order : has_order (type_map_of s) ≡ true
  pub noted : (a : ℕ) → a < p.count → Noted bs (get_or ns a None) (type_at (type_map_of s) a).annotations
  pub reads : Reads p (type_map_of s)
