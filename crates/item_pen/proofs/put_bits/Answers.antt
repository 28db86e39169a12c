use mathlib.Core.Path.{sym}
use native.Mathlib.Omega.{arith}
use Rattle.bits.specs.WriteLaws.{put-none}
use Rattle.item_pen.proofs.put_bits.Goals as goal

pub returns-then-f-eq0 : goal.returns-then-f-eq0
returns-then-f-eq0 c = sym (put-none _ _ _ _ (omega arith))
