use native.Mathlib.Omega.{arith}
use Rattle.sheet_types.specs.TopLaws.{whole_top, large-top, many-top}
use Rattle.sheet_types.proofs.allowed_top.Goals as goal
use Rattle.sheet_types.proofs.allowed_top.Goals.{then-h-ge192-via-then-h-ge192, then-h-ge192-via-else-h-ge192+then-h-gt8}

pub returns-then-h-ge192 : goal.returns-then-h-ge192
returns-then-h-ge192 c bs p e =
    elim c.then-h-ge192.branch [
      | then-h-ge192-via-then-h-ge192 w ↦ (large-top bs p _ _ e (omega arith), tt)
      | then-h-ge192-via-else-h-ge192+then-h-gt8 w ↦ (many-top bs p _ _ e (omega arith) (omega arith), tt)
    ]

pub returns : goal.returns
returns c bs p e = (whole_top bs p _ _ e (omega arith) (omega arith), (omega arith, omega arith))
