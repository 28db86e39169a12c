use mathlib.Core.Path.{sym}
use native.Mathlib.Omega.{arith}
use lib.ListN.{length-drop}
use Rattle.definitions.specs.Bits.{bits_of}
use Rattle.bits.specs.NumberLaws.{length-bits_of}
use Rattle.sheet.specs.SheetLaws.{fill-long}
use Rattle.schedule_values.proofs.is_bad_fill.Goals as goal

pub returns-then-at-source : goal.returns-then-at-source
returns-then-at-source c =
    let a = c.args in
    let bs = bits_of a.source.now in
    sym (fill-long _ (omega (arith, length-drop a.at bs, length-bits_of a.source.now, c.if-at-source.true)))
