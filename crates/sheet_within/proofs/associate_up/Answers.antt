use Rattle.sheet_within.specs.UpLaws.{up-by}
use Rattle.definitions.specs.Bits.{bits_of}
use Rattle.bits.specs.NumberLaws.{length-bits_of}
use Rattle.std.proofs.Common.{arith, refl}
use Rattle.sheet_within.proofs.associate_up.Goals as goal

pub overflow_add-at : goal.overflow_add-at
overflow_add-at c =
    let s = c.args.s in
    let k = (rw c.in-Some.is at c.count_at.ensures).count in
    omega (arith, k.fits, length-bits_of s.bytes.now, s.addressable)

pub returns : goal.returns
returns c =
    let a = c.args in
    let k = (rw c.in-Some.is at c.count_at.ensures).count in
    up-by a.s.words a.single (bits_of a.s.bytes.now) a.at c.in-Some.n a.low k (λ e. c.if-n-eq0.false (rw e refl)) c.names_up.result c.names_up.ensures
