use native.Mathlib.Omega.{arith}
use Prim.Native.Nat.{◌*◌}
use mathlib.Core.Path.{ap₂, ◌∙◌}
use lib.Pow
use Rattle.std.specs.Int.Bits.{bit_xor}
use Rattle.sheet_words.specs.MarkLaws.{plain_is, inner-is, spelt-no}
use Rattle.sheet_words.proofs.is_spelt.Goals as goal

pub marked-requires : goal.marked-requires
marked-requires c = omega (arith, c.requires.1, Pow.pow_mono {i = 8 * c.args.n} {j = 48} (omega arith))

pub hyphened-requires : goal.hyphened-requires
hyphened-requires c = omega (arith, c.requires.1, Pow.pow_mono {i = 8 * c.args.n} {j = 48} (omega arith))

pub marked-requires-then-v-eq0 : goal.marked-requires-then-v-eq0
marked-requires-then-v-eq0 c = omega (arith, c.requires.1, Pow.pow_mono {i = 8 * c.args.n} {j = 48} (omega arith))

pub returns-then-inner : goal.returns-then-inner
returns-then-inner c =
    rw (c.if-inner.true, c.marked.ensures, c.hyphened.ensures) (inner-is c.args.n c.args.v c.requires.0 c.requires.1 c.if-v-eq0.true)

pub returns-then-v-eq0 : goal.returns-then-v-eq0
returns-then-v-eq0 c =
    rw (c.if-inner.false, c.marked-then-v-eq0.ensures) (plain_is c.args.n c.args.v c.requires.0 c.requires.1 c.if-v-eq0.true)

pub returns : goal.returns
returns c = spelt-no c.args.n c.args.v c.requires.0 c.requires.1 c.args.inner c.if-v-eq0.false
