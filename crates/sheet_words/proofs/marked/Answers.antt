use native.Mathlib.Omega.{arith}
use mathlib.Core.Path.{refl}
use lib.Bits.{or_lt}
use Rattle.sheet_words.specs.Bytes.{marks}
use Rattle.sheet_words.proofs.marked.Goals as goal

pub overflow_add-letter : goal.overflow_add-letter
overflow_add-letter c = record { fits = omega (arith, or_lt 48 c.args.v 35322350018592 c.requires (omega arith)) }

pub overflow_add-letter-2 : goal.overflow_add-letter-2
overflow_add-letter-2 c = record { fits = omega (arith, or_lt 48 c.args.v 35322350018592 c.requires (omega arith)) }

pub returns : goal.returns
unfolding marks
returns c = refl
