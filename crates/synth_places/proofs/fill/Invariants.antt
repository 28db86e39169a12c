use Rattle.std.specs.Prelude.{◌≡◌, length}
use Rattle.definitions.specs.Bits.{bits_of}
use Rattle.synth_places.specs.Places.{Located}
use Rattle.synth_places.proofs.fill.Given as goal

abbrev pub invariant-loop-a : goal.invariant-loop-a
invariant-loop-a l = (length l.out ≡ 64) × Located l.x.read.width (bits_of l.s) l.x.draft.now l.x.entries.now l.a l.out
