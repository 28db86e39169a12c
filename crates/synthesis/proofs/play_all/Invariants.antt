use mathlib.Core.Path.{◌≡◌}
use lib.ListN.{length}
use Rattle.definitions.specs.Bits.{bits_of}
use Rattle.synthesis.specs.Playing.{PlayedTo}
use Rattle.synthesis.proofs.play_all.Given as goal

abbrev pub invariant-loop-arrival : goal.invariant-loop-arrival
invariant-loop-arrival l =
    (length l.store ≡ length l.initial.store)
    × PlayedTo l.m.catalogue.now (bits_of l.m.sheet.now) l.m.notes.now l.m.order.now l.initial.out l.fn.trail l.arrival-index l.store l.out l.ok
