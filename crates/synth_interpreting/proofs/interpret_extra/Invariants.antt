use lib.ListN.{take}
use Rattle.synth_dedup.specs.Reading.{read_all, table_of}
use Rattle.synth_interpreting.specs.Annotations.{Added}
use Rattle.synth_interpreting.specs.InheritedLaws.{total}
use Rattle.synth_interpreting.proofs.interpret_extra.Given as goal

abbrev pub invariant-loop-e : goal.invariant-loop-e
invariant-loop-e l =
    Added l.t l.place (λ ns. read_all ns (table_of l.h.doms) (take l.e-index l.e-items)) (total (take l.e-index l.e-items)) l.initial.p l.initial.out l.p l.out
