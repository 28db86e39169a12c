use Rattle.item_names.specs.Names.{WordsPut}
use Rattle.item_names.proofs.put_words.Given as goal

abbrev pub invariant-loop-w : goal.invariant-loop-w
invariant-loop-w l = WordsPut l.w l.initial.t l.t l.n
