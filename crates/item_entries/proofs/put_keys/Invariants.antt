use Rattle.item_names.specs.Names.{KeysPut}
use Rattle.item_entries.specs.Entries.{firsts_of, seconds_of}
use Rattle.item_entries.proofs.put_keys.Given as goal

abbrev pub invariant-loop-a : goal.invariant-loop-a
invariant-loop-a l = KeysPut (firsts_of l.x.entries.now) (seconds_of l.x.entries.now) l.a l.initial.t l.t
