use Rattle.definitions.specs.Bits.{bits_of}
use Rattle.synthesis.specs.PlayLaws.{ready-flags, receives-all, receives-some}
use Rattle.synthesis.proofs.receive.Goals as goal

pub returns-then-flags : goal.returns-then-flags
returns-then-flags c =
    let a = c.args in
    receives-all a.m.order.now (bits_of a.m.sheet.now) a.m.notes.now a.store.now a.t a.flags _ c.requires.ready.low _ c.requires.flagged c.if-flags.true c.keep_inherited.ensures

pub gather-got-requires-clause-ready : goal.gather-got-requires-clause-ready
gather-got-requires-clause-ready c = ready-flags _ _ _ _ _ _ c.requires.ready

pub returns : goal.returns
returns c =
    let a = c.args in
    receives-some a.m.order.now (bits_of a.m.sheet.now) a.m.notes.now a.store.now a.t a.flags _ c.requires.ready.low _ _ c.gather-got.ensures c.keep_inherited-2.ensures
