use Rattle.std.proofs.Common.{rules, tests, arith}
use Rattle.schedule_values.specs.MeetingLaws.{meets-short, meets-past, meets-outside, meets-value}
use Rattle.schedule_values.proofs.meet.Goals as goal
use Rattle.schedule_values.proofs.meet.Goals.{then-short-via-then-short, then-short-via-else-short+then-end-at}

pub returns-then-short : goal.returns-then-short
returns-then-short c =
    let a = c.args in
    elim c.then-short.branch [
      | then-short-via-then-short w ↦ meets-short a.short a.n a.rule a.source.now a.at w.if-short.true
      | then-short-via-else-short+then-end-at w ↦
          meets-past a.short a.n a.rule a.source.now a.at w.if-short.false (omega arith) (omega (arith, c.requires.0, c.requires.3, w.if-end-at.true))
    ]

pub returns-then-not-contains : goal.returns-then-not-contains
returns-then-not-contains c =
    let a = c.args in
    meets-outside a.short a.n a.rule a.source.now a.at _ c.if-short.false (omega arith)
    (omega (arith, c.requires.0, c.if-end-at.false)) c.value_at-value.ensures (search (rules, tests))

pub returns : goal.returns
returns c =
    let a = c.args in
    meets-value a.short a.n a.rule a.source.now a.at _ c.if-short.false (omega arith)
    (omega (arith, c.requires.0, c.if-end-at.false)) c.value_at-value.ensures (search (rules, tests))
