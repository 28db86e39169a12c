use Rattle.definitions.specs.Answer.{order}
use Rattle.access.specs.EndLaws.{unordered-so, ordered-so}
use Rattle.access.specs.TableLaws.{drafts, sketch, found-is, bits_are}
use Rattle.access.proofs.end_order.Goals as goal

pub no_order-requires-clause-drafts : goal.no_order-requires-clause-drafts
no_order-requires-clause-drafts c = drafts _ _ _ _ _ c.requires.decoded.whole

pub returns-in_default : goal.returns-in_default
returns-in_default c =
    let o = c.in_default.ensures in
    let n = c.no_order in
    record {
      due = λ bytes w.
          unordered-so order _ _ _ _ _ _ _ (sketch _ _ _ _ _ w _ _ _ _ o.1) _ _ _ n.result (found-is _ _ _ _ _ w _ _ _ _ o.1) n.ensures;
    }

pub returns : goal.returns
returns c =
    let o = c.in-Some.ensures in
    let l = c.write_order in
    record {
      due = λ bytes w.
          ordered-so _ _ _ _ _ _ l.result (found-is _ _ _ _ _ w _ _ _ _ o) (bits_are _ _ _ _ _ w _ _ _ o) l.ensures;
    }
