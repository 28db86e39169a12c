use Rattle.std.proofs.Common.{[], ◌∷◌, sym, ap, ◌∙◌}
use Rattle.item_pen.specs.PenLaws.{room_as}
use Rattle.item_pen.specs.SoFarLaws.{grows-none, grows-as, room-one, room-all-as}
use Rattle.item_writer.specs.WriterLaws.{inherited-made, inherited-not, inherited-so}
use Rattle.item_writer.proofs.add_inherited.Goals as goal

pub returns-then-classes-eq0 : goal.returns-then-classes-eq0
returns-then-classes-eq0 c =
    let a = c.args in
    grows-as [] _ (inherited-not a.t.now a.site a.mask c.if-classes-eq0.true) (grows-none _)

pub add_item-requires-clause-room_for : goal.add_item-requires-clause-room_for
add_item-requires-clause-room_for c =
    let a = c.args in
    let e = inherited-made a.t.now a.site c.requires.sited.0.records a.mask _ c.passing_of-firsts.ensures in
    room_as (sym e) (room-one _ (room-all-as _ _ (sym (inherited-so a.t.now a.site a.mask c.if-classes-eq0.false)) c.requires.room_for_all))

pub returns : goal.returns
returns c =
    let a = c.args in
    let e = inherited-made a.t.now a.site c.requires.sited.0.records a.mask _ c.passing_of-firsts.ensures in
    grows-as _ _ (ap (λ y. y ∷ []) e ∙ inherited-so a.t.now a.site a.mask c.if-classes-eq0.false) c.add_item.ensures
