use Rattle.std.proofs.Common.{[], ◌∷◌, refl, sym, ap}
use Rattle.item_pen.specs.PenLaws.{room_as}
use Rattle.item_pen.specs.SoFarLaws.{growing-all, growing-room, growing-less, growing-none, grows-as, room-one}
use Rattle.item_writer.specs.Items.{own_bits, own_items}
use Rattle.item_writer.specs.WriterLaws.{own-made, own-next, own-none}
use Rattle.item_writer.proofs.add_own.Goals as goal

pub loop-c-init : goal.loop-c-init
loop-c-init c = rw (c.into_iter-c-iterator.ensures.into_iter_gives, c.members-c-items.ensures) (growing-all _ _ refl)

pub add_item-requires-clause-room_for : goal.add_item-requires-clause-room_for
add_item-requires-clause-room_for c =
    let a = c.args in
    let w = c.in-Some.ensures.steps in
    let x = own_bits a.t.now a.site.place a.site.word c.in-Some.c in
    let r = growing-room (own_items a.t.now a.site a.own) (x ∷ []) _ (own-next a.t.now a.site _ _ _ w.0 w.1) c.loop-c.invariant c.requires.room_for_all in
    rw c.with_one-class.ensures (room_as (sym (own-made a.t.now a.site c.requires.sited.records c.in-Some.c w.0.place)) (room-one x r))

pub loop-c-preserved : goal.loop-c-preserved
loop-c-preserved c =
    let a = c.args in
    let w = c.in-Some.ensures.steps in
    let x = own_bits a.t.now a.site.place a.site.word c.in-Some.c in
    let h = rw c.with_one-class.ensures at c.add_item.ensures in
    let e = own-made a.t.now a.site c.requires.sited.records c.in-Some.c w.0.place in
    growing-less (own_items a.t.now a.site a.own) (x ∷ []) _ (own-next a.t.now a.site _ _ _ w.0 w.1) c.loop-c.invariant (grows-as _ (x ∷ []) (ap (λ y. y ∷ []) e) h)

pub returns : goal.returns
returns c =
    let a = c.args in
    growing-none (own_items a.t.now a.site a.own) (own-none a.t.now a.site _ c.in-None.ensures.steps.0) c.loop-c.invariant
