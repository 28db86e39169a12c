use Rattle.std.proofs.Common.{sym}
use Rattle.item_pen.specs.SoFarLaws.{room-one, all_head, all_tail, grows-then, grows-as, room-all-as}
use Rattle.item_writer.specs.WriterLaws.{word-parts}
use Rattle.item_writer.proofs.add_word.Goals as goal

pub add_own-requires-clause-room_for_all : goal.add_own-requires-clause-room_for_all
add_own-requires-clause-room_for_all c =
    let a = c.args in
    all_head _ _ (room-all-as _ _ (sym (word-parts a.t.now a.a a.k c.records_of.result)) c.requires.room_for_all)

pub add_inherited-requires-clause-room_for_all : goal.add_inherited-requires-clause-room_for_all
add_inherited-requires-clause-room_for_all c =
    let a = c.args in
    all_head _ _ (all_tail _ _ (room-all-as _ _ (sym (word-parts a.t.now a.a a.k c.records_of.result)) c.requires.room_for_all) c.add_own.ensures)

pub add_item-requires-clause-room_for : goal.add_item-requires-clause-room_for
add_item-requires-clause-room_for c =
    let a = c.args in
    let r = all_tail _ _ (room-all-as _ _ (sym (word-parts a.t.now a.a a.k c.records_of.result)) c.requires.room_for_all) c.add_own.ensures in
    room-one _ (all_tail _ _ r c.add_inherited.ensures)

pub returns : goal.returns
returns c =
    let a = c.args in
    grows-as _ _ (word-parts a.t.now a.a a.k c.records_of.result) (grows-then _ _ c.add_own.ensures (grows-then _ _ c.add_inherited.ensures c.add_item.ensures))
