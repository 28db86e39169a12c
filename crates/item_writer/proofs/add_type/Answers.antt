use Rattle.std.proofs.Common.{◌<◌, ◌^◌, sym, ◌∙◌, arith}
use Rattle.std.specs.Int.Bits.{bit_or}
use lib.Bits.{or_lt}
use Rattle.lists.specs.Lists.{each}
use Rattle.lists.specs.Tests.{and_left}
use Rattle.rows.specs.Rows.{has_bit}
use Rattle.bitsets.specs.Bitsets.{members}
use Rattle.catalogue.specs.Layout.{own_at, above_at}
use Rattle.item_pen.specs.SoFarLaws.{growing-all, growing-room, growing-less, growing-none}
use Rattle.item_writer.specs.Items.{word_items, type_items}
use Rattle.item_writer.specs.WriterLaws.{set-within, type-words, words-next, words-none}
use Rattle.item_writer.proofs.add_type.Goals as goal

pub loop-k-init : goal.loop-k-init
loop-k-init c =
    let a = c.args in
    let t = a.t.now in
    let s = c.requires.sound in
    let most : bit_or (own_at t a.a) (above_at t a.a) < 2 ^ 64 = or_lt 64 (own_at t a.a) (above_at t a.a) (omega arith) (omega arith) in
    rw (c.into_iter-k-iterator.ensures.into_iter_gives, c.members-k-items.ensures) (
      set-within t a.words.now a.a _ s.0 s.3 most c.united-noted.ensures,
      growing-all (type_items t a.a) (each (word_items t a.a) (members c.united-noted.result)) (type-words t a.words.now a.a _ s.0 s.3 most c.united-noted.ensures),
    )

pub add_word-requires-clause-room_for_all : goal.add_word-requires-clause-room_for_all
add_word-requires-clause-room_for_all c =
    let a = c.args in
    let w = c.in-Some.ensures.steps in
    growing-room (type_items a.t.now a.a) _ _ (words-next a.t.now a.a _ _ _ w.0 w.1) c.loop-k.invariant.1 c.requires.room_for_all

pub loop-k-preserved : goal.loop-k-preserved
loop-k-preserved c =
    let a = c.args in
    let l = c.loop-k in
    let w = c.in-Some.ensures.steps in (
      λ j e. l.invariant.0 j (and_left (has_bit l.k-iterator.left j) _ (sym (w.1.bits c.in-Some.k w.0 j) ∙ e)),
      growing-less (type_items a.t.now a.a) _ _ (words-next a.t.now a.a _ _ _ w.0 w.1) l.invariant.1 c.add_word.ensures,
    )

pub returns : goal.returns
returns c =
    let a = c.args in
    growing-none (type_items a.t.now a.a) (words-none a.t.now a.a _ c.in-None.ensures.steps.0) c.loop-k.invariant.1
