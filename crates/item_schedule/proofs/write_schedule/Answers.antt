use Rattle.std.proofs.Common.{arith}
use Rattle.item_schedule.specs.ScheduleLaws.{readable_words, to_count, to_write, few_bits, lists_short, lists_long}
use Rattle.item_schedule.proofs.write_schedule.Goals as goal

pub fill_words-requires : goal.fill_words-requires
fill_words-requires c = let r = readable_words c.requires in (r.0, omega arith, r.1)

pub add_all-counted-requires : goal.add_all-counted-requires
add_all-counted-requires c = to_count c.requires c.fill_words.ensures

pub overflow_add-size : goal.overflow_add-size
overflow_add-size c = omega (arith, few_bits c.requires c.add_all-counted.ensures)

pub returns-then-listing-size : goal.returns-then-listing-size
returns-then-listing-size c = lists_short c.add_all-counted.ensures c.if-listing-size.true

pub add_all-requires : goal.add_all-requires
add_all-requires c = to_write c.requires c.fill_words.ensures c.add_all-counted.ensures c.if-listing-size.false

pub returns : goal.returns
returns c = lists_long c.add_all-counted.ensures c.add_all.ensures c.if-listing-size.false
