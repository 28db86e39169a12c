use lib.Bits.{and_le_l}
use Rattle.item_pen.specs.WideLaws.{hole-one, hole-under, merged-is, merged-small}
use native.Mathlib.Omega.{arith}
use Rattle.item_pen.proofs.merged.Goals as goal

pub overflow_sub-hole : goal.overflow_sub-hole
overflow_sub-hole c = hole-one c.args.old c.args.o c.args.f.width c.args.f.value (omega arith) c.requires.0 c.args.f.few c.requires.1 c.args.f.most

pub overflow_sub-hole-2 : goal.overflow_sub-hole-2
overflow_sub-hole-2 c = hole-under c.args.old c.args.o c.args.f.width c.args.f.value (omega arith) c.requires.0 c.args.f.few c.requires.1 c.args.f.most

pub overflow_sub-result : goal.overflow_sub-result
overflow_sub-result c = and_le_l _ _

pub overflow_add-result : goal.overflow_add-result
overflow_add-result c = record { fits = merged-small c.args.old c.args.o c.args.f.width c.args.f.value (omega arith) c.requires.0 c.args.f.few c.requires.1 c.args.f.most }

pub returns : goal.returns
returns c = merged-is c.args.old c.args.o c.args.f.width c.args.f.value (omega arith) c.requires.0 c.args.f.few c.requires.1 c.args.f.most
