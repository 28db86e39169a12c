use Rattle.std.proofs.Common.{refl, ap, ◌∙◌, ◌+◌}
use Rattle.definitions.specs.Bits.{to_bits}
use Rattle.item_pen.specs.PenLaws.{joined_small, joined-fits, joined-sum, joined-bits}
use Rattle.item_pen.proofs.join.Goals as goal

pub overflow_add-result-2 : goal.overflow_add-result-2
overflow_add-result-2 c =
    let a = c.args in
    record { fits = joined_small a.a.width a.a.value a.b.width a.b.value a.a.most a.b.most c.requires }

pub invariant_of-result : goal.invariant_of-result
invariant_of-result c =
    let a = c.args in
    record {
      few = c.requires;
      most = rw (joined-sum a.a.width a.a.value a.b.width a.b.value a.a.most a.b.most c.requires) (joined-fits a.a.width a.a.value a.b.width a.b.value a.a.most a.b.most);
    }

pub returns : goal.returns
returns c =
    let a = c.args in
    record {
      wide = refl;
      bits =
          ap (to_bits (a.a.width + a.b.width)) (joined-sum a.a.width a.a.value a.b.width a.b.value a.a.most a.b.most c.requires)
          ∙ joined-bits a.a.width a.a.value a.b.width a.b.value a.a.most a.b.most;
    }
