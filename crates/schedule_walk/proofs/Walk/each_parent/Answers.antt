use Prim.Native.Nat.{◌-◌}
use native.Mathlib.Omega.{arith}
use Rattle.std.proofs.Common.{rules, length}
use Rattle.definitions.specs.ScheduleFields.{parent_fields}
use Rattle.definitions.specs.Values.{parent_values}
use Rattle.fields.specs.FieldLaws.{err_was}
use Rattle.schedule_walk.specs.Walking.{Anything, parent_bits}
use Rattle.schedule_walk.specs.WalkingLaws.{folded, told, ranged}
use Rattle.schedule_walk.proofs.Walk.each_parent.Goals as goal

pub try_fold-requires-clause-callable : goal.try_fold-requires-clause-callable
try_fold-requires-clause-callable c = record {
  at = λ is t q x u y h l.
      let a = c.args in
      let k = ranged is _ t y in
      let r = folded (parent_fields a.self.words) parent_values Anything parent_bits a.n a.self.source.now a.at _ _ (λ s v z w e. search rules) is q (omega (arith, k)) h in
      λ a1 a2 a3 a4 a5 a6 a7. omega (arith, r.2.few, k, l.1.0);
}

pub returns : goal.returns
returns c =
    let a = c.args in
    let h = c.try_fold.ensures.ran in
    let k = ranged h.0 _ h.4.0 h.4.1 in
    let r = folded (parent_fields a.self.words) parent_values Anything parent_bits a.n a.self.source.now a.at _ _ (λ s v z w e. search rules) h.0 _ (omega (arith, k)) h.5 in
    told _ _ _ _ a.n _ _ h.1 _ (length h.0) (h.4.0.end - h.4.0.start) _ _ h.3 r.1 _ (omega (arith, k)) r.2 h.4.2.1 h.6 (λ x z. (z.2.0, err_was _ _ z.5.1, search rules))
