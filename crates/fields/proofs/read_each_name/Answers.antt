use native.Mathlib.Omega.{arith}
use mathlib.Core.Path.{refl, sym, ap, ◌∙◌}
use lib.ListN.{drop}
use Rattle.definitions.specs.Bits.{bits_of}
use Rattle.definitions.specs.Reading.{name}
use Rattle.fields.specs.ParseLaws.{repeat-none, repeat-next, repeat-refused}
use Rattle.fields.specs.Fields.{of_parsed, fault_of, name_of, of_names}
use Rattle.fields.specs.FieldLaws.{err_was}
use Rattle.fields.proofs.read_each_name.Goals as goal

pub returns-in_err-name : goal.returns-in_err-name
returns-in_err-name c =
    let l = c.loop in
    let a = c.args in
    let r = c.in_err-name.field-0.0 in
    let bs = bits_of a.s.bytes.now in
    rw (err_was _ r c.from_residual.ensures.1)
    (sym (l.invariant.1 ∙ repeat-refused (of_names l.names) (name a.s.words) _ (drop l.next.at bs) (fault_of r) (omega arith)
    (sym c.read_name.ensures ∙ ap (of_parsed name_of bs) c.in_err-name.was)))

pub loop-preserved : goal.loop-preserved
loop-preserved c =
    let l = c.loop in
    let a = c.args in
    let v = c.in_ok-name in
    let bs = bits_of a.s.bytes.now in (
      omega (arith, c.push.ensures.1),
      l.invariant.1
          ∙ repeat-next (of_names l.names) (name a.s.words) a.n l.counter (drop l.next.at bs) (name_of v.name) (drop v.end.at bs) (omega arith)
          (sym c.read_name.ensures ∙ ap (of_parsed name_of bs) v.was)
          ∙ rw c.push.ensures.0 refl,
    )

pub returns : goal.returns
returns c =
    let l = c.loop in
    let a = c.args in
    sym (l.invariant.1 ∙ repeat-none (of_names l.names) (name a.s.words) _ (drop l.next.at (bits_of a.s.bytes.now)) (omega arith))
