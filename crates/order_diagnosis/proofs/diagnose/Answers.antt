use Rattle.std.proofs.Common.{rules, arith, sym, ◌≡◌, ◌∙◌}
use Rattle.order_diagnosis.specs.Rows.{order_rows}
use Rattle.order_diagnosis.specs.Emit.{Emits}
use Rattle.order_diagnosis.specs.Reported.{reported-by}
use Rattle.order_diagnosis.specs.Walk.{plain-final}
use Rattle.order_diagnosis.proofs.diagnose.Goals as goal
use Rattle.order_diagnosis.proofs.diagnose.Goals.{then-self_stands, else-self_stands}

pub generate_type_no_parent_errors-requires : goal.generate_type_no_parent_errors-requires
generate_type_no_parent_errors-requires c =
    let plain = plain-final _ (sym c.self_stands.ensures ∙ c.if-self_stands.false) in
    record { plain = plain; places = c.place_all-placed.ensures.places plain }

pub returns : goal.returns
unfolding order_rows
returns c =
    let e : Emits c.new-out.result c.if-self_stands.out (order_rows c.args.l.now) =
    elim c.if-self_stands.branch [
      | then-self_stands w ↦ rw (w.out-is, ← c.self_stands.ensures, w.if-self_stands.true) w.self_errors.ensures
      | else-self_stands w ↦ rw (w.out-is, ← c.self_stands.ensures, w.if-self_stands.false) w.generate_type_no_parent_errors.ensures
    ] in
    let same : c.if-self_stands.out.buf.ghost_name ≡ c.new-out.result.buf.ghost_name = e.same.slice in
    let told = c.report.ensures in
    reported-by _ _ _ _ _ (record { rows = _; more = _ }) _ c.requires c.new-out.ensures e (record { rows = omega (arith, told.rows); more = grind (arith, told.more) }) (search rules)
