use Rattle.fields.specs.Fields.{of_field}
use Rattle.fields.specs.FieldLaws.{err_was, between_in}
use Rattle.definitions.specs.Parse.{counted}
use Rattle.definitions.specs.Bits.{bits_of}
use Rattle.std.specs.Prelude.{refl}
use lib.ListN.{drop}
use native.Mathlib.Omega.{arith}
use mathlib.Core.Path.{sym, ap, ◌∙◌}
use Rattle.sheet_extensions.proofs.read_added.Goals as goal

pub returns-in_err-n : goal.returns-in_err-n
unfolding counted
returns-in_err-n c =
    rw (err_was _ c.in_err-n.field-0.0 c.from_residual.ensures.1) (rw (← c.read_between.ensures, c.in_err-n.was) refl)

pub read_each_key-requires : goal.read_each_key-requires
read_each_key-requires c =
    let a = c.args in
    let bs = bits_of a.s.bytes.now in
    let h = between_in 4 1 8 (drop a.c.at bs) c.in_ok-n.n _ (sym c.read_between.ensures ∙ ap (of_field bs) c.in_ok-n.was) in
    omega (arith, h.1)

pub returns : goal.returns
unfolding counted
returns c = rw (← c.read_between.ensures, c.in_ok-n.was) c.read_each_key.ensures.0
