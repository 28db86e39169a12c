use mathlib.Core.Bool.{Bool}
use mathlib.Core.List.{List, ◌++◌}
use mathlib.Core.Path.{◌≡◌, ap, ◌∙◌}
use Prim.Native.Nat.{◌*◌}
use native.Mathlib.Omega.{arith}
use lib.ListN.{length}
use Rattle.definitions.specs.Bits.{to_bits}
use Rattle.definitions.specs.Packing.{parent_bits}
use Rattle.definitions.specs.Comparisons.{dotted}
use Rattle.catalogue.specs.Catalogue.{name_of_key}
use Rattle.item_pen.specs.PenLaws.{holds-join, holds-all}
use Rattle.item_fields.specs.FieldLaws.{words-alone, long-alone, words-paired, long-paired, parent-bits, dotted-bits, dotted-long}
use Rattle.item_fields.proofs.passing_field.Goals as goal

pub returns-then-second-eq0 : goal.returns-then-second-eq0
returns-then-second-eq0 c =
    let k = c.args.key in
    let r = c.args.word in
    let n = name_of_key k in
    let e = c.if-second-eq0.true in
    let j = holds-join c.number-first.ensures c.number-last.ensures c.join.ensures in
    let h = holds-join c.number.ensures j c.join-then-second-eq0.ensures in
    let w : 16 ≡ 8 * length (dotted n r) = omega (arith, long-alone k e, dotted-long n r) in
    (holds-all (parent_bits (dotted n r)) (parent-bits 16 _ (dotted n r) w (ap (λ (l : List Bool). l ++ to_bits 8 r) (words-alone k e) ∙ dotted-bits n r)) h, omega (arith, h.wide))

pub returns : goal.returns
returns c =
    let k = c.args.key in
    let r = c.args.word in
    let n = name_of_key k in
    let e = c.if-second-eq0.false in
    let g = holds-join c.number-first.ensures c.number-2.ensures c.join-name.ensures in
    let j = holds-join g c.number-last.ensures c.join-2.ensures in
    let h = holds-join c.number-3.ensures j c.join-3.ensures in
    let w : 24 ≡ 8 * length (dotted n r) = omega (arith, long-paired k e, dotted-long n r) in
    (holds-all (parent_bits (dotted n r)) (parent-bits 24 _ (dotted n r) w (ap (λ (l : List Bool). l ++ to_bits 8 r) (words-paired k e) ∙ dotted-bits n r)) h, omega (arith, h.wide))
