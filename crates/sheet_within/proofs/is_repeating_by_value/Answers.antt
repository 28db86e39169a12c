use mathlib.Core.Path.{ap, ◌∙◌}
use lib.ListN.{drop}
use mathlib.Core.List.{map}
use Rattle.definitions.specs.Bits.{bits_of}
use Rattle.sheet_records.specs.Annotations.{annotation_of, of_annotations}
use Rattle.sheet_same.specs.Repeats.{repeats_in}
use Rattle.sheet_within.specs.WithinLaws.{by_value}
use Rattle.sheet_within.proofs.is_repeating_by_value.Goals as goal

pub returns-in-Ok : goal.returns-in-Ok
unfolding of_annotations
returns-in-Ok c =
    let a = c.args in
    let bs = bits_of a.s.bytes.now in
    let r = c.read_annotations in
    c.is_repeating.ensures ∙ ap (λ l. repeats_in (map annotation_of l)) c.as_slice.ensures ∙ ap repeats_in (rw c.in-Ok.is at (by_value a.s.words a.single bs (drop a.at bs) r.result c.requires r.ensures))

pub returns-in-Err : goal.returns-in-Err
returns-in-Err c =
    let a = c.args in
    let bs = bits_of a.s.bytes.now in
    let r = c.read_annotations in
    absurd (rw c.in-Err.is at (by_value a.s.words a.single bs (drop a.at bs) r.result c.requires r.ensures))
