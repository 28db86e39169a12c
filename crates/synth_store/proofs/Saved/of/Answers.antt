use Rattle.std.proofs.Common.{◌∙◌, refl}
use Rattle.synth_dedup.specs.declared.Entry.{Entry}
use Rattle.synth_dedup.specs.Entries.{entries_of}
use Rattle.synth_store.specs.StoreLaws.{mapped-all, saved-fit}
use Rattle.synth_store.proofs.Saved.of.Goals as goal

pub invariant_of-result : goal.invariant_of-result
unfolding entries_of
invariant_of-result c =
    let e = c.loop-e.invariant ∙ mapped-all (λ (e : Entry). e.words) _ _ _ c.loop-e-test.false c.as_slice-e-items.ensures in
    record { fit = saved-fit c.args.h.now c.loop-e.words e }

pub returns : goal.returns
unfolding entries_of
returns c =
    let e = c.loop-e.invariant ∙ mapped-all (λ (e : Entry). e.words) _ _ _ c.loop-e-test.false c.as_slice-e-items.ensures in
    record { entries = e; doms = λ w l. refl }
