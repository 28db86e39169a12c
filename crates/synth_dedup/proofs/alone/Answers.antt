use Rattle.std.proofs.Common.{ap, ◌∙◌, List, ◌∷◌, [], ◌++◌, ◌+◌, ℕ}
use Rattle.synth_dedup.specs.declared.Entry.{Entry}
use Rattle.synth_dedup.specs.Entries.{entries_of}
use Rattle.synth_dedup.proofs.alone.Goals as goal

pub returns : goal.returns
unfolding entries_of
returns c =
    let n = c.no_entries-out.ensures in
    (c.push.ensures.0 ∙ ap (λ (l : List Entry). l ++ (c.args.newcomer ∷ [])) n.0, c.push.ensures.1 ∙ ap (λ (k : ℕ). k + 1) n.1)
