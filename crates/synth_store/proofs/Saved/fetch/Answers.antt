use Rattle.std.proofs.Common.{ap, ◌∙◌, ◌++◌, ◌∷◌, [], List, ◌≡◌, get_or, arith}
use Rattle.std.proofs.lemmas.List.{set-get_or}
use Rattle.bounded.specs.Items.{length-items_of}
use Rattle.rows.specs.declared.Row.{Row}
use Rattle.rows.specs.Rows.{empty}
use Rattle.synth_dedup.specs.declared.Entry.{Entry}
use Rattle.synth_dedup.specs.Entries.{Entries, entries_of}
use Rattle.synth_dedup.specs.Keeping.{Good}
use Rattle.synth_store.specs.Saving.{entry_of}
use Rattle.synth_store.specs.StoreLaws.{mapped-more, mapped-all, fetched-count, fetched-good}
use Rattle.synth_store.proofs.Saved.fetch.Goals as goal

pub push-requires : goal.push-requires
push-requires c =
    let s = c.args.self.now in
    let n = fetched-count _ _ _ c.loop-words.invariant (omega arith) in
    (omega arith, omega (arith, n, ap lib.ListN.length c.as_slice-words-items.ensures, length-items_of s.words, s.words.few))

pub loop-words-preserved : goal.loop-words-preserved
unfolding entries_of
loop-words-preserved c =
    let i = c.loop-words in
    let k = c.as_slice-words-items.result.now in
    c.push.ensures.0 ∙ ap (λ (l : List Entry). l ++ (entry_of (get_or k i.words-index empty) ∷ [])) i.invariant ∙ mapped-more entry_of k i.words-index empty c.loop-words-test.true

-- dom sets that are those that were kept
kept : (l : Entries) (ds es : List Row) → ds ≡ es → Good l es → Good l ds
kept l ds es e g = rw e g

pub invariant_of-result : goal.invariant_of-result
invariant_of-result c =
    let s = c.args.self.now in
    record { good = kept _ _ s.doms (grind (arith, set-get_or)) (fetched-good _ s.words s.doms s.fit (c.loop-words.invariant ∙ mapped-all entry_of _ _ _ c.loop-words-test.false c.as_slice-words-items.ensures)) }

pub returns : goal.returns
returns c = record { entries = c.loop-words.invariant ∙ mapped-all entry_of _ _ _ c.loop-words-test.false c.as_slice-words-items.ensures; doms = λ w l. grind (arith, set-get_or) }
