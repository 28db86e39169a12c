use Rattle.std.proofs.Common.{subst, ◌∙◌, rules}
use Rattle.item_names.specs.Names.{WordPut}
use Rattle.item_names.specs.NamesLaws.{words-none, words_more, room, turned}
use Rattle.item_names.proofs.put_words.Goals as goal

pub loop-w-init : goal.loop-w-init
loop-w-init c = words-none _

pub put_word_if-n-requires : goal.put_word_if-n-requires
put_word_if-n-requires c =
    let l = c.loop-w in
    let s = c.args in
    λ q. room s.width l.w l.n s.t.now l.t c.requires c.loop-w-test.true l.invariant (λ e. q (turned s.t.now l.t l.w l.invariant ∙ e))

pub loop-w-preserved : goal.loop-w-preserved
loop-w-preserved c =
    let l = c.loop-w in
    let s = c.args in
    let put = c.put_word_if-n in
    words_more s.width l.w l.n s.t.now l.t c.requires c.loop-w-test.true l.invariant (search rules) put.new.t put.result
    (subst (λ m. WordPut l.n l.w m l.t put.new.t put.result) (turned s.t.now l.t l.w l.invariant) put.ensures)
