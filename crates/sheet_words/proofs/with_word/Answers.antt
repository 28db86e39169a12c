use Rattle.sheet_words.specs.WordLaws.{neither-is}
use Rattle.sheet_words.proofs.with_word.Goals as goal

pub returns : goal.returns
returns c =
    let a = c.args in
    let f = neither-is a.w c.if-w-eq-R_OR_S.false a.t c.still_up-up.result a.i a.n in
    record { rising = c.still_up-up.ensures; plain = c.still_plain.ensures; class = f.class; self = f.self }
