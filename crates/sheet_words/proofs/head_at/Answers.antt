use mathlib.Core.Path.{◌∙◌}
use native.Mathlib.Omega.{arith}
use lib.ListN.{drop}
use Rattle.sheet_words.specs.HeadLaws.{head-many}
use Rattle.sheet_words.specs.Words.{bits_in}
use Rattle.sheet_words.specs.WordLaws.{head-zero, head-shift}
use Rattle.sheet_words.proofs.head_at.Goals as goal

pub returns-then-n-eq0 : goal.returns-then-n-eq0
returns-then-n-eq0 c =
    let a = c.args in
    head-zero a.n (drop a.at (bits_in a.s)) c.if-n-eq0.true

pub returns-then-n-ge6 : goal.returns-then-n-ge6
returns-then-n-ge6 c =
    let a = c.args in
    c.wide.ensures ∙ head-many 6 a.n (drop a.at (bits_in a.s)) c.if-n-ge6.true

pub returns : goal.returns
returns c =
    let a = c.args in
    head-shift a.n _ (drop a.at (bits_in a.s)) (omega arith) c.wide-2.ensures
