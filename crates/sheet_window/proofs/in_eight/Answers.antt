use Rattle.sheet_window.specs.WideLaws.{wide_of}
use Rattle.sheet_window.proofs.in_eight.Goals as goal

pub returns : goal.returns
returns g c =
    let a = c.args in
    wide_of a.s.now a.at a.n _ c.requires.1 c.eight.ensures
