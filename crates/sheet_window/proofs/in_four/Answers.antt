use Rattle.sheet_window.specs.WindowLaws.{shl_one, window-of}
use Rattle.sheet_window.proofs.in_four.Goals as goal

pub returns : goal.returns
returns g c =
    let a = c.args in
    let h = c.requires.0 in
    rw (shl_one a.n h) (window-of a.s.now a.at a.n _ h c.four.ensures)
