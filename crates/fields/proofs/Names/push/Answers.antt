use lib.ListN.{length}
use Rattle.fields.specs.FieldLaws.{names_more}
use mathlib.Core.Path.{◌≡◌, refl}
use native.Mathlib.Omega.{arith}
use borrow.Author.Rules.{rules}
use Rattle.fields.proofs.Names.push.Goals as goal

pub returns : goal.returns
returns c =
    let l : length c.args.self.now.first ≡ 15 = search rules in
    let m : length c.args.self.now.second ≡ 15 = search rules in
    (names_more c.args.self.now c.args.n (omega arith) (omega arith), refl)
