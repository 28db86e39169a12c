use Rattle.sheet_words.specs.WordLaws.{class-no, class-short, class-rest}
use Rattle.sheet_words.proofs.is_resource.Goals as goal

pub returns-then-w-lt6 : goal.returns-then-w-lt6
returns-then-w-lt6 c = class-short c.args.w c.if-w-lt6.true

pub returns-then-w-eq-RESOUR : goal.returns-then-w-eq-RESOUR
returns-then-w-eq-RESOUR c = class-rest c.args.w c.if-w-eq-RESOUR.true _ c.head_at.ensures

pub returns : goal.returns
returns c = class-no c.args.w c.if-w-eq-RESOUR.false
