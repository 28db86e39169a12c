use Rattle.catalogue.specs.DomLaws.{first_place, first_key}
use Rattle.catalogue.proofs.Catalogue.first_by_dom.Goals as goal

pub returns-then-self : goal.returns-then-self
returns-then-self c = first_key _ _ _ c.if-self.true c.least_key.ensures

pub returns : goal.returns
returns c = first_place _ _ _ c.if-self.false c.lowest.ensures
