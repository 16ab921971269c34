use Rattle.plan.proofs.Drawings.{lawful_held}
use Rattle.plan.proofs.theorems.drawn_is_held.Goals as goal

pub returns : goal.returns
returns g c p ls fs gs cut first w pr d = lawful_held g.L.Edge.low g.L.Edge.high g.L.Edge.capacity p ls fs gs cut first w pr d
