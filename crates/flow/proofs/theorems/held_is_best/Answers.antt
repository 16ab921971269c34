use Rattle.flow.specs.Ranges.{cabinets}
use Rattle.flow.proofs.Duality.{held_best}
use Rattle.flow.proofs.theorems.held_is_best.Goals as goal

pub returns : goal.returns
returns g c p ls fs gs cut first i pr h = held_best g.E.Edge.low g.E.Edge.high g.E.Edge.capacity cabinets p ls fs gs cut first i pr h
