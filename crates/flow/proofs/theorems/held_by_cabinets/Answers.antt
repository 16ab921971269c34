use Rattle.flow.specs.Ranges.{cabinets}
use Rattle.flow.proofs.Cuts.{held_same}
use Rattle.flow.proofs.theorems.held_by_cabinets.Goals as goal

pub returns : goal.returns
returns g c p ls fs gs cut first cut' first' i pr a b h = held_same g.E.Edge.low g.E.Edge.high g.E.Edge.capacity cabinets p ls fs gs cut first cut' first' i pr a b h
