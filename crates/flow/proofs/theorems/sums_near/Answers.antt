use Rattle.flow.specs.Ranges.{cabinets}
use Rattle.flow.proofs.Changing.{sums_near}
use Rattle.flow.proofs.theorems.sums_near.Goals as goal

pub returns : goal.returns
returns g c = sums_near g.E.Edge.low g.E.Edge.high g.E.Edge.capacity cabinets
