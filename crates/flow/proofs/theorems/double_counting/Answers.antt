use Rattle.flow.specs.Ranges.{cabinets}
use Rattle.flow.proofs.Counting.{counted}
use Rattle.flow.proofs.theorems.double_counting.Goals as goal

pub returns : goal.returns
returns g c S ls fs i = counted g.E.Edge.low g.E.Edge.high S cabinets ls fs i
