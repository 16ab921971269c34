use Rattle.flow.proofs.Cuts.{crosses_either, slots_xor}
use Rattle.flow.proofs.theorems.either_side.Goals as goal

pub returns : goal.returns
returns g c S R = (crosses_either g.E.Edge.low g.E.Edge.high g.E.Edge.capacity S R, slots_xor g.E.Edge.low g.E.Edge.high g.E.Edge.capacity S R)
