use Rattle.std.proofs.Common.{refl}
use Rattle.flow.proofs.Changing.{changes, near_same, near_then}
use Rattle.flow.proofs.theorems.slots_change.Goals as goal

pub returns : goal.returns
returns g c = (changes g.E.Edge.low g.E.Edge.high g.E.Edge.capacity, λ x. near_same x x refl, near_then)
