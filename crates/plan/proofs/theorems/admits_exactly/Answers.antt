use Rattle.plan.proofs.Admission.{judged_held, held_judged}
use Rattle.plan.proofs.theorems.admits_exactly.Goals as goal

pub returns : goal.returns
returns g c p ls fs gs cut first = (judged_held g.L.Edge.low g.L.Edge.high g.L.Edge.capacity p ls fs gs cut first, λ w. held_judged g.L.Edge.low g.L.Edge.high g.L.Edge.capacity p ls fs gs cut first w.0 w.1)
