use Rattle.flow.specs.Ranges.{cabinets}
use Rattle.flow.proofs.Deciding.{feasible_decides, sum_side_decides, first_side_decides, held_decides}
use Rattle.flow.proofs.theorems.tests_decide.Goals as goal

pub returns : goal.returns
returns g c p ls fs gs cut first = (feasible_decides g.E.Edge.low g.E.Edge.high g.E.Edge.capacity cabinets p ls fs gs, sum_side_decides p cut, first_side_decides p first, held_decides g.E.Edge.low g.E.Edge.high g.E.Edge.capacity cabinets p ls fs gs cut first)
