use Rattle.std.proofs.Common.{get_or, pos}
use Rattle.flow.specs.Ranges.{cabinets}
use Rattle.flow.proofs.Halves.{halved_feasible, halved_one, halved_two, no_set_off}
use Rattle.flow.proofs.theorems.halving.Goals as goal

pub returns : goal.returns
returns g c limit p A B ls y z fs gs pr two wy wz cy cz h = (
  halved_feasible g.E.Edge.low g.E.Edge.high cabinets ls p pr A B y z fs gs h cy cz limit g.E.Edge.capacity two wy wz,
  halved_one g.E.Edge.low g.E.Edge.high cabinets ls p pr A B y z fs gs h cy cz,
  halved_two g.E.Edge.low g.E.Edge.high cabinets ls p pr A B y z fs gs h cy cz,
  λ k q. no_set_off (get_or y k (pos 0)) (get_or z k (pos 0)) (get_or fs k (pos 0)) (get_or gs k (pos 0)) (h k q).0 (h k q).1,
)
