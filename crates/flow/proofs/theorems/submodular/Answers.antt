use Rattle.flow.proofs.Cuts.{slots_union, slots_difference}
use Rattle.flow.proofs.theorems.submodular.Goals as goal

pub returns : goal.returns
returns g c S R ls = (slots_union g.E.Edge.low g.E.Edge.high g.E.Edge.capacity S R ls, slots_difference g.E.Edge.low g.E.Edge.high g.E.Edge.capacity S R ls)
