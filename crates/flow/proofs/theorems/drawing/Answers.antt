use Rattle.flow.proofs.Drawing.{drawn_held, drawn_one, drawn_two, drawn_greatest}
use Rattle.flow.proofs.theorems.drawing.Goals as goal

pub returns : goal.returns
returns g c limit p ls fs gs cut first i pr two few d = (
  drawn_held g.E.Edge.low g.E.Edge.high g.E.Edge.capacity limit p ls fs gs cut first i pr two few d,
  drawn_one g.E.Edge.low g.E.Edge.high g.E.Edge.capacity limit p ls fs gs cut first i pr two few d,
  drawn_two g.E.Edge.low g.E.Edge.high g.E.Edge.capacity limit p ls fs gs cut first i pr two few d,
  drawn_greatest g.E.Edge.low g.E.Edge.high g.E.Edge.capacity limit p ls fs gs cut first i pr two few d,
)
