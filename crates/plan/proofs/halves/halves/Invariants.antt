use Rattle.std.proofs.Common.{◌≡◌, map, length, take}
use Rattle.plan.specs.Halves.{half_arc}
use Rattle.plan.proofs.halves.halves.Given as goal

abbrev pub invariant-loop-i : goal.invariant-loop-i
invariant-loop-i g l = (length l.arcs ≡ 512) × (take l.i l.arcs ≡ map (half_arc g.L.Edge.low g.L.Edge.high g.L.Edge.capacity) (take l.i l.links))
