use Rattle.std.proofs.Common.{◌≡◌, ◌*◌, ◌^◌, ◌≤◌, take}
use Rattle.flow.specs.Nets.{members, side_slots}
use Rattle.flow.proofs.sides.side_slots.Given as goal

abbrev pub invariant-loop-link : goal.invariant-loop-link
invariant-loop-link g l = (l.sum ≡ side_slots g.E.Edge.low g.E.Edge.high g.E.Edge.capacity (members l.side) (take l.link-index l.links)) × (l.sum ≤ 2 ^ 32 * l.link-index)
