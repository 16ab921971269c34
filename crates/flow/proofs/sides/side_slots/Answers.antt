use Rattle.std.proofs.Common.{arith}
use Rattle.flow.specs.Nets.{members}
use Rattle.flow.proofs.Steps.{slots_step}
use Rattle.flow.proofs.sides.side_slots.Goals as goal

pub loop-link-preserved : goal.loop-link-preserved
loop-link-preserved g c = omega (arith, slots_step g.E.Edge.low g.E.Edge.high g.E.Edge.capacity (members c.args.side.now) c.args.links.now c.loop-link.link-index c.link-item.result c.link-item.is c.loop-link-test.true)
