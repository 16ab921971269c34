use Rattle.std.proofs.Common.{◌+◌, length}
use Rattle.search.specs.Queues.{items}
use Rattle.search.specs.Spreads.{Resting, unreached}
use Rattle.search.proofs.spread.Wave.flood.Given as goal

abbrev pub invariant-loop-self : goal.invariant-loop-self
invariant-loop-self g l = Resting (g.G.Ground.graph l.ground) l.start l.self.marks (items l.self.queue)

abbrev pub decreases-loop-self : goal.decreases-loop-self
decreases-loop-self g l = unreached l.self.marks + length (items l.self.queue)
