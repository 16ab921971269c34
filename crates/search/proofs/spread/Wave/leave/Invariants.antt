use Rattle.std.proofs.Common.{◌≡◌, ◌+◌, length, take}
use Rattle.search.specs.Graphs.{incident}
use Rattle.search.specs.Queues.{items}
use Rattle.search.specs.Spreads.{Leaving, unreached}
use Rattle.search.proofs.spread.Wave.leave.Given as goal

abbrev pub invariant-loop-link : goal.invariant-loop-link
invariant-loop-link g l =
    let gr = g.G.Ground.graph l.ground in
    Leaving gr l.start l.self.marks (items l.self.queue) l.at (take l.link-index (incident gr.mesh l.at))
    × (unreached l.self.marks + length (items l.self.queue) ≡ unreached l.initial.self.marks + length (items l.initial.self.queue))
