use Rattle.preflow.specs.Runs.{Stays}
use Rattle.preflow.specs.States.{left}
use Rattle.preflow.proofs.run.Run.drain.Given as goal

abbrev pub invariant-loop-first : goal.invariant-loop-first
invariant-loop-first l = Stays l.initial.self l.self

abbrev pub decreases-loop-first : goal.decreases-loop-first
decreases-loop-first l = left l.self.state
