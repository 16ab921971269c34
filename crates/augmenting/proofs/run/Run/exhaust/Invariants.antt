use Rattle.augmenting.specs.Runs.{left_in, Continues}
use Rattle.augmenting.proofs.run.Run.exhaust.Given as goal

abbrev pub invariant-loop-side : goal.invariant-loop-side
invariant-loop-side l = Continues l.initial.self l.self

abbrev pub decreases-loop-side : goal.decreases-loop-side
decreases-loop-side l = left_in l.self
