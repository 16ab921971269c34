use Rattle.augmenting.specs.Runs.{left_in, Continues}
use Rattle.augmenting.proofs.augmenting.augment.Given as goal

abbrev pub invariant-loop-found : goal.invariant-loop-found
invariant-loop-found l = Continues l.initial.run l.run

abbrev pub decreases-loop-found : goal.decreases-loop-found
decreases-loop-found l = left_in l.run
