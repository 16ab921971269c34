use Rattle.augmenting.specs.Sides.{Joined}
use Rattle.augmenting.proofs.sides.joined.Given as goal

abbrev pub invariant-loop-v : goal.invariant-loop-v
invariant-loop-v l = Joined l.a l.b l.c l.d l.within-items l.v
