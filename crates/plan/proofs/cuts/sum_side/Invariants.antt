use Rattle.std.proofs.Common.{◌≡◌, ℕ, ◌<◌, length}
use Rattle.flow.specs.Nets.{members}
use Rattle.flow.specs.Drawings.{made_side}
use Rattle.plan.proofs.cuts.sum_side.Given as goal

abbrev pub invariant-loop-cabinet : goal.invariant-loop-cabinet
invariant-loop-cabinet l = (length l.held-items ≡ 64) × ((k : ℕ) → k < l.cabinet → members l.held-items k ≡ made_side (members l.first) (members l.full) l.pairs k)
