use Rattle.std.proofs.Common.{◌≡◌, ℕ, ◌<◌, ltb, length}
use Rattle.flow.specs.Nets.{members}
use Rattle.preflow.specs.Heights.{high}
use Rattle.preflow.proofs.side.tell.Given as goal

abbrev pub invariant-loop-v : goal.invariant-loop-v
invariant-loop-v l = (length l.side ≡ 64) × ((w : ℕ) → w < l.v → members l.side w ≡ ltb l.level (high l.heights w))
