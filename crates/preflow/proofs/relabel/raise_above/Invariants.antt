use Rattle.std.proofs.Common.{◌≡◌, ℕ, ◌<◌, ◌≤◌, length}
use Rattle.preflow.specs.Heights.{high, over_top}
use Rattle.preflow.proofs.relabel.raise_above.Given as goal

abbrev pub invariant-loop-height : goal.invariant-loop-height
invariant-loop-height l =
    (length l.heights ≡ 64)
    × ((w : ℕ) → w < l.height-index → high l.heights w ≡ over_top l.level (high l.initial.heights w))
    × ((w : ℕ) → l.height-index ≤ w → high l.heights w ≡ high l.initial.heights w)
