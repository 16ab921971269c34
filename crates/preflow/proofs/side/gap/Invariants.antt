use Rattle.std.proofs.Common.{ℕ, ◌<◌, ◌≤◌}
use Rattle.preflow.proofs.Levels.{level}
use Rattle.preflow.proofs.side.gap.Given as goal

abbrev pub invariant-loop-level : goal.invariant-loop-level
invariant-loop-level l = (j : ℕ) → 1 ≤ j → j < l.level → 1 ≤ level j l.heights
