use Rattle.std.proofs.Common.{◌≡◌, ◌<◌, ◌≤◌, drop}
use Rattle.search.specs.Spreads.{mark, level_of}
use Rattle.search.proofs.Chains.{Tracing}
use Rattle.search.proofs.find.trace.Given as goal

abbrev pub invariant-loop-at : goal.invariant-loop-at
invariant-loop-at l =
    let count = level_of (mark l.marks l.goal) in
    let left = level_of (mark l.marks l.at) in
    (l.at < 64)
    × (left ≤ count)
    × Tracing l.marks l.goal count l.path l.at left
    × (drop count l.path ≡ drop count l.initial.path)

abbrev pub decreases-loop-at : goal.decreases-loop-at
decreases-loop-at l = level_of (mark l.marks l.at)
