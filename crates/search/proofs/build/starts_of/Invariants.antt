use Rattle.std.proofs.Common.{◌≡◌, ℕ, ◌+◌, ◌<◌, length, get_or, take, sum}
use Rattle.search.proofs.build.starts_of.Given as goal

abbrev pub invariant-loop-v : goal.invariant-loop-v
invariant-loop-v l =
    (length l.starts ≡ 65) × ((k : ℕ) → k < l.v + 1 → get_or l.starts k 0 ≡ sum (take k l.counts))
