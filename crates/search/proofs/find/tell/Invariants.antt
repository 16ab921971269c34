use Rattle.std.proofs.Common.{◌≡◌, ℕ, ◌<◌, false, get_or}
use Rattle.search.specs.Spreads.{reached}
use Rattle.search.proofs.find.tell.Given as goal

abbrev pub invariant-loop-cabinet : goal.invariant-loop-cabinet
invariant-loop-cabinet l = (k : ℕ) → k < l.cabinet → get_or l.side k false ≡ reached l.marks k
