use Rattle.std.proofs.Common.{◌≡◌, ℕ, ◌+◌, ◌<◌, length}
use Rattle.residual.specs.Networks.{links_in}
use Rattle.preflow.specs.Heights.{high}
use Rattle.preflow.specs.Starts.{Into, Lowered}
use Rattle.preflow.proofs.distance.next_level.Given as goal

abbrev pub invariant-loop-cabinet : goal.invariant-loop-cabinet
invariant-loop-cabinet l =
    (length l.heights ≡ 64)
    × Lowered (l.level + 1) l.initial.heights l.heights
    × ((x : ℕ) → x < l.cabinet → high l.heights x ≡ l.level → Into (links_in l.network) l.heights x (l.level + 1))
