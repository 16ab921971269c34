use Rattle.std.proofs.Common.{◌≡◌, length}
use Rattle.residual.specs.Networks.{links_in}
use Rattle.preflow.specs.Starts.{Settled}
use Rattle.preflow.proofs.distance.distances.Given as goal

abbrev pub invariant-loop-level : goal.invariant-loop-level
invariant-loop-level l = (length l.heights ≡ 64) × Settled (links_in l.network) l.network.job.now.at l.network.job.now.most l.heights l.level
