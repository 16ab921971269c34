use Rattle.std.proofs.Common.{◌≡◌, length, drop}
use Rattle.search.specs.Paths.{destination}
use Rattle.engine.specs.Jobs.{links_of}
use Rattle.residual.specs.Meshes.{residual}
use Rattle.residual.proofs.Raising.{Onward}
use Rattle.residual.proofs.raise.raise.Given as goal

abbrev pub invariant-loop-link : goal.invariant-loop-link
invariant-loop-link l = (length l.flow ≡ 512) × Onward (links_of l.job) l.initial.flow l.flow l.by l.from l.at (destination (residual (links_of l.job) l.initial.flow l.by) l.from l.path) (drop l.link-index l.path)
