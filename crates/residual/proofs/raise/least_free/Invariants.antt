use Rattle.std.proofs.Common.{◌≡◌, drop}
use Rattle.search.specs.Paths.{OpenPath}
use Rattle.residual.specs.Meshes.{residual}
use Rattle.residual.specs.Networks.{links_in}
use Rattle.residual.specs.Raising.{least}
use Rattle.residual.proofs.raise.least_free.Given as goal

abbrev pub invariant-loop-link : goal.invariant-loop-link
invariant-loop-link l =
    OpenPath (residual (links_in l.ground.network.now) l.ground.flow.now 1) l.cabinet (drop l.link-index l.path) × (least (links_in l.ground.network.now) l.ground.flow.now l.cabinet (drop l.link-index l.path) l.by ≡ least (links_in l.ground.network.now) l.ground.flow.now l.from l.path l.most)
