use Rattle.std.proofs.Common.{ℕ, take}
use Rattle.std.specs.List.{AllByRecursion}
use Rattle.flow.specs.declared.taps.Taps.{Taps}
use Rattle.search.specs.Graphs.{incident}
use Rattle.residual.specs.Meshes.{mesh_of}
use Rattle.residual.specs.Networks.{links_in}
use Rattle.preflow.specs.Ways.{Bounds, Leads, UpTo}
use Rattle.preflow.proofs.lowest.Landscape.over_links.Given as goal

abbrev pub invariant-loop-link : goal.invariant-loop-link
invariant-loop-link l =
    ((m : ℕ) → UpTo l.best m → AllByRecursion (Bounds (links_in l.self.residual.network.now) l.self.residual.flow.now l.self.heights.now l.at m) (take l.link-index (incident (mesh_of (links_in l.self.residual.network.now)) l.at)))
    × ((places most amount : Taps ℕ) → Leads (links_in l.self.residual.network.now) places most amount l.self.residual.flow.now l.self.heights.now l.at l.best)
