use Rattle.std.proofs.Common.{◌≡◌, ◌<◌, ◌≤◌, length, get_or, take}
use Rattle.std.specs.List.{AllByRecursion}
use Rattle.search.specs.Graphs.{across, incident}
use Rattle.engine.specs.Arcs.{blank}
use Rattle.residual.specs.Meshes.{mesh_of}
use Rattle.residual.specs.Networks.{links_in}
use Rattle.preflow.specs.Heights.{high}
use Rattle.preflow.specs.Starts.{Lowered}
use Rattle.preflow.proofs.distance.reach_all.Given as goal

abbrev pub invariant-loop-link : goal.invariant-loop-link
invariant-loop-link l =
    (length l.heights ≡ 64)
    × Lowered l.height l.initial.heights l.heights
    × AllByRecursion (λ k. (k < length (links_in l.network)) × (0 < (get_or (links_in l.network) k blank).limit → high l.heights (across (mesh_of (links_in l.network)) l.at k) ≤ l.height)) (take l.link-index (incident (mesh_of (links_in l.network)) l.at))
