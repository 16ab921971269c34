use Rattle.std.proofs.Common.{ℕ, List}
use Rattle.engine.specs.declared.arc.Arc.{Arc}
use Rattle.residual.specs.Networks.{links_in}
use Rattle.preflow.proofs.Spreads.{settled_none}
use Rattle.preflow.proofs.distance.distances.Goals as goal

pub loop-level-init : goal.loop-level-init
loop-level-init c =
    let ls : List Arc = links_in c.args.network.now in
    let job = c.args.network.now.job.now in
    let r : List ℕ = c.drained-heights.result in
    let d = c.drained-heights.ensures in
    (d.long, settled_none ls job.sound job.at job.most job.placed.2 job.placed.3 r d.lowered d.drain1 d.drain2)
