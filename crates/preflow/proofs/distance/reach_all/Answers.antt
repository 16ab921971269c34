use Rattle.std.proofs.Common.{◌≡◌, ℕ, ◌+◌, ◌<◌, ◌≤◌, List, length, get_or, take, sym, ap, subst, arith}
use Rattle.std.specs.List.{AllByRecursion}
use Rattle.std.proofs.lemmas.List.{take_all}
use Rattle.std.proofs.ByRecursion.{All-weaker}
use Rattle.search.specs.Graphs.{across, incident}
use Rattle.search.proofs.Meshes.{row_link, across_in}
use Rattle.engine.specs.declared.arc.Arc.{Arc}
use Rattle.engine.specs.Arcs.{blank}
use Rattle.residual.specs.Meshes.{mesh_of}
use Rattle.residual.specs.Networks.{links_in}
use Rattle.residual.specs.Grounds.{job_lawful}
use Rattle.preflow.specs.Heights.{high}
use Rattle.preflow.proofs.Spreads.{lowered_then, into_row, row_more}
use Rattle.preflow.proofs.distance.reach_all.Goals as goal

pub reach-requires : goal.reach-requires
reach-requires c =
    let e = c.row-link-items.ensures in
    (row_link (mesh_of (links_in c.args.network.now)) c.args.at c.row-link-items.result.now c.loop-link.link-index e c.loop-link-test.true).0

pub loop-link-preserved : goal.loop-link-preserved
loop-link-preserved c =
    let ls : List Arc = links_in c.args.network.now in
    let hs : List ℕ = c.loop-link.heights in
    let after : List ℕ = c.reach.new.heights in
    let v : ℕ = c.args.at in
    let m : ℕ = c.args.height in
    let row : List ℕ = c.row-link-items.result.now in
    let i : ℕ = c.loop-link.link-index in
    let inv = c.loop-link.invariant in
    let e : c.row-link-items.result.now ≡ incident (mesh_of (links_in c.args.network.now)) c.args.at = c.row-link-items.ensures in
    let at = row_link (mesh_of ls) v row i e c.loop-link-test.true in
    let seen = subst (λ (xs : List ℕ). AllByRecursion (λ k. (k < length ls) × (0 < (get_or ls k blank).limit → high hs (across (mesh_of ls) v k) ≤ m)) (take i xs)) (sym e) inv.2 in (
      c.reach.array_long,
      lowered_then m c.args.heights.now hs after inv.1 c.reach.ensures.lowered,
      subst (λ (xs : List ℕ). AllByRecursion (λ k. (k < length ls) × (0 < (get_or ls k blank).limit → high after (across (mesh_of ls) v k) ≤ m)) (take (i + 1) xs)) e
          (row_more ls c.args.network.now.job.now.sound hs after row v m i c.loop-link-test.true c.reach.ensures.lowered seen at.0 at.1 (λ l h. across_in (mesh_of ls) v l (job_lawful c.args.network.now.job.now) h) c.reach.ensures.near),
    )

pub returns-clause-into : goal.returns-clause-into
returns-clause-into c =
    let ls : List Arc = links_in c.args.network.now in
    let hs : List ℕ = c.loop-link.heights in
    let v : ℕ = c.args.at in
    let m : ℕ = c.args.height in
    let inc : List ℕ = incident (mesh_of (links_in c.args.network.now)) c.args.at in
    let e : c.row-link-items.result.now ≡ incident (mesh_of (links_in c.args.network.now)) c.args.at = c.row-link-items.ensures in
    let le : length (incident (mesh_of (links_in c.args.network.now)) c.args.at) ≤ c.loop-link.link-index = omega (arith, ap length e, c.loop-link-test.false) in
    let all = subst (AllByRecursion (λ k. (k < length ls) × (0 < (get_or ls k blank).limit → high hs (across (mesh_of ls) v k) ≤ m))) (take_all c.loop-link.link-index inc le) c.loop-link.invariant.2 in
    into_row ls c.args.network.now.job.now.sound hs v m (All-weaker (λ k. (k < length ls) × (0 < (get_or ls k blank).limit → high hs (across (mesh_of ls) v k) ≤ m)) (λ k. 0 < (get_or ls k blank).limit → high hs (across (mesh_of ls) v k) ≤ m) (λ k p. p.1) inc all)
