use Rattle.std.proofs.Common.{◌≡◌, ℕ, ◌+◌, ◌≤◌, List, length, get_or, take, ℤ, sym, ap, subst, arith}
use Rattle.std.specs.List.{AllByRecursion}
use Rattle.std.proofs.lemmas.List.{take_all}
use Rattle.search.specs.Graphs.{incident}
use Rattle.search.proofs.Meshes.{row_link, incident_complete}
use Rattle.engine.specs.declared.arc.Arc.{Arc}
use Rattle.residual.specs.Meshes.{mesh_of}
use Rattle.residual.specs.Networks.{links_in}
use Rattle.preflow.specs.Ways.{Bounds, UpTo}
use Rattle.preflow.proofs.Lowers.{scan_leads, scan_all}
use Rattle.preflow.proofs.lowest.Landscape.over_links.Goals as goal

pub over_link-best-requires : goal.over_link-best-requires
over_link-best-requires c =
    let e = c.row-link-items.ensures in
    (row_link (mesh_of (links_in c.args.self.now.residual.network.now)) c.args.at c.row-link-items.result.now c.loop-link.link-index e c.loop-link-test.true).0

pub loop-link-preserved : goal.loop-link-preserved
loop-link-preserved c =
    let ls : List Arc = links_in c.args.self.now.residual.network.now in
    let fs : List ℤ = c.args.self.now.residual.flow.now in
    let hs : List ℕ = c.args.self.now.heights.now in
    let v : ℕ = c.args.at in
    let row : List ℕ = c.row-link-items.result.now in
    let i : ℕ = c.loop-link.link-index in
    let l : ℕ = get_or c.row-link-items.result.now c.loop-link.link-index 0 in
    let inv = c.loop-link.invariant in
    let next = c.over_link-best.result in
    let step = c.over_link-best.ensures in
    let e : c.row-link-items.result.now ≡ incident (mesh_of (links_in c.args.self.now.residual.network.now)) c.args.at = c.row-link-items.ensures in
    let at = row_link (mesh_of ls) v row i e c.loop-link-test.true in
    let seen = λ (m : ℕ) (h : UpTo c.loop-link.best m). subst (λ (xs : List ℕ). AllByRecursion (Bounds ls fs hs v m) (take i xs)) (sym e) (inv.0 m h) in (
      (λ m h. subst (λ (xs : List ℕ). AllByRecursion (Bounds ls fs hs v m) (take (i + 1) xs)) e (scan_all ls fs hs v c.loop-link.best next row i c.loop-link-test.true step seen m h)),
      (λ places most amount. scan_leads ls fs hs v c.loop-link.best next l step at.0 at.1 places most amount (inv.1 places most amount)),
    )

pub returns-clause-least : goal.returns-clause-least
returns-clause-least c m h l step =
    let ls : List Arc = links_in c.args.self.now.residual.network.now in
    let fs : List ℤ = c.args.self.now.residual.flow.now in
    let hs : List ℕ = c.args.self.now.heights.now in
    let v : ℕ = c.args.at in
    let inc : List ℕ = incident (mesh_of (links_in c.args.self.now.residual.network.now)) c.args.at in
    let e : c.row-link-items.result.now ≡ incident (mesh_of (links_in c.args.self.now.residual.network.now)) c.args.at = c.row-link-items.ensures in
    let long = ap length e in
    let le : length (incident (mesh_of (links_in c.args.self.now.residual.network.now)) c.args.at) ≤ c.loop-link.link-index = omega (arith, long, c.loop-link-test.false) in
    incident_complete (mesh_of ls) v (Bounds ls fs hs v m) (subst (AllByRecursion (Bounds ls fs hs v m)) (take_all c.loop-link.link-index inc le) (c.loop-link.invariant.0 m h)) l step.listed step.touching step
