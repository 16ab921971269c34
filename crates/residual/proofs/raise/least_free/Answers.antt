use Rattle.std.proofs.Common.{◌≡◌, ◌+◌, min, get_or, drop, sym, ap, ◌∙◌, subst}
use Rattle.search.specs.Graphs.{across}
use Rattle.search.specs.Paths.{OpenPath}
use Rattle.residual.specs.Meshes.{mesh_of, residual}
use Rattle.residual.specs.Networks.{links_in}
use Rattle.residual.proofs.Raising.{front_open, least_more}
use Rattle.residual.proofs.raise.least_free.Goals as goal

pub loop-link-preserved : goal.loop-link-preserved
loop-link-preserved c =
    let ls = links_in c.args.ground.now.network.now in
    let fs = c.args.ground.now.flow.now in
    let path = c.args.path.now in
    let i = c.loop-link.link-index in
    let h = c.loop-link-test.true in
    let far : c.far_end-cabinet.result ≡ across (mesh_of ls) c.loop-link.cabinet (get_or path i 0) = c.far_end-cabinet.ensures ∙ ap (λ k. across (mesh_of k) c.loop-link.cabinet (get_or path i 0)) c.links.ensures.links in
    (subst (λ v. OpenPath (residual ls fs 1) v (drop (i + 1) path)) (sym far) (front_open _ _ _ _ h c.loop-link.invariant.0).1, least_more ls fs c.loop-link.cabinet path i _ _ _ _ h (c.min-by.ensures ∙ ap (min c.loop-link.by) c.free.ensures) far c.loop-link.invariant.1)
