use Rattle.std.proofs.Common.{◌∙◌, arith}
use Rattle.search.proofs.Meshes.{row_link}
use Rattle.search.proofs.Entered.{row_kept}
use Rattle.search.proofs.spread.Wave.leave.Goals as goal

pub offer-requires-clause-link : goal.offer-requires-clause-link
offer-requires-clause-link g c =
    (row_link _ c.args.at _ c.loop-link.link-index c.links_at-link-items.ensures (omega arith)).0

pub loop-link-preserved : goal.loop-link-preserved
loop-link-preserved g c =
    let i = c.loop-link.invariant in
    let o = c.offer.ensures in
    let k = row_kept _ (g.G.Ground.lawful c.args.ground.now) c.args.start _ _ c.args.at _ c.loop-link.link-index c.links_at-link-items.ensures (omega arith) i.0 _ _ o.marks o.items in
    (k.0, k.1 ∙ i.1)
