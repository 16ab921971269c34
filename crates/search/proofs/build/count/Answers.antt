use Rattle.std.proofs.Common.{refl, arith}
use Rattle.search.proofs.Fillings.{joint, counting_none, counting_more}
use Rattle.search.proofs.build.count.Goals as goal

pub loop-link-init : goal.loop-link-init
loop-link-init g c = counting_none _

pub loop-link-preserved : goal.loop-link-preserved
loop-link-preserved g c =
    let e = c.ends.ensures in
    let j = joint g.T.Joins.first g.T.Joins.second g.T.Joins.none _ _ c.loop-link.link-index _ _ c.requires (omega arith) c.link-item.is e.first e.second in
    counting_more _ c.loop-link.counts _ _ _ _ _ j refl c.bump_both.ensures c.loop-link.invariant
