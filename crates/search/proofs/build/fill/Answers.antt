use Rattle.std.proofs.Common.{refl, arith}
use Rattle.search.proofs.Fillings.{joint, first_place, second_place, filled_more, filled_all}
use Rattle.search.proofs.build.fill.Goals as goal

pub put_both-requires-clause-first_place : goal.put_both-requires-clause-first_place
put_both-requires-clause-first_place g c =
    let e = c.ends.ensures in
    let j = joint g.T.Joins.first g.T.Joins.second g.T.Joins.none _ _ c.loop-number.number _ _ c.requires.lawful (omega arith) c.index-links-number.is e.first e.second in
    first_place c.requires.starts _ _ _ _ _ j c.loop-number.invariant

pub put_both-requires-clause-second_place : goal.put_both-requires-clause-second_place
put_both-requires-clause-second_place g c =
    let e = c.ends.ensures in
    let j = joint g.T.Joins.first g.T.Joins.second g.T.Joins.none _ _ c.loop-number.number _ _ c.requires.lawful (omega arith) c.index-links-number.is e.first e.second in
    second_place c.requires.starts _ _ _ _ _ j c.loop-number.invariant _ _ refl refl

pub loop-number-preserved : goal.loop-number-preserved
loop-number-preserved g c =
    let e = c.ends.ensures in
    let p = c.put_both.ensures in
    let j = joint g.T.Joins.first g.T.Joins.second g.T.Joins.none _ _ c.loop-number.number _ _ c.requires.lawful (omega arith) c.index-links-number.is e.first e.second in
    filled_more c.requires.starts _ _ _ _ _ j c.loop-number.invariant _ _ refl refl _ _ p.entries p.next

pub returns : goal.returns
returns g c = filled_all _ _ _ _ c.loop-number.number (omega arith) c.requires.starts c.loop-number.invariant
