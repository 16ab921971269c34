use Rattle.std.proofs.Common.{arith}
use Rattle.book.specs.Ledgers.{seen}
use Rattle.book.proofs.Holding.{drawn_step, refilled_by}
use Rattle.book.proofs.ledger.Ledger.draw.Goals as goal

-- The shares stand at the front of the two lists.
pub returns : goal.returns
returns g c = record {
  step =
      drawn_step (seen c.args.self.now) c.in_ok-pairs.pairs c.as_slice.result.now c.draw-sides.new.one c.draw-sides.new.two _ _ c.draw-sides.result
      c.in_ok-pairs.ensures.ok_part c.as_slice.ensures.value (refilled_by _ _ _ (omega arith)) (refilled_by _ _ _ (omega arith)) c.draw-sides.ensures.drawn;
  stays = tt;
}
