use Rattle.search.proofs.Rounds.{rested}
use Rattle.search.proofs.spread.Wave.flood.Goals as goal

pub loop-self-preserved : goal.loop-self-preserved
loop-self-preserved g c = rested _ _ _ _ _ c.leave.ensures.leaving
