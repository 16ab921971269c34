use Rattle.engine.proofs.Totals.{one_greatest}
use Rattle.engine.proofs.greatest.greatest_is_one.Goals as goal

pub returns : goal.returns
returns c = one_greatest
