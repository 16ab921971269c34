use Rattle.std.proofs.Common.{arith}
use Rattle.augmenting.proofs.Runs.{full_round}
use Rattle.augmenting.proofs.run.Run.round.Goals as goal

pub returns-clause-ended : goal.returns-clause-ended
returns-clause-ended c =
    full_round c.exhaust-one_one.new.self c.exhaust-one_two.new.self c.exhaust-two_one.new.self c.exhaust-two_two.new.self _ _ _ _ _ (omega (arith, c.if-self-before.false, c.exhaust-one_one.ensures.continues.counted))
    c.exhaust-one_two.ensures.continues c.exhaust-two_one.ensures.continues c.exhaust-two_two.ensures.continues c.exhaust-one_one.ensures.blocked c.exhaust-one_two.ensures.blocked c.exhaust-two_one.ensures.blocked c.exhaust-two_two.ensures.blocked c.joined.ensures
