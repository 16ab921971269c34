use Rattle.std.proofs.Common.{length, sym, ap, ◌∙◌}
use Rattle.engine.specs.Jobs.{links_of}
use Rattle.augmenting.proofs.Amounts.{feasible_zero}
use Rattle.augmenting.proofs.augmenting.augment.Goals as goal

pub invariant_of-run-clause-feasible : goal.invariant_of-run-clause-feasible
invariant_of-run-clause-feasible c =
    feasible_zero c.of-network.result.job.now _ c.clear.new.flow (ap length c.links.ensures.links ∙ ap (λ j. length (links_of j)) (sym c.of-network.ensures)) c.clear.ensures.front
