use Rattle.std.proofs.Common.{ℕ, ◌+◌, ◌^◌, ◌<◌, List, get_or, replicate, sym, subst, arith}
use Rattle.flow.specs.declared.taps.Taps.{Taps}
use Rattle.engine.specs.Arcs.{Limited}
use Rattle.preflow.specs.Sends.{given}
use Rattle.preflow.proofs.Begins.{zeros, give_fits}
use Rattle.preflow.proofs.start.fill.Goals as goal

pub give-requires-clause-fits : goal.give-requires-clause-fits
give-requires-clause-fits c = omega (arith, zeros c.at-at.result.feed1, subst Limited (sym c.most-most.ensures) c.args.job.now.limited)

pub give-requires-2-clause-fits : goal.give-requires-2-clause-fits
give-requires-2-clause-fits c =
    let at-is = sym c.at-at.ensures in
    let most-is = sym c.most-most.ensures in
    let job = c.args.job.now in
    subst (λ (x : List ℕ). get_or x c.at-at.result.feed2 0 + c.most-most.result.feed2 < 2 ^ 32) (sym c.give.ensures) (subst (λ (a : Taps ℕ). get_or (given (replicate 64 0) a.feed1 c.most-most.result.feed1) a.feed2 0 + c.most-most.result.feed2 < 2 ^ 32) at-is (subst (λ (m : Taps ℕ). get_or (given (replicate 64 0) job.at.feed1 m.feed1) job.at.feed2 0 + m.feed2 < 2 ^ 32) most-is (give_fits job.at job.most job.placed job.limited)))
