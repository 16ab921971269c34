use Rattle.std.proofs.Common.{rules, ◌≡◌, Some, arith, sym}
use Rattle.mesh.specs.declared.fault.Fault.TheVariants.{Proposal}
use Rattle.book.specs.History.{refusal}
use Rattle.book.specs.History.Call.{Admit}
use Rattle.book.specs.Ledgers.{seen, proposed}
use Rattle.book.proofs.Holding.{admitted_step, flawless, refused_for, refilled_by}
use Rattle.book.proofs.ledger.Ledger.admit.Goals as goal

pub returns-in_err-judge-clause-step : goal.returns-in_err-judge-clause-step
returns-in_err-judge-clause-step c =
    let e : refusal (seen c.args.self.now) (Admit (proposed c.args.proposal)) ≡ Some (Proposal c.in_err-judge.field-0.0) = refused_for (seen c.args.self.now) c.in_ok-pairs.pairs c.as_slice.result.now (proposed c.args.proposal) c.in_err-judge.field-0.0 c.in_ok-pairs.ensures.ok_part c.as_slice.ensures.value (sym c.in_err-judge.ensures) in
    search rules

-- The proposal stands at the front of the two lists.
pub returns-clause-step : goal.returns-clause-step
returns-clause-step c =
    admitted_step (seen c.args.self.now) c.in_ok-pairs.pairs c.as_slice.result.now (proposed c.args.proposal) _ _ c.copy_front.new.to c.copy_front-2.new.to _ _ (record { cut = c.side_of.result; first = c.side_of-2.result })
    c.in_ok-pairs.ensures.ok_part c.as_slice.ensures.value (flawless _ (sym c.in_ok-judge.ensures)) (refilled_by _ _ _ (omega arith)) (refilled_by _ _ _ (omega arith)) c.copy_front.ensures c.copy_front-2.ensures c.side_of.ensures c.side_of-2.ensures
