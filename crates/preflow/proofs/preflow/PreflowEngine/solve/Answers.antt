use Rattle.std.proofs.Common.{◌≡◌, ap, ◌∙◌, subst}
use Rattle.flow.specs.Nets.{members}
use Rattle.engine.specs.declared.job.Job.{Job}
use Rattle.engine.specs.Jobs.{links_of}
use Rattle.residual.specs.declared.network.Network.{Network}
use Rattle.preflow.specs.declared.run.Run.{Run}
use Rattle.preflow.specs.States.{Labeled}
use Rattle.preflow.proofs.Gaps.{gap_cost}
use Rattle.preflow.proofs.preflow.PreflowEngine.solve.Goals as goal

-- a run for a job is a preflow for it
done : (r : Run) (n : Network) (j : Job) → r.network.now ≡ n → n.job.now ≡ j → Labeled (links_of j) j.at j.most r.state.amounts r.flow.now r.state.excess r.state.heights
done r n j e q = subst (λ (i : Job). Labeled (links_of i) i.at i.most r.state.amounts r.flow.now r.state.excess r.state.heights) (ap (λ (m : Network). m.job.now) e ∙ q) r.active.standing

pub returns-clause-full : goal.returns-clause-full
returns-clause-full c =
    let r = c.drain.new.self in
    let j = c.args.job.now in
    let g = c.gap.ensures in
    let s = done r c.of-network.result c.args.job.now (c.drain.ensures.stays.network ∙ c.begin-run.ensures.network) c.of-network.ensures in
    gap_cost (links_of j) j.at j.most r.state.amounts s.fits r.flow.now r.state.excess r.state.heights s.excess s.valid s.amounts (λ w _. c.drain.ensures.dry w) c.gap.result g.first g.low g.empty (members c.tell.new.side) c.tell.ensures
