use Rattle.std.proofs.Common.{sym}
use Rattle.flow.specs.Ranges.{cabinets}
use Rattle.plan.specs.Judging.{keeps_in}
use Rattle.plan.proofs.Finding.{none_yet, none_more, lowest_here, either_here}
use Rattle.plan.proofs.judging.Fitted.first_broken.Goals as goal

pub loop-cabinet-init : goal.loop-cabinet-init
loop-cabinet-init g c = (c.scan.invariant.0, none_yet _)

pub loop-cabinet-preserved : goal.loop-cabinet-preserved
loop-cabinet-preserved g c = (c.loop-cabinet.invariant.0, none_more c.loop-cabinet.cabinet _ c.loop-cabinet.invariant.1 (sym c.if-not-keeps_in.ensures))

pub returns-then-not-keeps_in : goal.returns-then-not-keeps_in
returns-then-not-keeps_in g c =
    let plan = c.args.self.now.plan in
    let test = keeps_in g.L.Edge.low g.L.Edge.high plan.pairs c.args.self.now.links.now plan.one.now plan.two.now in
    sym (either_here cabinets test c.scan.stream-index c.loop-cabinet.cabinet c.scan-test.true c.scan.invariant.1 (lowest_here cabinets c.loop-cabinet.cabinet _ c.loop-cabinet-test.true c.loop-cabinet.invariant.1 (sym c.if-not-keeps_in.ensures)))
