use Rattle.sheet.proofs.Nearness.{stream_fits}
use Rattle.sheet.proofs.sheet.Sheet.carriage.Goals as goal

pub invariant_of-result : goal.invariant_of-result
invariant_of-result c =
    let s = c.args.self.now in
    let f = stream_fits s.links.now c.args.plan s.ruled (s.fits c.args.plan c.requires) c.args.stream c.shares.result.now c.of.result c.shares.ensures c.of.ensures in
    record { few = s.few; ruled = s.ruled; long = f.long; small = f.small; source_in = f.source_in; goal_in = f.goal_in }
