use Rattle.preflow.proofs.Turns.{at_front, some_way}
use Rattle.preflow.proofs.run.Run.way_out.Goals as goal

pub lowest-requires-clause-inside : goal.lowest-requires-clause-inside
lowest-requires-clause-inside c = (at_front c.args.self.now c.args.first c.requires).1

pub unwrap-requires : goal.unwrap-requires
unwrap-requires c = some_way c.args.self.now c.args.first c.requires c.lowest.result c.lowest.ensures.least
