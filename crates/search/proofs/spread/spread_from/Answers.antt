use Rattle.search.proofs.Begins.{begun}
use Rattle.search.proofs.spread.spread_from.Goals as goal

pub flood-requires-clause-resting : goal.flood-requires-clause-resting
flood-requires-clause-resting g c =
    begun _ c.args.start c.requires.start _ _ c.new-wave.ensures.marks c.new-wave.ensures.items
