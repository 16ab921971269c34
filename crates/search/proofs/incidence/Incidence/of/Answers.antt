use Rattle.search.proofs.Fillings.{starts_room}
use Rattle.search.proofs.incidence.Incidence.of.Goals as goal

pub fill-entries-requires-clause-starts : goal.fill-entries-requires-clause-starts
fill-entries-requires-clause-starts g c =
    let e = c.count-counts.ensures in
    starts_room _ c.requires.few _ _ e.long e.counts e.total c.starts_of-starts.ensures
