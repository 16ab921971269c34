use Rattle.search.proofs.Rings.{popped}
use Rattle.search.proofs.queue.Queue.pop.Goals as goal

pub returns-clause-items : goal.returns-clause-items
returns-clause-items g c =
    let q = c.args.self.now in
    popped q.places.now q.head q.len _ _ q.starts q.fits c.in_ok-item.ensures c.next_head-self.ensures
