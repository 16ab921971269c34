use Rattle.book.specs.Ledgers.{seen}
use Rattle.book.proofs.Pasts.{sound}
use Rattle.book.proofs.book.Book.links.Goals as goal

pub returns : goal.returns
returns c = record { value = c.links.ensures; sound = sound (seen c.args.self.now.ledger) c.args.self.now.reached }
