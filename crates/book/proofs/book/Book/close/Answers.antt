use Rattle.book.specs.Ledgers.{seen}
use Rattle.book.proofs.Pasts.{trial_there}
use Rattle.book.proofs.book.Book.close.Goals as goal

pub close-requires : goal.close-requires
close-requires c = trial_there (seen c.args.self.now.ledger) c.args.self.now.reached
