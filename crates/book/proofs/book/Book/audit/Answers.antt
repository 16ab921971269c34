use Rattle.std.proofs.Common.{subst}
use Rattle.sheet.specs.Readings.{Reading, Answers, Totalled}
use Rattle.sheet.specs.Readings.Request.{Total}
use Rattle.book.specs.Ledgers.{seen}
use Rattle.book.proofs.Laws.{every_past, best_here}
use Rattle.book.proofs.book.Book.audit.Goals as goal

-- The sheet shows the book, and the law holds of every past.
pub returns : goal.returns
returns c = record {
  totals = subst (λ (s : Reading). Answers s Total Totalled c.totals.result) c.sheet.ensures c.totals.ensures;
  past = every_past;
  here = best_here (seen c.args.self.now.ledger) c.args.self.now.reached;
}
