use Rattle.std.proofs.Common.{arith}
use Rattle.book.specs.Ledgers.{seen}
use Rattle.book.proofs.Sheeting.{asks, held_long}
use Rattle.book.proofs.book.Book.sheet.Goals as goal

-- A book that calls alone have reached has what its sheet asks.
pub new-requires : goal.new-requires
new-requires c =
    let ledger = c.args.self.now.ledger in
    let a = asks (seen ledger) c.args.self.now.reached (held_long _ _ _ _ (omega (arith, ledger.few, ledger.ones, ledger.rows.ok.0, ledger.one.ok.0)) (omega (arith, ledger.few, ledger.twos, ledger.rows.ok.0, ledger.two.ok.0))) c.plan.result c.plan.ensures c.links.result.now c.links.ensures in
    record { few = a.few; ruled = a.ruled; fits = a.fits }
