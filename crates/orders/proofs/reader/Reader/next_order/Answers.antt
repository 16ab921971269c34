use Rattle.std.proofs.Common.{drop, Ok, ap, sym, ◌∙◌}
use Rattle.orders.specs.Readings.{item, seen}
use Rattle.orders.proofs.ReadOrders.{order_read}
use Rattle.orders.proofs.reader.Reader.next_order.Goals as goal

-- A record that was read has an order.
pub returns-clause-read : goal.returns-clause-read
returns-clause-read c =
    order_read (drop c.args.self.now.place c.args.self.now.file.now) (item c.in-Some.record) c.order.result (sym (ap (λ r. seen r) (ap (λ x. Ok x) c.in-Some.is)) ∙ c.in_ok-record.ensures.read) c.order.ensures
