use Rattle.std.proofs.Common.{◌≡◌, ℕ, ◌+◌, ◌++◌, length, drop, Ok, Err, string_bytes, sym, ap, ◌∙◌, subst, arith}
use Rattle.book.specs.Books.{view}
use Rattle.orders.specs.declared.line.Line.{Line}
use Rattle.orders.specs.Lines.{ended}
use Rattle.orders.specs.Meanings.{ordered}
use Rattle.orders.specs.Readings.{answered}
use Rattle.orders.specs.Records.{read, orders}
use Rattle.orders.specs.Runs.{Carried, last_line}
use Rattle.orders.proofs.Telling.{told_none, told_more, told_all, counted, taken_some, taken_none}
use Rattle.orders.proofs.run.run_through.Goals.{in-Ok-None, in-Err}
use Rattle.orders.proofs.run.run_through.Goals as goal

-- Nothing has been told of an empty part.
pub loop-order-init : goal.loop-order-init
loop-order-init g c = (c.new-reader.ensures.file, told_none _ _ _ _ c.new-reader.ensures.place c.new-text.ensures.bytes)

-- There are at most half as many orders as bytes.
pub overflow_add-orders : goal.overflow_add-orders
overflow_add-orders g c =
    let so = c.loop-order.invariant in
    omega (arith, counted _ _ so.1 so.0 c.loop-order.reader.within)

-- Each order takes some bytes.
pub loop-order-smaller : goal.loop-order-smaller
loop-order-smaller g c =
    let so = c.loop-order.invariant in
    let read = c.in-Ok-Some.ensures in
    let long = ap length (read.file ∙ so.0) in
    omega (arith, taken_some _ _ (sym (ap (λ o. answered (Ok o)) c.in-Ok-Some.field-0-is) ∙ read.read), read.place, long, c.next_order.new.self.within)

-- One order more was read, carried out and told.
pub loop-order-preserved : goal.loop-order-preserved
loop-order-preserved g c =
    let so = c.loop-order.invariant in
    let read = c.in-Ok-Some.ensures in
    let carried = subst (λ (at : ℕ). Carried (c.loop-order.orders + 1) at (view c.loop-order.book) c.in-Ok-Some.order c.carry_out.result (view c.carry_out.new.book)) c.place-at.ensures c.carry_out.ensures in
    (read.file ∙ so.0, told_more _ _ so.1 so.0 (view c.carry_out.new.book) c.carry_out.result c.in-Ok-Some.order (sym (ap (λ o. answered (Ok o)) c.in-Ok-Some.field-0-is) ∙ read.read) read.place carried c.in_ok-put-in-Ok-Some.ensures)

-- The last line was told.
pub returns : goal.returns
returns g c =
    let so = c.loop-order.invariant in
    let fault = c.match-next_order.fault in
    let got : Err fault ≡ ordered (read orders (drop c.loop-order.reader.place c.loop-order.reader.file.now)) =
    elim c.match-next_order.branch [ in-Ok-None w ↦ ap (λ f. Err f) w.fault-is ∙ sym (ap (λ o. answered (Ok o)) w.in-Ok-None.field-0-is) ∙ w.in-Ok-None.ensures.read | in-Err w ↦ ap (λ f. Err f) w.fault-is ∙ w.in-Err.ensures.read ] in
    let stays : c.place.result ≡ c.loop-order.reader.place = omega (arith, c.place.ensures, c.next_order.ensures.place, taken_none _ _ got) in
    let line : c.last_line.result ≡ last_line c.loop-order.orders c.loop-order.reader.place fault = c.last_line.ensures ∙ ap (λ (at : ℕ). last_line c.loop-order.orders at fault) stays in
    told_all _ _ so.1 so.0 _ fault got (c.in_ok-put.ensures ∙ ap (λ (l : Line). string_bytes c.loop-order.text ++ ended l) line)
