use Rattle.std.proofs.Common.{◌≡◌, ◌+◌, [], ◌∷◌, ◌++◌, length, drop, Ok, Err, sym, ap, ◌∙◌, arith}
use Rattle.std.proofs.lemmas.List.{length_push}
use Rattle.orders.specs.Readings.{item, seen}
use Rattle.orders.specs.Records.{read, taken, orders}
use Rattle.orders.proofs.ReadAll.{joined_long, read_more, read_stopped, orders_apart}
use Rattle.orders.proofs.survey.Survey.of.Goals.{in-Ok-None, in-Err}
use Rattle.orders.proofs.survey.Survey.of.Goals as goal

-- There are at most half as many records as bytes.
pub overflow_add-records : goal.overflow_add-records
overflow_add-records c =
    let so = c.loop-records.invariant.1 in
    omega (arith, joined_long so.0, so.1.long, so.2, c.loop-records.reader.within, ap length c.loop-records.invariant.0)

-- The record that was read is one more.
pub loop-records-preserved : goal.loop-records-preserved
loop-records-preserved c =
    let so = c.loop-records.invariant.1 in
    let same = c.loop-records.invariant.0 in
    let told = c.in-Ok-Some.ensures in
    let record' = item c.in-Ok-Some.field-0-0 in
    let got = ap (λ r. seen (Ok r)) c.in-Ok-Some.field-0-is in (
      told.file ∙ same,
      (
        so.0 ++ record' ∷ [],
        read_more orders c.args.file.now so.1 same (sym got ∙ told.read) (told.place ∙ ap (λ r. c.loop-records.reader.place + taken r) got),
        omega (arith, so.2, length_push so.0 record'),
      ),
    )

-- Where the reader stops, its place is past the records that were read.
pub returns : goal.returns
returns c =
    let so = c.loop-records.invariant.1 in
    let same = c.loop-records.invariant.0 in
    let fault = c.match-next.fault in
    let told : Err fault ≡ read orders (drop c.loop-records.reader.place c.loop-records.reader.file.now) =
    elim c.match-next.branch [ in-Ok-None w ↦ ap (λ f. Err f) w.fault-is ∙ sym (ap (λ r. seen (Ok r)) w.in-Ok-None.field-0-is) ∙ w.in-Ok-None.ensures.read | in-Err w ↦ ap (λ f. Err f) w.fault-is ∙ w.in-Err.ensures.read ] in
    let stays : taken (seen c.next.result) ≡ 0 = ap (λ r. taken r) (c.next.ensures.read ∙ sym told) in (
      so.0,
      read_stopped orders c.args.file.now orders_apart so.1 same told,
      so.2,
      omega (arith, c.place.ensures, c.next.ensures.place, stays, so.1.long),
    )
