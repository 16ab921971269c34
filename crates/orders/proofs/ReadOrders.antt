-- From the reader's orders back to the records that ask for them.
use Rattle.std.proofs.Common.{◌≡◌, ℕ, List, Some, None, Ok, Err, Option, Result, sym, refl, ap, ◌∙◌, arith}
use Rattle.orders.specs.declared.kind.Kind.{Kind}
use Rattle.orders.specs.declared.order.Order.{Order}
use Rattle.orders.specs.Meanings.{Decoded, order, ordered}
use Rattle.orders.specs.Readings.{answered}
use Rattle.orders.specs.Records.{Stop, Item, read, orders}
use Rattle.orders.proofs.ReadOne.{read_front}

-- An order comes from a record that was read.
pub ordered_item : (r : Result (Item Kind) Stop) (o : Order) → Ok o ≡ ordered r → (i : Item Kind) × (Ok i ≡ r) × (o ≡ order i)
ordered_item (Ok i) o h = (i, refl, cc)
ordered_item (Err stop) o h = let z : ◌≡◌ {A = ℕ} 0 1 = cc in absurd (omega arith)

-- Orders stop where records do.
pub ordered_stop : (r : Result (Item Kind) Stop) (stop : Stop) → Err stop ≡ ordered r → Err stop ≡ r
ordered_stop (Ok i) stop h = let z : ◌≡◌ {A = ℕ} 0 1 = cc in absurd (omega arith)
ordered_stop (Err other) stop h = cc

-- The order of a record that was read: its body has the length of its kind.
pub order_read : (bs : List ℕ) (i : Item Kind) (o : Option Order) → Ok i ≡ read orders bs → Decoded i o → answered (Ok o) ≡ ordered (read orders bs)
order_read bs i (Some o) got is = ap (λ (x : Order). Ok x) is.1 ∙ ap ordered got
order_read bs i None got is = absurd (is (read_front orders bs i (sym got)).0.whole)
