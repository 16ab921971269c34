-- What the records ask for.
use Rattle.std.specs.Prelude.{◌≡◌, ℕ, List, length, Some, None, Ok, Err, Option, Result}
use Rattle.orders.specs.declared.kind.Kind.{Kind}
use Rattle.orders.specs.declared.kind.Kind.TheVariants.{Lk, Sz, Dr, St, Pl}
use Rattle.orders.specs.declared.order.Order.{Order}
use Rattle.orders.specs.declared.order.Order.TheVariants.{Add, Resize, Drop, Name, Draw}
use Rattle.orders.specs.Records.{Item, Stop}
use Rattle.orders.specs.Values.{field}

-- The order that a body of this kind holds, each number at its place and in its width.
abbrev pub meaning : Kind → List ℕ → Order
meaning Lk body = Add (field 0 1 body) (field 1 1 body) (field 2 4 body)
meaning Sz body = Resize (field 0 2 body) (field 2 4 body)
meaning Dr body = Drop (field 0 2 body)
meaning St body = Name (record { source1 = field 0 1 body; goal1 = field 1 1 body; source2 = field 2 1 body; goal2 = field 3 1 body })
meaning Pl body = Draw

-- The order of a record in a file.
abbrev pub order : Item Kind → Order
order i = meaning i.entry.kind i.body

-- A record is taken for its order exactly if its body has its kind's length.
abbrev pub Decoded : Item Kind → Option Order → Type 0
Decoded i (Some o) = (length i.body ≡ i.entry.long) × (o ≡ order i)
Decoded i None = length i.body ≡ i.entry.long → ⊥

-- The kind of record that asks for an order.
abbrev pub asked : Order → Kind
asked (Add one other slots) = Lk
asked (Resize link slots) = Sz
asked (Drop link) = Dr
asked (Name pairs) = St
asked Draw = Pl

-- What was read, with the order for the record.
abbrev pub ordered : Result (Item Kind) Stop → Result Order Stop
ordered (Ok i) = Ok (order i)
ordered (Err stop) = Err stop
