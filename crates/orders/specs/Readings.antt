-- The reader's answers as the definitions on lists of bytes have them.
use Rattle.std.specs.Prelude.{◌≡◌, ℕ, List, [], Some, None, Ok, Err, Option, Result, MatchResult, slice_index}
use Rattle.orders.specs.declared.kind.Kind.{Kind}
use Rattle.orders.specs.declared.kind.Kind.TheVariants as kinds
use Rattle.orders.specs.declared.record.Record.{Record}
use Rattle.orders.specs.declared.record.Record.TheVariants.{Lk, Sz, Dr, St, Pl}
use Rattle.orders.specs.declared.record.RecordFault.{RecordFault}
use Rattle.orders.specs.declared.record.RecordFault.TheVariants.{Unknown}
use Rattle.orders.specs.Records.{Item, Stop, entry, lookup, orders}

-- A record's line of the table and the bytes of its body.
abbrev pub item : Record → Item Kind
item (Lk b) = record { entry = entry kinds.Lk; body = b.now }
item (Sz b) = record { entry = entry kinds.Sz; body = b.now }
item (Dr b) = record { entry = entry kinds.Dr; body = b.now }
item (St b) = record { entry = entry kinds.St; body = b.now }
item Pl = record { entry = entry kinds.Pl; body = [] }

-- What a call of the reader gave, or why it gave none.
abbrev pub answered : {A : Type 0} → Result (Option A) RecordFault → Result A Stop
answered (Ok (Some x)) = Ok x
answered (Ok None) = Err None
answered (Err fault) = Err (Some fault)

-- The record that a call of the reader gave, with the bytes for the part of the file.
abbrev pub seen : Result (Option Record) RecordFault → Result (Item Kind) Stop
seen (Ok (Some r)) = Ok (item r)
seen (Ok None) = Err None
seen (Err fault) = Err (Some fault)

-- The result is the kind with this mark, or the fault of a mark that no kind has.
abbrev pub Marked : List ℕ → Result Kind RecordFault → Type 0
Marked mark r = MatchResult r (λ kind. lookup orders (slice_index mark 0) (slice_index mark 1) ≡ Some (entry kind)) (λ fault. (fault ≡ Unknown) × (lookup orders (slice_index mark 0) (slice_index mark 1) ≡ None))
