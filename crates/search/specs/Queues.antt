-- What a `Queue` holds, by the struct.
use Rattle.std.specs.Prelude.{ℕ, List, length}
use Rattle.search.specs.Rings.{held}
use Rattle.search.specs.declared.queue.Queue.{Queue}

module _ {T : Type 0} where
  -- The items, front first.
  abbrev pub items : Queue T → List T
  items q = held q.places.now q.head q.len

  -- How many items there is place for.
  abbrev pub room : Queue T → ℕ
  room q = length q.places.now
