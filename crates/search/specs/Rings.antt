-- What a queue holds, and what a push, a pop and a look do to it.
use Rattle.std.specs.Prelude.{◌≡◌, ℕ, ◌+◌, ◌-◌, ◌<◌, Bool, true, false, if◌then◌else◌, List, [], ◌∷◌, ◌++◌, length, take, drop, Some, None, Option, ◌==◌, nat_lt, slice_set}

module _ {T : Type 0} where
  -- The items, front first: the `len` places from `head` on, going on from place 0 where they pass the end.
  abbrev pub held : List T → ℕ → ℕ → List T
  held places head len = take len (drop head places ++ places)

  -- The place behind the last item: `len` places after `head`, counted round the end.
  abbrev pub behind : List T → ℕ → ℕ → ℕ
  behind places head len = (if nat_lt len (length places - head) then head + len else len - (length places - head))

  -- The place after the head, place 0 where that was the last.
  abbrev pub after : List T → ℕ → ℕ
  after places head = (if head + 1 == length places then 0 else head + 1)

  -- A push answers true, and the item is the new last one; or false where the queue is full, and nothing changes.
  abbrev pub Pushed : List T → T → Bool → List T → ℕ → Type 0
  Pushed before item true now' room = (now' ≡ before ++ (item ∷ [])) × (length before < room)
  Pushed before item false now' room = (now' ≡ before) × (length before ≡ room)

  -- A push writes the one place behind the last item, and none where it is refused.
  abbrev pub Written : List T → ℕ → ℕ → T → Bool → List T → Type 0
  Written places head len item true now' = now' ≡ slice_set places (behind places head len) item
  Written places head len item false now' = now' ≡ places

  -- A pop answers the first item, and the others stay; or none where there was none.
  abbrev pub Popped : List T → Option T → List T → Type 0
  Popped before None now' = (before ≡ []) × (now' ≡ [])
  Popped before (Some x) now' = before ≡ x ∷ now'

  -- A look answers the first item, which stays; or none where there is none.
  abbrev pub Fronted : List T → Option T → Type 0
  Fronted before None = before ≡ []
  Fronted before (Some x) = before ≡ x ∷ drop 1 before
