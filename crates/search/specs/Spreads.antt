-- What a search keeps while it spreads.
use Rattle.std.specs.Prelude.{◌≡◌, ℕ, zero, suc, ◌+◌, ◌<◌, ◌≤◌, Bool, true, false, if◌then◌else◌, ◌⊎◌, List, [], ◌∷◌, ◌++◌, length, Option, Some, None, is_some, is_none, count_by, slice_index_or, slice_set}
use Rattle.std.specs.List.{AllByRecursion}
use Rattle.search.specs.Graphs.{Graph, Step, across}
use Rattle.search.specs.declared.marks.Mark.{Mark}
use Rattle.search.specs.declared.marks.Arrival.{Arrival}

-- The mark of the start.
abbrev pub root : ℕ → Mark
root start = record { level = 0; from = start; over = 0 }

-- The mark of the cabinet c, if it was reached.
abbrev pub mark : List (Option Mark) → ℕ → Option Mark
mark ms c = slice_index_or ms c None

-- The cabinet c was reached.
abbrev pub reached : List (Option Mark) → ℕ → Bool
reached ms c = is_some (mark ms c)

-- After how many links a marked cabinet was reached.
abbrev pub level_of : Option Mark → ℕ
level_of (Some m) = m.level
level_of None = 0

-- The cabinet that a marked cabinet was reached from.
abbrev pub from_of : Option Mark → ℕ
from_of (Some m) = m.from
from_of None = 0

-- The link over which a marked cabinet was reached.
abbrev pub over_of : Option Mark → ℕ
over_of (Some m) = m.over
over_of None = 0

-- The mark of a cabinet that is reached from c over l.
abbrev pub arrived : List (Option Mark) → ℕ → ℕ → Mark
arrived ms c l = record { level = level_of (mark ms c) + 1; from = c; over = l }

-- The arrival in c over l.
abbrev pub come : ℕ → ℕ → Arrival
come c l = record { cabinet = c; link = l }

-- The marks once the step from u over l was offered: its far end is marked if it is new and the step is open.
abbrev pub offered : Graph → List (Option Mark) → ℕ → ℕ → List (Option Mark)
offered g ms u l = (if reached ms (across g.mesh u l) then ms else (if g.opens u l then slice_set ms (across g.mesh u l) (Some (arrived ms u l)) else ms))

-- What waits once that step was offered: a new far end is queued.
abbrev pub queued : Graph → List (Option Mark) → List Arrival → ℕ → ℕ → List Arrival
queued g ms qs u l = (if reached ms (across g.mesh u l) then qs else (if g.opens u l then qs ++ (come (across g.mesh u l) l ∷ []) else qs))

-- How many cabinets are not reached yet.
abbrev pub unreached : List (Option Mark) → ℕ
unreached ms = count_by is_none ms

-- The links of the last k steps to the cabinet c, by the marks.
abbrev pub chain : List (Option Mark) → ℕ → ℕ → List ℕ
chain ms c zero = []
chain ms c (suc k) = chain ms (from_of (mark ms c)) k ++ (over_of (mark ms c) ∷ [])

-- The mark m of the cabinet c is that of an open step from a reached cabinet, one level below.
pub record Stepped (g : Graph) (ms : List (Option Mark)) (c : ℕ) (m : Option Mark) : Type 0 where
  pub known : reached ms (from_of m) ≡ true
  pub step : Step g (from_of m) (over_of m)
  pub leads : across g.mesh (from_of m) (over_of m) ≡ c
  pub next : level_of (mark ms (from_of m)) + 1 ≡ level_of m

-- The marks are a tree from the start: each reached cabinet is the start, or was reached by an open step.
pub record Tree (g : Graph) (start : ℕ) (ms : List (Option Mark)) : Type 0 where
  pub long : length ms ≡ 64
  pub near : (c : ℕ) → c < 64 → from_of (mark ms c) < 64
  pub begins : reached ms start ≡ true
  pub comes : (c : ℕ) → c < 64 → reached ms c ≡ true → ((c ≡ start) × (level_of (mark ms c) ≡ 0)) ⊎ Stepped g ms c (mark ms c)
  pub low : (c : ℕ) → c < 64 → reached ms c ≡ true → level_of (mark ms c) + unreached ms < 64

-- The cabinet c waits in the queue.
abbrev pub Waits : List Arrival → ℕ → Type 0
Waits [] c = ⊥
Waits (a ∷ rest) c = (a.cabinet ≡ c) ⊎ Waits rest c

-- The step from c over l, if it is open, leads to a reached cabinet.
abbrev pub Taken : Graph → List (Option Mark) → ℕ → ℕ → Type 0
Taken g ms c l = Step g c l → reached ms (across g.mesh c l) ≡ true

-- Each open step from c leads to a reached cabinet.
abbrev pub Closed : Graph → List (Option Mark) → ℕ → Type 0
Closed g ms c = (l : ℕ) → Taken g ms c l

-- The marks are a tree, what waits is reached, and there is place for all that may yet come.
pub record Spread (g : Graph) (start : ℕ) (ms : List (Option Mark)) (qs : List Arrival) : Type 0 where
  pub tree : Tree g start ms
  pub waiting : AllByRecursion (λ a. (a.cabinet < 64) × (reached ms a.cabinet ≡ true)) qs
  pub places : unreached ms + length qs ≤ 64

-- The steps from the cabinet `at` are being taken, and those over the links `done` have been.
pub record Leaving (g : Graph) (start : ℕ) (ms : List (Option Mark)) (qs : List Arrival) (at : ℕ) (done : List ℕ) : Type 0 where
  pub inside : at < 64
  pub known : reached ms at ≡ true
  pub spread : Spread g start ms qs
  pub settled : (c : ℕ) → c < 64 → reached ms c ≡ true → (Waits qs c ⊎ Closed g ms c) ⊎ (c ≡ at)
  pub taken : AllByRecursion (Taken g ms at) done

-- Between two cabinets: each reached cabinet waits, or has been left by all its open steps.
pub record Resting (g : Graph) (start : ℕ) (ms : List (Option Mark)) (qs : List Arrival) : Type 0 where
  pub spread : Spread g start ms qs
  pub settled : (c : ℕ) → c < 64 → reached ms c ≡ true → Waits qs c ⊎ Closed g ms c

-- The search has ended: the goal was reached, or no open step leaves what was.
pub record Ended (g : Graph) (start goal : ℕ) (ms : List (Option Mark)) : Type 0 where
  pub tree : Tree g start ms
  pub closed : reached ms goal ≡ false → (c : ℕ) → c < 64 → reached ms c ≡ true → Closed g ms c

-- `side` tells which cabinets were reached.
abbrev pub Told : List (Option Mark) → List Bool → Type 0
Told ms side = (c : ℕ) → c < 64 → slice_index_or side c false ≡ reached ms c
