-- Which cabinets wait in the queue, and how it changes.
use Rattle.std.specs.Prelude.{◌≡◌, ℕ, ◌+◌, if◌then◌else◌, List, [], ◌∷◌, ◌++◌, drop, Some, None, Option, ◌==◌, nat_lt, slice_index}

-- how often v waits
abbrev pub times : ℕ → List ℕ → ℕ
times v [] = 0
times v (q ∷ qs) = (if q == v then 1 else 0) + times v qs

-- each cabinet with an excess waits once, and no other does
abbrev pub Queued : List ℕ → List ℕ → Type 0
Queued ex qs = (v : ℕ) → times v qs ≡ (if nat_lt 0 (slice_index ex v) then 1 else 0)

-- a cabinet whose whole excess has just come waits last
abbrev pub arrived : List ℕ → ℕ → Option ℕ → List ℕ → List ℕ
arrived ex by (Some w) qs = (if slice_index ex w == by then qs ++ w ∷ [] else qs)
arrived ex by None qs = qs

-- the first one leaves where it has no more excess
abbrev pub parted : List ℕ → ℕ → List ℕ → List ℕ
parted ex v qs = (if slice_index ex v == 0 then drop 1 qs else qs)

-- the queue after a push of `by` from v
abbrev pub settled : List ℕ → (v by : ℕ) → Option ℕ → List ℕ → List ℕ
settled ex v by to qs = parted ex v (arrived ex by to qs)
