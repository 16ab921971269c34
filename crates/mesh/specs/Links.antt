-- Rows of the book's list, and the rule that every link keeps.
use Rattle.std.specs.Prelude.{◌≡◌, ℕ, ◌%◌, ◌<◌, ◌≤◌, min, max, Bool, not, ◌||◌, ◌==◌, nat_lt}
use Rattle.mesh.specs.declared.row.Row.{Row}

-- the row between two cabinets, the lower first
abbrev pub between : ℕ → ℕ → ℕ → Row
between a b n = record { low = min a b; high = max a b; slots = n }

-- what a place past the end of the list reads as
abbrev pub blank : Row
blank = record { low = 0; high = 0; slots = 0 }

-- the rule of a link: its lower cabinet first, both below 64, and an even number of slots up to 1,048,576
abbrev pub KeepsRule : Row → Type 0
KeepsRule r = (r.low < r.high) × (r.high < 64) × (r.slots % 2 ≡ 0) × (r.slots ≤ 1048576)

-- slots that no link can have: odd, or too many
abbrev pub bad_slots : ℕ → Bool
bad_slots n = not (n % 2 == 0) || nat_lt 1048576 n

-- a link's lower cabinet
abbrev pub low_of : Row → ℕ
low_of r = r.low

-- a link's higher cabinet
abbrev pub high_of : Row → ℕ
high_of r = r.high

-- a link's slots
abbrev pub capacity_of : Row → ℕ
capacity_of r = r.slots
