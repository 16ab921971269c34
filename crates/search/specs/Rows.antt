-- The index of incident links: a list of starts, one for each cabinet and one more, and a list of entries.
use Rattle.std.specs.Prelude.{◌≡◌, ℕ, ◌+◌, ◌<◌, ◌≤◌, List, length, slice_index, slice_index_or, slice_set}
use Rattle.std.specs.List.{between}
use Rattle.search.specs.Graphs.{Mesh, incident}

-- The row of the cabinet v: the entries from its start up to the next one's.
abbrev pub row : List ℕ → List ℕ → ℕ → List ℕ
row starts entries v = between (slice_index starts v) (slice_index starts (v + 1)) entries

-- Each cabinet's row holds exactly the links that touch it, each once, in ascending order.
abbrev pub Indexes : List ℕ → List ℕ → Mesh → Type 0
Indexes starts entries m = (v : ℕ) → v < 64 → row starts entries v ≡ incident m v

-- The count at each cabinet is that of the links that touch it.
abbrev pub Counts : List ℕ → Mesh → Type 0
Counts counts m = (v : ℕ) → v < 64 → slice_index counts v ≡ length (incident m v)

-- The list with one more at the place a.
abbrev pub bumped : List ℕ → ℕ → List ℕ
bumped xs a = slice_set xs a (slice_index xs a + 1)

-- Each row's start leaves room for the rows before it, and all rows end within the entries.
pub record Starts (starts : List ℕ) (m : Mesh) : Type 0 where
  pub room : (v : ℕ) → v < 64 → slice_index starts (v + 1) ≡ slice_index starts v + length (incident m v)
  pub end : slice_index_or starts 64 0 ≤ 1024
