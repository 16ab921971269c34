-- What an `Incidence` holds, by the struct.
use Rattle.std.specs.Prelude.{◌≡◌, ℕ, ◌<◌, List}
use Rattle.search.specs.Graphs.{Mesh, incident}
use Rattle.search.specs.Rows.{row}
use Rattle.search.specs.declared.incidence.Incidence.{Incidence}

-- The row of the cabinet v.
abbrev pub row_of : Incidence → ℕ → List ℕ
row_of i v = row i.starts i.entries v

-- The index is that of the mesh: each cabinet's row holds exactly the links that touch it, in ascending order.
abbrev pub IndexOf : Incidence → Mesh → Type 0
IndexOf i m = (v : ℕ) → v < 64 → row_of i v ≡ incident m v
