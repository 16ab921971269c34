-- The mesh of a list of pairs of ends.
use Rattle.std.specs.Prelude.{ℕ, ◌<◌, List, ◌≢◌, slice_index_or}
use Rattle.search.specs.Graphs.{Mesh, mesh_by}
use Rattle.search.specs.declared.links.Ends.{Ends}

-- What stands where there is no link.
abbrev pub none : Ends
none = record { first = 0; second = 0 }

-- The mesh of the links.
abbrev pub mesh_at : List Ends → Mesh
mesh_at links = mesh_by (λ (e : Ends). e.first) (λ (e : Ends). e.second) none links

-- Each of the first n links joins two different cabinets below 64.
abbrev pub Sound : List Ends → ℕ → Type 0
Sound links n = (l : ℕ) → l < n → ((slice_index_or links l none).first < 64) × ((slice_index_or links l none).second < 64) × ((slice_index_or links l none).first ≢ (slice_index_or links l none).second)
