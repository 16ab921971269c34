-- Routes: paths over one stream's shares in their direction.
use Rattle.std.specs.Prelude.{◌≡◌, ℕ, ◌<◌, Bool, ◌&&◌, ◌||◌, List, length, take, drop, ℤ, pos, Some, None, Option, ◌==◌, int_lt, slice_index_or}
use Rattle.search.specs.Graphs.{Mesh, mesh_by, Graph}
use Rattle.search.specs.Paths.{SimplePath, Unreachable}
use Rattle.mesh.specs.declared.row.Row.{Row}
use Rattle.mesh.specs.Links.{blank, low_of, high_of, KeepsRule}

-- every link keeps the rule of a link
abbrev pub AllRuled : List Row → Type 0
AllRuled links = (k : ℕ) → k < length links → KeepsRule (slice_index_or links k blank)

-- the mesh of the links
abbrev pub mesh_of : List Row → Mesh
mesh_of links = mesh_by low_of high_of blank links

-- a link's share runs out of the cabinet u over it: a positive share out of the lower cabinet, a negative one out of the higher
abbrev pub runs_out : Row → ℤ → ℕ → Bool
runs_out link share u = (link.low == u && int_lt (pos 0) share) || (link.high == u && int_lt share (pos 0))

-- the steps along which the shares run
abbrev pub CarriedBy : List Row → List ℤ → Graph
CarriedBy links shares = record { mesh = mesh_of links; opens = λ u l. runs_out (slice_index_or links l blank) (slice_index_or shares l (pos 0)) u }

-- a route of n links was told, which stand at the front of the caller's list with the later places unchanged; or none, as the shares hold no path, and the list is unchanged
abbrev pub RouteTold : Graph → ℕ → ℕ → List ℕ → List ℕ → Option ℕ → Type 0
RouteTold g source goal list list' (Some n) = SimplePath g source (take n list') goal × (n < 64) × (drop n list' ≡ drop n list)
RouteTold g source goal list list' None = Unreachable g source goal × (list' ≡ list)
