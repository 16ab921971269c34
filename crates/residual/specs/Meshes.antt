-- The residual network: what a flow leaves free on the links of a job.
use Rattle.std.specs.Prelude.{ℕ, Bool, if◌then◌else◌, List, ℤ, pos, ◌-ℤ◌, neg_ℤ, ◌==◌, nat_le, slice_index_or, unsigned_abs}
use Rattle.search.specs.Graphs.{Mesh, mesh_by, Graph}
use Rattle.engine.specs.declared.arc.Arc.{Arc}
use Rattle.engine.specs.Arcs.{blank, tail_of, head_of}

-- the mesh of a job's links
abbrev pub mesh_of : List Arc → Mesh
mesh_of ls = mesh_by tail_of head_of blank ls

-- the step from the cabinet u over the link l goes from tail to head
abbrev pub ahead : List Arc → ℕ → ℕ → Bool
ahead ls u l = (slice_index_or ls l blank).tail == u

-- f as it counts in the direction of a step
abbrev pub toward : Bool → ℤ → ℤ
toward b f = (if b then f else neg_ℤ f)

-- what a link with a limit and a flow f within it has left in the direction of a step
abbrev pub room_on : ℕ → ℤ → Bool → ℕ
room_on limit f b = unsigned_abs (pos limit -ℤ toward b f)

-- how much more can go from the cabinet u over the link l
abbrev pub free : List Arc → List ℤ → ℕ → ℕ → ℕ
free ls fs u l = room_on (slice_index_or ls l blank).limit (slice_index_or fs l (pos 0)) (ahead ls u l)

-- the steps over which x more can go
abbrev pub residual : List Arc → List ℤ → ℕ → Graph
residual ls fs x = record { mesh = mesh_of ls; opens = λ u l. nat_le x (free ls fs u l) }
