-- The graphs that the grounds are.
use Rattle.std.specs.Prelude.{ℕ, List, ◌==◌, nat_lt, slice_index, slice_index_or}
use Rattle.search.specs.Graphs.{Graph}
use Rattle.search.specs.declared.links.Ends.{Ends}
use Rattle.grounds.specs.Nets.{none, mesh_at}

-- A step over a link is open, either way, while the link has slots.
abbrev pub slotted : List Ends → List ℕ → Graph
slotted links slots = record { mesh = mesh_at links; opens = λ c l. nat_lt 0 (slice_index slots l) }

-- A step over a link is open from its first end alone.
abbrev pub one_way : List Ends → Graph
one_way links = record { mesh = mesh_at links; opens = λ c l. ((slice_index_or links l none).first == c) }
