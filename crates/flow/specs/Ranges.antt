-- The ranges of meshes and jobs.
use Rattle.std.specs.Prelude.{ℕ}

-- cabinets are numbered from 0 and stay below this
abbrev pub cabinets : ℕ
cabinets = 64

-- a mesh has at most so many links
abbrev pub most_links : ℕ
most_links = 512

-- a link has at most so many slots
abbrev pub most_slots : ℕ
most_slots = 1048576

-- a link of a job has at most this limit
abbrev pub most_limit : ℕ
most_limit = 524288

-- a feed or a drain has at most this limit, which is more than all links of a job can carry
abbrev pub most_fed : ℕ
most_fed = 536870912
