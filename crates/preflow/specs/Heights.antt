-- Heights of the cabinets. The outer source, from which the feeds come, stands at 66, and the outer sink, to which the drains go, at 0.
use Rattle.std.specs.Prelude.{◌≡◌, ℕ, ◌+◌, ◌<◌, ◌≤◌, max, if◌then◌else◌, ◌⊎◌, List, ℤ, ◌≢◌, nat_lt, slice_index, slice_set}
use Rattle.flow.specs.declared.taps.Taps.{Taps}
use Rattle.flow.specs.Ranges.{cabinets}
use Rattle.search.specs.Graphs.{Step, across}
use Rattle.engine.specs.declared.arc.Arc.{Arc}
use Rattle.residual.specs.Meshes.{mesh_of, residual}

-- the height of the cabinet v
abbrev pub high : List ℕ → ℕ → ℕ
high hs v = slice_index hs v

-- no height reaches this: twice the 66 places (the 64 cabinets and the two outer ends), less one
abbrev pub most_height : ℕ
most_height = 131

-- each cabinet stands below the height that none reaches
abbrev pub Low : List ℕ → Type 0
Low hs = (w : ℕ) → w < cabinets → high hs w < most_height

-- a feed with an amount can take it back, down to 66, and one below its limit can give more, down from 66
abbrev pub ValidFeed : (at most amount : ℕ) → List ℕ → Type 0
ValidFeed at most amount hs = (0 < amount → high hs at ≤ 67) × (amount < most → 66 ≤ high hs at + 1)

-- a drain below its limit can take more, down to 0
abbrev pub ValidDrain : (at most amount : ℕ) → List ℕ → Type 0
ValidDrain at most amount hs = amount < most → high hs at ≤ 1

-- no open step goes down by more than one
pub record Valid (ls : List Arc) (at most amount : Taps ℕ) (fs : List ℤ) (hs : List ℕ) : Type 0 where
  pub over : (u l : ℕ) → Step (residual ls fs 1) u l → high hs u ≤ high hs (across (mesh_of ls) u l) + 1
  pub feed1 : ValidFeed at.feed1 most.feed1 amount.feed1 hs
  pub feed2 : ValidFeed at.feed2 most.feed2 amount.feed2 hs
  pub drain1 : ValidDrain at.drain1 most.drain1 amount.drain1 hs
  pub drain2 : ValidDrain at.drain2 most.drain2 amount.drain2 hs

-- no cabinet stands at the level k
abbrev pub Empty : List ℕ → ℕ → Type 0
Empty hs k = (w : ℕ) → w < cabinets → high hs w ≢ k

-- a height above the level k is raised to 67 at least
abbrev pub over_top : ℕ → ℕ → ℕ
over_top k h = (if nat_lt k h then max h 67 else h)

-- every cabinet above the level k is raised to 67 at least, and the others stay
abbrev pub Raised : ℕ → (hs after : List ℕ) → Type 0
Raised k hs after = (w : ℕ) → w < cabinets → high after w ≡ over_top k (high hs w)

-- the cabinet v is lifted to m; and then all above some empty level from 1 on may be raised to 67 at least
abbrev pub Relabeled : List ℕ → (v m : ℕ) → List ℕ → Type 0
Relabeled hs v m after = (after ≡ slice_set hs v m) ⊎ ((k : ℕ) × (1 ≤ k) × Empty (slice_set hs v m) k × Raised k (slice_set hs v m) after)
