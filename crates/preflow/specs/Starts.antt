-- The preflow to start from: all that the feeds let in stands at their cabinets, and heights are distances to the drains.
use Rattle.std.specs.Prelude.{◌≡◌, ℕ, ◌+◌, ◌<◌, ◌≤◌, if◌then◌else◌, ◌⊎◌, List, [], replicate, ℤ, pos, nat_lt, slice_index, slice_index_or}
use Rattle.flow.specs.declared.taps.Taps.{Taps}
use Rattle.flow.specs.Ranges.{cabinets}
use Rattle.search.specs.Graphs.{Step, across}
use Rattle.engine.specs.declared.arc.Arc.{Arc}
use Rattle.residual.specs.Meshes.{mesh_of, residual}
use Rattle.preflow.specs.Heights.{high}
use Rattle.preflow.specs.Sends.{given}
use Rattle.preflow.specs.Waits.{times}

-- the feeds at their limits, nothing drained
abbrev pub begun : Taps ℕ → Taps ℕ
begun most = record { feed1 = most.feed1; feed2 = most.feed2; drain1 = 0; drain2 = 0 }

-- what is fed, at the cabinets of the feeds
abbrev pub filled : (at most : Taps ℕ) → List ℕ
filled at most = given (given (replicate 64 0) at.feed1 most.feed1) at.feed2 most.feed2

-- nothing flows over the first n links
abbrev pub Still : ℕ → List ℤ → Type 0
Still n fs = (k : ℕ) → k < n → slice_index_or fs k (pos 0) ≡ pos 0

-- of the cabinets below n those with an excess wait once, and no other does
abbrev pub Lined : List ℕ → ℕ → List ℕ → Type 0
Lined ex n qs = (v : ℕ) → times v qs ≡ (if nat_lt v n then (if nat_lt 0 (slice_index ex v) then 1 else 0) else 0)

-- each step into the cabinet x that is open before anything flows comes from the height m at most
abbrev pub Into : List Arc → List ℕ → (x m : ℕ) → Type 0
Into ls hs x m = (u l : ℕ) → Step (residual ls [] 1) u l → across (mesh_of ls) u l ≡ x → high hs u ≤ m

-- some heights above k are lowered to k, and the others stay
abbrev pub Lowered : ℕ → (hs after : List ℕ) → Type 0
Lowered k hs after = (w : ℕ) → w < cabinets → (high after w ≡ high hs w) ⊎ ((high after w ≡ k) × (k < high hs w))

-- the steps into the cabinets below the level d come from one above them at most; what stands above d stands at 67, and drains stand at 1
pub record Settled (ls : List Arc) (at most : Taps ℕ) (hs : List ℕ) (d : ℕ) : Type 0 where
  pub top : (w : ℕ) → w < cabinets → high hs w ≤ 67
  pub far : (w : ℕ) → w < cabinets → d < high hs w → high hs w ≡ 67
  pub into : (x : ℕ) → x < cabinets → high hs x < d → Into ls hs x (high hs x + 1)
  pub drain1 : 0 < most.drain1 → high hs at.drain1 ≤ 1
  pub drain2 : 0 < most.drain2 → high hs at.drain2 ≤ 1

-- before anything flows no open step goes down by more than one, and a drain that can take something stands at 1
pub record Distances (ls : List Arc) (at most : Taps ℕ) (hs : List ℕ) : Type 0 where
  pub top : (w : ℕ) → w < cabinets → high hs w ≤ 67
  pub over : (u l : ℕ) → Step (residual ls [] 1) u l → high hs u ≤ high hs (across (mesh_of ls) u l) + 1
  pub drain1 : 0 < most.drain1 → high hs at.drain1 ≤ 1
  pub drain2 : 0 < most.drain2 → high hs at.drain2 ≤ 1
