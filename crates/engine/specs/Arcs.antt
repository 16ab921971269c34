-- The links of a job, and the ranges of its numbers.
use Rattle.std.specs.Prelude.{ℕ, ◌<◌, ◌≤◌, List, length, ◌≢◌, slice_index_or}
use Rattle.flow.specs.declared.taps.Taps.{Taps}
use Rattle.flow.specs.Ranges.{cabinets, most_links, most_limit, most_fed}
use Rattle.flow.specs.Answers.{Placed}
use Rattle.engine.specs.declared.arc.Arc.{Arc}

-- what stands where a list has no link
abbrev pub blank : Arc
blank = record { tail = 0; head = 0; limit = 0 }

-- the cabinet that a link leads from
abbrev pub tail_of : Arc → ℕ
tail_of l = l.tail

-- the cabinet that it leads to
abbrev pub head_of : Arc → ℕ
head_of l = l.head

-- how much it can carry, either way
abbrev pub limit_of : Arc → ℕ
limit_of l = l.limit

-- the link joins two different cabinets, and its limit is in range
abbrev pub Sound : Arc → Type 0
Sound l = (l.tail < cabinets) × (l.head < cabinets) × (l.tail ≢ l.head) × (l.limit ≤ most_limit)

-- every link is sound
abbrev pub AllSound : List Arc → Type 0
AllSound ls = (k : ℕ) (d : Arc) → k < length ls → Sound (slice_index_or ls k d)

-- all four limits are in range
abbrev pub Limited : Taps ℕ → Type 0
Limited most = (most.feed1 ≤ most_fed) × (most.feed2 ≤ most_fed) × (most.drain1 ≤ most_fed) × (most.drain2 ≤ most_fed)

-- a job may be made of these numbers
pub record Fits (ls : List Arc) (at most : Taps ℕ) : Type 0 where
  pub few : length ls ≤ most_links
  pub sound : AllSound ls
  pub placed : Placed cabinets at
  pub limited : Limited most
