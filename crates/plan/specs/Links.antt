-- The links that plans are drawn over.
use Rattle.std.specs.Prelude.{◌≡◌, ℕ, ◌%◌, ◌<◌, ◌≤◌, List, length, slice_index_or}
use Rattle.flow.specs.Ranges.{cabinets, most_links, most_slots}

module _ {X : Type 0} (low high capacity : X → ℕ) where
  -- the link joins two different cabinets, and has an even number of slots in range
  pub record Lawful (l : X) : Type 0 where
    pub low_in : low l < cabinets
    pub high_in : high l < cabinets
    pub apart : low l ≡ high l → ⊥
    pub even : capacity l % 2 ≡ 0
    pub bound : capacity l ≤ most_slots

  -- not too many links, each lawful
  pub record LawfulLinks (ls : List X) : Type 0 where
    pub few : length ls ≤ most_links
    pub each : (k : ℕ) (d : X) → k < length ls → Lawful (slice_index_or ls k d)
