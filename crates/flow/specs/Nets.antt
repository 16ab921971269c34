-- A mesh is a list of links of any type X with two ends, the cabinets `low` and `high`.
-- A flow, or the shares of a stream, is a list of whole numbers, one for each link in turn, positive from `low` to `high`; what is missing at its end counts as 0.
-- A side is a set of cabinets, `ℕ → Bool`.
use Rattle.std.specs.Prelude.{ℕ, zero, suc, ◌+◌, ◌<◌, Bool, true, false, not, List, [], ◌∷◌, length, drop, ℤ, pos, ◌+ℤ◌, ◌-ℤ◌, nat_eq, slice_index_or, if◌then◌else◌}
use Rattle.std.specs.Bool.{beq}

-- z if the test passes, else 0
abbrev pub only : Bool → ℤ → ℤ
only true z = z
only false z = pos 0

-- exactly one of the two
abbrev pub xor : Bool → Bool → Bool
xor a b = not (beq a b)

-- what the first link carries
abbrev pub here : List ℤ → ℤ
here fs = slice_index_or fs 0 (pos 0)

-- what the links after the first carry
abbrev pub after : List ℤ → List ℤ
after fs = drop 1 fs

-- the side that a list gives, which says yes or no for each cabinet in turn
abbrev pub members : List Bool → ℕ → Bool
members xs v = slice_index_or xs v false

-- g 0 + … + g (n - 1)
unfoldable pub sum_below : (ℕ → ℤ) → ℕ → ℤ
sum_below g zero = pos 0
sum_below g (suc n) = sum_below g n +ℤ g n

-- the numbers of all links added
abbrev pub total : {X : Type 0} → (X → ℕ) → List X → ℕ
total capacity [] = 0
total capacity (l ∷ ls) = capacity l + total capacity ls

module _ {X : Type 0} (low high : X → ℕ) where
  -- what leaves a set of cabinets minus what enters it
  abbrev pub leaving : (ℕ → Bool) → List X → List ℤ → ℤ
  leaving S [] fs = pos 0
  leaving S (l ∷ ls) fs = (only (S (low l)) (here fs) -ℤ only (S (high l)) (here fs)) +ℤ leaving S ls (after fs)

  -- what leaves the cabinet v minus what enters it
  abbrev pub net : List X → List ℤ → ℕ → ℤ
  net ls fs v = leaving (λ u. nat_eq u v) ls fs

  -- just one end of the link is in the side
  abbrev pub crosses : (ℕ → Bool) → X → Bool
  crosses S l = xor (S (low l)) (S (high l))

  -- the slots of a side: those of all links with just one end in it
  abbrev pub side_slots : (X → ℕ) → (ℕ → Bool) → List X → ℕ
  side_slots capacity S [] = 0
  side_slots capacity S (l ∷ ls) = (if crosses S l then capacity l else 0) + side_slots capacity S ls

  -- both ends of every link are cabinets below n
  abbrev pub Inside : ℕ → List X → Type 0
  Inside n ls = (k : ℕ) (d : X) → k < length ls → (low (slice_index_or ls k d) < n) × (high (slice_index_or ls k d) < n)
