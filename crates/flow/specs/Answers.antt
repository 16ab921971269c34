-- What an engine's answer to a job means: a flow over links of any type with two feeds and two drains.
use Rattle.std.specs.Prelude.{◌≡◌, ℕ, ◌+◌, ◌<◌, ◌≤◌, Bool, List, length, ℤ, pos, ◌+ℤ◌, ◌-ℤ◌, nat_eq, slice_index_or, unsigned_abs, if◌then◌else◌}
use Rattle.flow.specs.declared.taps.Taps.{Taps}
use Rattle.flow.specs.Nets.{only, members, net, side_slots}

-- each of the four numbers stands in the relation to its partner
abbrev pub Each : (ℕ → ℕ → Type 0) → Taps ℕ → Taps ℕ → Type 0
Each R x y = R x.feed1 y.feed1 × R x.feed2 y.feed2 × R x.drain1 y.drain1 × R x.drain2 y.drain2

-- all four are cabinets below n
abbrev pub Placed : ℕ → Taps ℕ → Type 0
Placed n at = (at.feed1 < n) × (at.feed2 < n) × (at.drain1 < n) × (at.drain2 < n)

-- no flow exceeds its link's limit in size
abbrev pub Within : {X : Type 0} → (X → ℕ) → List X → List ℤ → Type 0
Within {X} limit ls fs = (k : ℕ) (d : X) → k < length ls → unsigned_abs (slice_index_or fs k (pos 0)) ≤ limit (slice_index_or ls k d)

-- what is fed into a set of cabinets minus what is drained there
abbrev pub gain : (at amount : Taps ℕ) → (ℕ → Bool) → ℤ
gain at amount S = (only (S at.feed1) (pos amount.feed1) +ℤ only (S at.feed2) (pos amount.feed2)) -ℤ (only (S at.drain1) (pos amount.drain1) +ℤ only (S at.drain2) (pos amount.drain2))

module _ {X : Type 0} (low high : X → ℕ) where
  -- in every cabinet, outflow minus inflow is what is fed there minus what is drained there
  abbrev pub Balanced : ℕ → List X → (at amount : Taps ℕ) → List ℤ → Type 0
  Balanced n ls at amount fs = (v : ℕ) → v < n → net low high ls fs v ≡ gain at amount (λ u. nat_eq u v)

  -- the cost of a side: limits of feeds outside it, of links with just one end in it, and of drains in it
  abbrev pub cost : (X → ℕ) → (at most : Taps ℕ) → List X → (ℕ → Bool) → ℕ
  cost limit at most ls S = ((if S at.feed1 then 0 else most.feed1) + (if S at.feed2 then 0 else most.feed2)) + side_slots low high limit S ls + ((if S at.drain1 then most.drain1 else 0) + (if S at.drain2 then most.drain2 else 0))

-- a flow for each link, the four amounts and a side
pub record Answer : Type 0 where
  pub flow : List ℤ
  pub amount : Taps ℕ
  pub side : ℕ → Bool

-- an answer as an engine leaves it in lists
abbrev pub answer_of : List ℤ → Taps ℕ → List Bool → Answer
answer_of fs amount xs = record { flow = fs; amount = amount; side = members xs }

-- the total fed
abbrev pub fed : Answer → ℕ
fed r = r.amount.feed1 + r.amount.feed2

-- the meaning of an answer to the job with feeds and drains `at`, limited by `most`
pub record Solves {X : Type 0} (low high limit : X → ℕ) (n : ℕ) (ls : List X) (at most : Taps ℕ) (r : Answer) : Type 0 where
  pub within : Within limit ls r.flow
  pub amounts : Each ◌≤◌ r.amount most
  pub balanced : Balanced low high n ls at r.amount r.flow
  pub full : fed r ≡ cost low high limit at most ls r.side
