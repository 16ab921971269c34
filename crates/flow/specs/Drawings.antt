-- Drawing a plan: five jobs for engines, over limits of half the slots, and the shares and sides made of their answers.
use Rattle.std.specs.Prelude.{◌≡◌, ℕ, ◌+◌, ◌-◌, ◌*◌, ◌<◌, min, Bool, not, ◌⊎◌, List, length, ℤ, pos, ◌+ℤ◌, ◌-ℤ◌, slice_index_or, if◌then◌else◌}
use Rattle.flow.specs.declared.pairs.Pairs.{Pairs}
use Rattle.flow.specs.declared.taps.Taps.{Taps}
use Rattle.flow.specs.Ranges.{cabinets, most_fed}
use Rattle.flow.specs.Nets.{xor}
use Rattle.flow.specs.Answers.{Answer, Solves, Balanced, fed}

-- every link's slots are twice its limit
abbrev pub Doubled : {X : Type 0} → (limit capacity : X → ℕ) → List X → Type 0
Doubled {X} limit capacity ls = (k : ℕ) (d : X) → k < length ls → 2 * limit (slice_index_or ls k d) ≡ capacity (slice_index_or ls k d)

-- on each of the first n links the two shares are the sum and the difference of two flows
abbrev pub Halved : ℕ → (y z fs gs : List ℤ) → Type 0
Halved n y z fs gs = (k : ℕ) → k < n → (slice_index_or fs k (pos 0) ≡ slice_index_or y k (pos 0) +ℤ slice_index_or z k (pos 0)) × (slice_index_or gs k (pos 0) ≡ slice_index_or y k (pos 0) -ℤ slice_index_or z k (pos 0))

-- stream 2 the other way round
abbrev pub turned : Pairs → Pairs
turned p = record { source1 = p.source1; goal1 = p.goal1; source2 = p.goal2; goal2 = p.source2 }

-- both sources feed and both goals drain
abbrev pub ends_of : Pairs → Taps ℕ
ends_of p = record { feed1 = p.source1; feed2 = p.source2; drain1 = p.goal1; drain2 = p.goal2 }

-- x for stream 1 and y for stream 2
abbrev pub both_of : ℕ → ℕ → Taps ℕ
both_of x y = record { feed1 = x; feed2 = y; drain1 = x; drain2 = y }

module _ {X : Type 0} (low high : X → ℕ) where
  -- the flow carries x from source 1 to goal 1 and y from source 2 to goal 2, added where ends coincide
  abbrev pub Carries : ℕ → Pairs → ℕ → ℕ → List X → List ℤ → Type 0
  Carries n p x y ls fs = Balanced low high n ls (ends_of p) (both_of x y) fs

  -- every job of a drawing: stream 1 up to x, stream 2 up to y
  abbrev pub Answered : (X → ℕ) → ℕ → Pairs → ℕ → ℕ → List X → Answer → Type 0
  Answered limit n p x y ls r = Solves low high limit n ls (ends_of p) (both_of x y) r

-- S if it parts the ends of stream 1, else where just one of F and S holds
abbrev pub mix : (F S : ℕ → Bool) → Pairs → ℕ → Bool
mix F S p v = if xor (S p.source1) (S p.goal1) then S v else xor (F v) (S v)

-- the sum side made of a first side F and the side S of a job that was full: F if it parts the ends of stream 2, else `mix` or its complement, whichever holds source 1
abbrev pub made_side : (F S : ℕ → Bool) → Pairs → ℕ → Bool
made_side F S p v = if xor (F p.source2) (F p.goal2) then F v else not (xor (mix F S p v) (mix F S p p.source1))

-- two sides have the same cabinets
abbrev pub SameSide : (S R : ℕ → Bool) → Type 0
SameSide S R = (v : ℕ) → v < cabinets → S v ≡ R v

-- a plan that was drawn: five jobs, answered by any engines, the shares made of the last two flows, and both sides
pub record Drawn {X : Type 0} (low high limit : X → ℕ) (p : Pairs) (ls : List X) (fs gs : List ℤ) (cut first : ℕ → Bool) : Type 0 where
  -- as much of stream 1 as fits
  pub one : Answer
  pub one_solved : Answered low high limit cabinets p most_fed 0 ls one
  -- beside it as much of stream 2 as fits, and the same with stream 2 turned
  pub ahead : Answer
  pub ahead_solved : Answered low high limit cabinets p (fed one) most_fed ls ahead
  pub behind : Answer
  pub behind_solved : Answered low high limit cabinets (turned p) (fed one) most_fed ls behind
  -- what is left for stream 2 both ways
  pub second : ℕ
  pub second_is : second ≡ min (fed ahead) (fed behind) - fed one
  -- the two flows that are halved
  pub plus : Answer
  pub plus_solved : Answered low high limit cabinets p (fed one) second ls plus
  pub minus : Answer
  pub minus_solved : Answered low high limit cabinets (turned p) (fed one) second ls minus
  pub shares : Halved (length ls) plus.flow minus.flow fs gs
  -- the first job's side, and a sum side made of it and of the side of the job that left no more
  pub first_is : SameSide first one.side
  pub cut_is : ((fed one + second ≡ fed ahead) × SameSide cut (made_side one.side ahead.side p)) ⊎ ((fed one + second ≡ fed behind) × SameSide cut (made_side one.side behind.side (turned p)))
