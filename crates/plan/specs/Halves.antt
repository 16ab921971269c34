-- The links, the answers and the shares of a drawing's jobs.
use Rattle.std.specs.Prelude.{◌≡◌, ℕ, ◌/◌, ◌≤◌, Bool, ◌⊎◌, List, length, ℤ}
use Rattle.flow.specs.declared.pairs.Pairs.{Pairs}
use Rattle.flow.specs.declared.taps.Taps.{Taps}
use Rattle.flow.specs.Ranges.{cabinets}
use Rattle.flow.specs.Nets.{members}
use Rattle.flow.specs.Answers.{Answer, fed}
use Rattle.flow.specs.Drawings.{Halved, turned, Answered, made_side, SameSide, Drawn}
use Rattle.engine.specs.declared.arc.Arc.{Arc}
use Rattle.engine.specs.Arcs.{tail_of, head_of, limit_of}

-- half a link's slots
abbrev pub half : {X : Type 0} → (X → ℕ) → X → ℕ
half capacity l = capacity l / 2

-- the link of a job, with half the slots as its limit
abbrev pub half_arc : {X : Type 0} → (low high capacity : X → ℕ) → X → Arc
half_arc low high capacity l = record { tail = low l; head = high l; limit = half capacity l }

-- what an engine answered, with the side as a list
abbrev pub answer : List ℤ → Taps ℕ → List Bool → Answer
answer fs amount side = record { flow = fs; amount = amount; side = members side }

-- an engine answered the job of stream 1 up to x and stream 2 up to y: it feeds the total, and the side costs just that
pub record Bounds (p : Pairs) (x y : ℕ) (ls : List Arc) (total : ℕ) (side : List Bool) : Type 0 where
  pub solution : Answer
  pub solved : Answered tail_of head_of limit_of cabinets p x y ls solution
  pub total_is : fed solution ≡ total
  pub side_is : solution.side ≡ members side

-- the sum side is made of the first side and of the side of the job, with stream 2 one way or the other, that fed less
abbrev pub MadeOf : (p : Pairs) (ahead behind : ℕ) (first full turned_full cut : List Bool) → Type 0
MadeOf p ahead behind first full turned_full cut = ((ahead ≤ behind) × SameSide (members cut) (made_side (members first) (members full) p)) ⊎ ((behind ≤ ahead) × SameSide (members cut) (made_side (members first) (members turned_full) (turned p)))

-- an engine answered the job of stream 1 up to x and stream 2 up to y with this flow
pub record Flows (p : Pairs) (x y : ℕ) (ls : List Arc) (fs : List ℤ) : Type 0 where
  pub solution : Answer
  pub solved : Answered tail_of head_of limit_of cabinets p x y ls solution
  pub flow_is : solution.flow ≡ fs

-- whatever shares are made of the two flows are a plan that was drawn, with these sides
abbrev pub DrawnFlows : (p : Pairs) (ls : List Arc) (plus minus : List ℤ) (cut first : List Bool) → Type 0
DrawnFlows p ls plus minus cut first = (fs gs : List ℤ) → Halved (length ls) plus minus fs gs → Drawn tail_of head_of limit_of p ls fs gs (members cut) (members first)
