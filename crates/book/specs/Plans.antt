-- Plans as a book holds them.
use Rattle.std.specs.Prelude.{ℕ, Bool, List, take, ℤ, Some, None, Option}
use Rattle.flow.specs.declared.pairs.Pairs.{Pairs}
use Rattle.flow.specs.Drawings.{Drawn}
use Rattle.flow.specs.Nets.{members}
use Rattle.flow.specs.Plans.{Held, Best, sum_of}
use Rattle.flow.specs.Ranges.{cabinets}
use Rattle.plan.specs.declared.sides.Sides.{Sides}
use Rattle.plan.specs.declared.flaw.Flaw.{Flaw}
use Rattle.plan.specs.Halves.{half}
use Rattle.plan.specs.Judging.{judged}
use Rattle.mesh.specs.declared.row.Row.{Row}
use Rattle.mesh.specs.Links.{low_of, high_of, capacity_of}

-- a plan: for each link its share of stream one and of stream two, with the cut and the first side that show it best
pub record Plan : Type 0 where
  pub one : List ℤ
  pub two : List ℤ
  pub cut : List Bool
  pub first : List Bool

-- the plan that a book of n links holds, if any: its shares stand at the front of two lists
abbrev pub held_plan : ℕ → List ℤ → List ℤ → Option Sides → Option Plan
held_plan n one two None = None
held_plan n one two (Some sides) = Some (record { one = take n one; two = take n two; cut = sides.cut; first = sides.first })

-- the plan is held with its cut and its first side: it is feasible, its sum is the cut's slots, and total one is the first side's
abbrev pub HeldPlan : List Row → Pairs → Plan → Type 0
HeldPlan rows p h = Held low_of high_of capacity_of cabinets p rows h.one h.two (members h.cut) (members h.first)

-- the plan was drawn: made by halving from flows that engines answered
abbrev pub DrawnPlan : List Row → Pairs → Plan → Type 0
DrawnPlan rows p h = Drawn low_of high_of (half capacity_of) p rows h.one h.two (members h.cut) (members h.first)

-- no plan for the same links and pairs, in whole slots or fractions, has a greater sum or a greater total one
abbrev pub BestPlan : List Row → Pairs → Plan → Type 0
BestPlan rows p h = Best low_of high_of capacity_of cabinets p rows h.one h.two

-- the sum of a plan
abbrev pub plan_sum : List Row → Pairs → Plan → ℤ
plan_sum rows p h = sum_of low_of high_of p rows h.one h.two

-- the first flaw of a proposed plan
abbrev pub flaw_of : List Row → Pairs → Plan → Option Flaw
flaw_of rows p h = judged low_of high_of capacity_of p rows h.one h.two h.cut h.first
