-- What can be read off a sheet, what a request is refused for, and what it is answered.
use Rattle.std.specs.Prelude.{◌≡◌, ℕ, Bool, cond, not, ◌||◌, List, length, ℤ, pos, is_some, Some, None, Ok, Err, Option, Result, ◌==◌, nat_le, nat_lt, slice_index_or}
use Rattle.flow.specs.declared.pairs.Pairs.{Pairs}
use Rattle.flow.specs.Nets.{members}
use Rattle.flow.specs.Plans.{total_one, total_two, sum_of}
use Rattle.mesh.specs.declared.row.Row.{Row}
use Rattle.mesh.specs.declared.fault.Fault.{Fault}
use Rattle.mesh.specs.declared.fault.Fault.TheVariants.{Sheet}
use Rattle.mesh.specs.declared.fault.Missing.TheVariants as missing
use Rattle.mesh.specs.Faults.{refuse_if}
use Rattle.mesh.specs.Links.{low_of, high_of}
use Rattle.sheet.specs.declared.answers.Totals.{Totals}
use Rattle.sheet.specs.declared.answers.Shares.{Shares}
use Rattle.sheet.specs.declared.answers.Side.{Side}
use Rattle.sheet.specs.declared.answers.Side.TheVariants.{Cut, First}
use Rattle.sheet.specs.Routes.{CarriedBy, RouteTold}

-- a held plan: the streams' pairs, each link's shares of streams one and two, the cut and the first side
pub record Plan : Type 0 where
  pub pairs : Pairs
  pub one : List ℤ
  pub two : List ℤ
  pub cut : List Bool
  pub first : List Bool

-- what a sheet shows: the links in order, and the plan if one is held
pub record Reading : Type 0 where
  pub links : List Row
  pub plan : Option Plan

-- what is asked of a sheet: the totals, a link's shares, whether a cabinet is in a side, a stream's route into a list of so many places
pub data Request : Type 0 where
  Total : Request
  Share : ℕ → Request
  Member : Side → ℕ → Request
  Route : ℕ → ℕ → Request

-- whether no plan is held
abbrev pub no_plan : Reading → Bool
no_plan s = not (is_some s.plan)

-- the table of refusals: for each request its conditions in order, and the fault of the first that holds
abbrev pub refusal : Reading → Request → Option Fault
refusal s Total =
    refuse_if (no_plan s) (Sheet missing.Plan) None
refusal s (Share l) =
    refuse_if (no_plan s) (Sheet missing.Plan) (
    refuse_if (nat_le (length s.links) l) (Sheet missing.Link) None)
refusal s (Member side v) =
    refuse_if (no_plan s) (Sheet missing.Plan) (
    refuse_if (nat_lt 63 v) (Sheet missing.Cabinet) None)
refusal s (Route stream places) =
    refuse_if (no_plan s) (Sheet missing.Plan) (
    refuse_if (not (stream == 1 || stream == 2)) (Sheet missing.Stream) (
    refuse_if (nat_lt places 64) (Sheet missing.Room) None))

-- what holds of the plan that is held
abbrev pub OfPlan : Option Plan → (Plan → Type 0) → Type 0
OfPlan None P = ⊥
OfPlan (Some p) P = P p

-- a request is answered from the links and the plan where the table has no refusal, else refused with the table's first
abbrev pub Answers : {X : Type 0} → Reading → Request → (List Row → Plan → X → Type 0) → Result X Fault → Type 0
Answers s q Tells (Ok x) = (refusal s q ≡ None) × OfPlan s.plan (λ p. Tells s.links p x)
Answers s q Tells (Err fault) = refusal s q ≡ Some fault

-- the sum and the two totals of the plan
abbrev pub Totalled : List Row → Plan → Totals → Type 0
Totalled links p t = (t.sum ≡ sum_of low_of high_of p.pairs links p.one p.two) × (t.one ≡ total_one low_of high_of p.pairs links p.one) × (t.two ≡ total_two low_of high_of p.pairs links p.two)

-- the shares of the link l
abbrev pub Carries : ℕ → List Row → Plan → Shares → Type 0
Carries l links p s = (s.one ≡ slice_index_or p.one l (pos 0)) × (s.two ≡ slice_index_or p.two l (pos 0))

-- the cabinets of a side
abbrev pub side_of : Side → Plan → List Bool
side_of Cut p = p.cut
side_of First p = p.first

-- whether the cabinet v is in the side
abbrev pub Contains : Side → ℕ → List Row → Plan → Bool → Type 0
Contains side v links p b = b ≡ members (side_of side p) v

-- a route of stream one or two from its source to its goal, in the caller's list
abbrev pub Routed : ℕ → List ℕ → List ℕ → List Row → Plan → Option ℕ → Type 0
Routed stream list list' links p n =
    cond (stream == 1)
    (RouteTold (CarriedBy links p.one) p.pairs.source1 p.pairs.goal1 list list' n)
    (RouteTold (CarriedBy links p.two) p.pairs.source2 p.pairs.goal2 list list' n)

-- a refused request leaves the caller's list as it was
abbrev pub Stays : {X : Type 0} → Result X Fault → List ℕ → List ℕ → Type 0
Stays (Ok x) list list' = Unit {0}
Stays (Err fault) list list' = list' ≡ list
