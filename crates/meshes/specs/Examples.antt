-- Worked examples: the calls that make a mesh in a book, a plan for it, and what that comes to.
use Rattle.std.specs.Prelude.{◌≡◌, ℕ, List, [], ◌∷◌, Some, Ok, Err, Result}
use Rattle.flow.specs.declared.pairs.Pairs.{Pairs}
use Rattle.flow.specs.Plans.{total_one, total_two}
use Rattle.mesh.specs.declared.fault.Fault.{Fault}
use Rattle.mesh.specs.Faults.{number, place}
use Rattle.mesh.specs.Links.{low_of, high_of}
use Rattle.sheet.specs.declared.answers.Totals.{Totals}
use Rattle.book.specs.History.{State, Call, opened, refusal, Step}
use Rattle.book.specs.History.Call.{Admit}
use Rattle.book.specs.Plans.{Plan, HeldPlan, BestPlan, plan_sum}
use Rattle.meshes.specs.declared.refusal.Refusal.{Refusal}

-- what a plan comes to: the totals of a best plan, or the number and the place of the fault that a proposal is refused with
abbrev pub Outcome : Type 0
Outcome = Result Totals Refusal

-- an example: calls on an opened book, a plan with its two sides, and what comes of it
pub record Example : Type 0 where
  pub calls : List Call
  pub plan : Plan
  pub outcome : Outcome

-- the calls are accepted one after another, and lead from the first state to the last
abbrev pub Leads : State → List Call → State → Type 0
Leads s [] t = t ≡ s
Leads s (c ∷ cs) t = (u : State) × Step s c (Ok tt) u × Leads u cs t

-- in this state the plan is held with its two sides, hence best, and these are its sum and totals
pub record ShowsBest (s : State) (h : Plan) (t : Totals) : Type 0 where
  pub pairs : Pairs
  pub named : s.pairs ≡ Some pairs
  pub held : HeldPlan s.rows pairs h
  pub best : BestPlan s.rows pairs h
  pub sum_is : plan_sum s.rows pairs h ≡ t.sum
  pub one_is : total_one low_of high_of pairs s.rows h.one ≡ t.one
  pub two_is : total_two low_of high_of pairs s.rows h.two ≡ t.two

-- in this state the book refuses to admit the plan, with a fault of this number and place
pub record IsRefused (s : State) (h : Plan) (n k : ℕ) : Type 0 where
  pub fault : Fault
  pub refused : refusal s (Admit h) ≡ Some fault
  pub number_is : number fault ≡ n
  pub place_is : place fault ≡ k

-- what the plan comes to in this state
abbrev pub ComesTo : State → Plan → Outcome → Type 0
ComesTo s h (Ok totals) = ShowsBest s h totals
ComesTo s h (Err refusal) = IsRefused s h refusal.number refusal.place

-- the example's calls lead to a state in which its plan comes to its outcome
abbrev pub Shown : Example → Type 0
Shown e = (s : State) × Leads opened e.calls s × ComesTo s e.plan e.outcome
