-- The state that a ledger shows.
use Rattle.std.specs.Prelude.{◌≡◌, length, Some, vec_items}
use Rattle.flow.specs.declared.pairs.Pairs.{Pairs}
use Rattle.flow.specs.Plans.{Proper}
use Rattle.flow.specs.Ranges.{cabinets}
use Rattle.plan.specs.Links.{LawfulLinks}
use Rattle.mesh.specs.Links.{low_of, high_of, capacity_of}
use Rattle.book.specs.declared.ledger.Ledger.{Ledger}
use Rattle.book.specs.declared.proposal.Proposal.{Proposal}
use Rattle.book.specs.History.{State, state}
use Rattle.book.specs.Plans.{Plan, held_plan}

-- what a ledger holds, as a state
abbrev pub seen : Ledger → State
seen l = state (vec_items l.rows) l.pairs l.trial (held_plan (length (vec_items l.rows)) (vec_items l.one) (vec_items l.two) l.held)

-- the plan that a proposal proposes
abbrev pub proposed : Proposal → Plan
proposed p = record { one = p.one.now; two = p.two.now; cut = p.cut.now; first = p.first.now }

-- plans can be drawn: the links are lawful, and the named pairs are proper
abbrev pub Orderly : State → Type 0
Orderly s = LawfulLinks low_of high_of capacity_of s.rows × ((p : Pairs) → s.pairs ≡ Some p → Proper cabinets p)
