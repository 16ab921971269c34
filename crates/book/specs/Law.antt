-- The law over a book's whole past.
use Rattle.std.specs.Prelude.{◌≡◌, ℕ, pos, ◌+ℤ◌, ◌≤ℤ◌, Some}
use Rattle.flow.specs.declared.pairs.Pairs.{Pairs}
use Rattle.book.specs.History.{State, Run, Past}
use Rattle.book.specs.Plans.{Plan, HeldPlan, BestPlan, plan_sum}

-- a held plan belongs to the pairs that are named; it is held with its two sides, and it is best
abbrev pub HoldsBest : State → Type 0
HoldsBest s = (h : Plan) → s.plan ≡ Some h → (p : Pairs) × (s.pairs ≡ Some p) × HeldPlan s.rows p h × BestPlan s.rows p h

-- of two plans held with the same pairs, the later's sum is at most the earlier's plus the slots added, and at least the earlier's less those taken
abbrev pub NearSums : State → State → ℕ → ℕ → Type 0
NearSums s t added taken = (p : Pairs) (h j : Plan) → s.pairs ≡ Some p → t.pairs ≡ Some p → s.plan ≡ Some h → t.plan ≡ Some j →
    (plan_sum t.rows p j ≤ℤ (plan_sum s.rows p h +ℤ pos added))
    × (plan_sum s.rows p h ≤ℤ (plan_sum t.rows p j +ℤ pos taken))

-- after every call of every past a held plan is best, and the sums of plans held at two moments differ by no more than what was added and taken in between
abbrev pub EveryPast : Type 0
EveryPast = (s : State) → Past s → HoldsBest s × ((t : State) (added taken : ℕ) → Run s added taken t → NearSums s t added taken)
