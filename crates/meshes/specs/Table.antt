-- The table of worked meshes. Links are numbered from 0 in the order of adding.
use Rattle.std.specs.Prelude.{ℕ, Bool, true, false, List, [], ◌∷◌, ◌++◌, replicate, ℤ, pos, Ok, Err, neg_ℤ, slice_set}
use Rattle.flow.specs.declared.pairs.Pairs.{Pairs}
use Rattle.flow.specs.Ranges.{cabinets}
use Rattle.book.specs.History.{Call}
use Rattle.book.specs.History.Call.{Add, Resize, Name, Begin}
use Rattle.book.specs.Plans.{Plan}
use Rattle.meshes.specs.declared.worked.Worked.{Worked}
use Rattle.meshes.specs.declared.worked.Worked.TheVariants.{NoLinks, SameWay, HeadOn, HeadOnChain, OneSource, Trunk, TrunkTurned, Ring, RingResized, TrunkInTrial, HeadOnEven, HeadOnOver}
use Rattle.meshes.specs.Examples.{Outcome, Example, Shown}

-- stream one's source and goal, then stream two's
abbrev pub ends : ℕ → ℕ → ℕ → ℕ → Pairs
ends s1 t1 s2 t2 = record { source1 = s1; goal1 = t1; source2 = s2; goal2 = t2 }

-- the side list of these cabinets
abbrev pub side : List ℕ → List Bool
side [] = replicate cabinets false
side (v ∷ vs) = slice_set (side vs) v true

-- shares of streams one and two, with the cabinets of the cut and of the first side
abbrev pub plan : (one two : List ℤ) (cut first : List ℕ) → Plan
plan one two cut first = record { one = one; two = two; cut = side cut; first = side first }

-- a sum and the two totals
abbrev pub best : (sum one two : ℕ) → Outcome
best sum one two = Ok (record { sum = pos sum; one = pos one; two = pos two })

-- the number and the place of a fault
abbrev pub refused : (number place : ℕ) → Outcome
refused number place = Err (record { number = number; place = place })

-- a share against the link's direction, from the higher cabinet to the lower
abbrev pub back : ℕ → ℤ
back n = neg_ℤ (pos n)

-- a stream that carries nothing over n links
abbrev pub idle : ℕ → List ℤ
idle n = replicate n (pos 0)

-- an example, by its three parts
abbrev pub worked : List Call → Plan → Outcome → Example
worked calls h outcome = record { calls = calls; plan = h; outcome = outcome }

-- one link between the cabinets 0 and 1
abbrev pub single : Pairs → List Call
single p = Add 0 1 10 ∷ Name p ∷ []

-- cabinets 0 and 2 on one end of a trunk, 1 and 3 on the other
abbrev pub trunk : Pairs → List Call
trunk p = Add 0 4 6 ∷ Add 4 5 8 ∷ Add 1 5 6 ∷ Add 2 4 6 ∷ Add 3 5 6 ∷ Name p ∷ []

-- a ring of four cabinets
abbrev pub ring : List Call
ring = Add 0 1 2 ∷ Add 1 2 2 ∷ Add 2 3 2 ∷ Add 0 3 2 ∷ Name (ends 0 2 1 3) ∷ []

-- each worked mesh: its calls, the plan, and what it comes to
abbrev pub example : Worked → Example
example NoLinks =
    worked (Name (ends 0 1 2 3) ∷ [])
    (plan [] [] (0 ∷ 2 ∷ []) (0 ∷ []))
    (best 0 0 0)
example SameWay =
    worked (single (ends 0 1 0 1))
    (plan (pos 10 ∷ []) (idle 1) (0 ∷ []) (0 ∷ []))
    (best 10 10 0)
example HeadOn =
    worked (single (ends 0 1 1 0))
    (plan (pos 10 ∷ []) (idle 1) (0 ∷ []) (0 ∷ []))
    (best 10 10 0)
example HeadOnChain =
    worked (Add 0 1 4 ∷ Add 1 2 6 ∷ Name (ends 0 2 2 0) ∷ [])
    (plan (pos 4 ∷ pos 4 ∷ []) (idle 2) (0 ∷ []) (0 ∷ []))
    (best 4 4 0)
example OneSource =
    worked (Add 0 1 2 ∷ Add 0 2 4 ∷ Name (ends 0 1 0 2) ∷ [])
    (plan (pos 2 ∷ pos 0 ∷ []) (pos 0 ∷ pos 4 ∷ []) (0 ∷ []) (0 ∷ 2 ∷ []))
    (best 6 2 4)
example Trunk =
    worked (trunk (ends 0 1 2 3))
    (plan (pos 6 ∷ pos 6 ∷ back 6 ∷ pos 0 ∷ pos 0 ∷ []) (pos 0 ∷ pos 2 ∷ pos 0 ∷ pos 2 ∷ back 2 ∷ []) (0 ∷ 2 ∷ 4 ∷ []) (0 ∷ []))
    (best 8 6 2)
example TrunkTurned =
    worked (trunk (ends 0 1 3 2))
    (plan (pos 6 ∷ pos 6 ∷ back 6 ∷ pos 0 ∷ pos 0 ∷ []) (pos 0 ∷ back 2 ∷ pos 0 ∷ back 2 ∷ pos 2 ∷ []) (0 ∷ 2 ∷ 4 ∷ []) (0 ∷ []))
    (best 8 6 2)
example Ring =
    worked ring
    (plan (pos 2 ∷ pos 2 ∷ back 2 ∷ pos 2 ∷ []) (idle 4) (0 ∷ 1 ∷ []) (0 ∷ []))
    (best 4 4 0)
example RingResized =
    worked (ring ++ (Resize 1 0 ∷ []))
    (plan (pos 0 ∷ pos 0 ∷ back 2 ∷ pos 2 ∷ []) (idle 4) (0 ∷ 1 ∷ []) (0 ∷ 1 ∷ []))
    (best 2 2 0)
example TrunkInTrial =
    worked (trunk (ends 0 1 2 3) ++ (Begin 1 ∷ []))
    (plan (idle 5) (idle 5) (0 ∷ 2 ∷ 4 ∷ []) (0 ∷ 2 ∷ 4 ∷ []))
    (best 0 0 0)
example HeadOnEven =
    worked (single (ends 0 1 1 0))
    (plan (pos 5 ∷ []) (back 5 ∷ []) (0 ∷ []) (0 ∷ []))
    (refused 46 0)
example HeadOnOver =
    worked (single (ends 0 1 1 0))
    (plan (pos 6 ∷ []) (back 5 ∷ []) (0 ∷ []) (0 ∷ []))
    (refused 42 0)

-- every worked mesh comes to what the table says
abbrev pub WholeTable : Type 0
WholeTable = (mesh : Worked) → Shown (example mesh)
