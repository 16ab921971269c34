-- The state of a ledger after its share lists were filled.
use Rattle.std.proofs.Common.{◌≡◌, ℕ, ◌≤◌, Bool, not, List, ◌++◌, length, take, drop, ℤ, is_some, Some, None, Ok, Err, Option, sym, refl, ap, ◌∙◌, subst, arith, take_all}
use lib.Seq.{take-append-le}
use Rattle.std.specs.Option.{option_map}
use Rattle.flow.specs.declared.pairs.Pairs.{Pairs}
use Rattle.plan.specs.declared.sides.Sides.{Sides}
use Rattle.plan.specs.declared.flaw.Flaw.{Flaw}
use Rattle.plan.specs.Judging.{verdict}
use Rattle.plan.proofs.Admission.{judged_held}
use Rattle.mesh.specs.declared.row.Row.{Row}
use Rattle.mesh.specs.declared.fault.Fault.TheVariants.{Unnamed, Proposal}
use Rattle.mesh.specs.Faults.{refuse_if}
use Rattle.mesh.specs.Links.{low_of, high_of, capacity_of}
use Rattle.book.specs.History.{State, state, Step, refusal, admission}
use Rattle.book.specs.History.Call.{Draw, Admit}
use Rattle.book.specs.Plans.{Plan, DrawnPlan, held_plan, flaw_of}

-- a list of n places that was lent and filled with as many is what its owner holds then
pub refilled_by : (n : ℕ) (xs ws : List ℤ) → n ≡ length ws → take n (ws ++ drop (length ws) xs) ≡ ws
refilled_by n xs ws l =
    let h : n ≤ length ws = omega arith in
    let k : length ws ≤ n = omega arith in
    take-append-le n ws (drop (length ws) xs) h ∙ take_all n ws k

-- the plan whose shares stand at the front of two lists
abbrev fronts : List Row → List ℤ → List ℤ → Sides → Plan
fronts rows one two sides = record { one = take (length rows) one; two = take (length rows) two; cut = sides.cut; first = sides.first }

-- a drawn plan is held
pub drawn_step : (s : State) (p : Pairs) (rows : List Row) (one two xs ys : List ℤ) (sides : Sides) → s.pairs ≡ Some p → rows ≡ s.rows → xs ≡ one → ys ≡ two → DrawnPlan rows p (fronts rows one two sides) → Step s Draw (Ok tt) (state s.rows s.pairs s.trial (held_plan (length s.rows) xs ys (Some sides)))
drawn_step s p rows one two xs ys sides e er ex ey d = (
  ap (λ (o : Option Pairs). refuse_if (not (is_some o)) Unnamed None) e,
  (
    p,
    fronts s.rows xs ys sides,
    e,
    subst (λ (r : List Row). DrawnPlan r p (fronts r xs ys sides)) er (subst (λ (a : List ℤ). DrawnPlan rows p (fronts rows a ys sides)) (sym ex) (subst (λ (b : List ℤ). DrawnPlan rows p (fronts rows one b sides)) (sym ey) d)),
    refl,
  ),
)

same_plan : (h : Plan) (a b : List ℤ) (c d : List Bool) → a ≡ h.one → b ≡ h.two → c ≡ h.cut → d ≡ h.first → ◌≡◌ {A = Plan} (record { one = a; two = b; cut = c; first = d }) h
same_plan h a b c d ea eb ec ed = λ i. record { one = ea i; two = eb i; cut = ec i; first = ed i }

-- what a judge's answer tells of the flaws
pub flawless : (o : Option Flaw) → verdict o ≡ Ok tt → o ≡ None
flawless None e = refl
flawless (Some flaw) e = let z : ◌≡◌ {A = ℕ} 0 1 = cc in absurd (omega arith)

flawed : (o : Option Flaw) (flaw : Flaw) → verdict o ≡ Err flaw → o ≡ Some flaw
flawed None flaw e = let z : ◌≡◌ {A = ℕ} 0 1 = cc in absurd (omega arith)
flawed (Some f) flaw e = cc

-- a plan with a flaw is refused for it
pub refused_for : (s : State) (p : Pairs) (rows : List Row) (h : Plan) (flaw : Flaw) → s.pairs ≡ Some p → rows ≡ s.rows → verdict (flaw_of rows p h) ≡ Err flaw → refusal s (Admit h) ≡ Some (Proposal flaw)
refused_for s p rows h flaw e er j =
    let jj : verdict (flaw_of s.rows p h) ≡ Err flaw = subst (λ (r : List Row). verdict (flaw_of r p h) ≡ Err flaw) er j in
    ap (λ (o : Option Pairs). admission s.rows o h) e ∙ ap (λ (o : Option Flaw). option_map Proposal o) (flawed _ flaw jj)

-- an admitted plan is held: what stands at the front of the two lists is the proposal
pub admitted_step : (s : State) (p : Pairs) (rows : List Row) (h : Plan) (xs ys ws vs us ts : List ℤ) (sides : Sides) → s.pairs ≡ Some p → rows ≡ s.rows → flaw_of rows p h ≡ None → xs ≡ ws → ys ≡ vs → ws ≡ h.one ++ drop (length h.one) us → vs ≡ h.two ++ drop (length h.two) ts → sides.cut ≡ h.cut → sides.first ≡ h.first → Step s (Admit h) (Ok tt) (state s.rows s.pairs s.trial (held_plan (length s.rows) xs ys (Some sides)))
admitted_step s p rows h xs ys ws vs us ts sides e er j ex ey ew ev ec ef =
    let jj : flaw_of s.rows p h ≡ None = subst (λ (r : List Row). flaw_of r p h ≡ None) er j in
    let fit = (judged_held low_of high_of capacity_of p s.rows h.one h.two h.cut h.first jj).0 in
    let one : take (length s.rows) xs ≡ h.one = ap (take (length s.rows)) (ex ∙ ew) ∙ refilled_by (length s.rows) us h.one (sym fit.ones) in
    let two : take (length s.rows) ys ≡ h.two = ap (take (length s.rows)) (ey ∙ ev) ∙ refilled_by (length s.rows) ts h.two (sym fit.twos) in (
      ap (λ (o : Option Pairs). admission s.rows o h) e ∙ ap (λ (o : Option Flaw). option_map Proposal o) jj,
      ap (λ (k : Plan). state s.rows s.pairs s.trial (Some k)) (same_plan h _ _ _ _ one two ec ef),
    )
