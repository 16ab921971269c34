-- The test of one example, and what it shows.
use Rattle.std.proofs.Common.{◌≡◌, ℕ, ◌<◌, Bool, true, false, not, ◌&&◌, eqb, ltb, List, [], ◌∷◌, get_or, Some, None, Ok, Err, Option, refl, arith}
use Rattle.std.proofs.lemmas.Bool.{and_parts, false≢true, ltb-true, eqb-true, eqb-false, not-true}
use Rattle.std.specs.List.{list_all}
use Rattle.std.proofs.lemmas.List.Sums.{AllPass-from_list_all}
use Rattle.flow.specs.declared.pairs.Pairs.{Pairs}
use Rattle.flow.specs.Nets.{members, Inside}
use Rattle.flow.specs.Plans.{Proper, total_one, total_two}
use Rattle.flow.specs.Ranges.{cabinets}
use Rattle.flow.specs.Tests.{equal, is_held}
use Rattle.flow.proofs.Deciding.{equal_decides, held_decides}
use Rattle.flow.proofs.Duality.{held_best}
use Rattle.mesh.specs.declared.row.Row.{Row}
use Rattle.mesh.specs.declared.fault.Fault.{Fault}
use Rattle.mesh.specs.Faults.{number, place}
use Rattle.mesh.specs.Links.{low_of, high_of, capacity_of}
use Rattle.sheet.specs.declared.answers.Totals.{Totals}
use Rattle.book.specs.History.{State, opened, refusal}
use Rattle.book.specs.History.Call.{Admit}
use Rattle.book.specs.Plans.{Plan, HeldPlan, plan_sum}
use Rattle.meshes.specs.Examples.{Outcome, Example, ShowsBest, IsRefused, ComesTo, Shown}
use Rattle.meshes.proofs.Calling.{are_accepted, after, leads}

-- both ends of the link are cabinets
abbrev ends_inside : Row → Bool
ends_inside r = ltb r.low cabinets && ltb r.high cabinets

inside : (rows : List Row) → list_all ends_inside rows ≡ true → Inside low_of high_of cabinets rows
inside rows e k d h =
    let r = get_or rows k d in
    let p = and_parts (ltb r.low cabinets) (ltb r.high cabinets) (AllPass-from_list_all ends_inside rows e k d h) in
    (ltb-true r.low cabinets p.0, ltb-true r.high cabinets p.1)

-- every source and goal is a cabinet, and each source differs from its goal
abbrev is_proper : Pairs → Bool
is_proper p = list_all (λ v. ltb v cabinets) (p.source1 ∷ p.goal1 ∷ p.source2 ∷ p.goal2 ∷ []) && not (eqb p.source1 p.goal1) && not (eqb p.source2 p.goal2)

proper : (p : Pairs) → is_proper p ≡ true → Proper cabinets p
proper p e =
    let vs = p.source1 ∷ p.goal1 ∷ p.source2 ∷ p.goal2 ∷ [] in
    let below = list_all (λ v. ltb v cabinets) vs in
    let a = and_parts (below && not (eqb p.source1 p.goal1)) (not (eqb p.source2 p.goal2)) e in
    let b = and_parts below (not (eqb p.source1 p.goal1)) a.0 in
    let at : (k : ℕ) → k < 4 → get_or vs k 0 < cabinets = λ k h. ltb-true (get_or vs k 0) cabinets (AllPass-from_list_all (λ v. ltb v cabinets) vs b.0 k 0 h) in
    record {
      source1_in = at 0 (omega arith);
      goal1_in = at 1 (omega arith);
      source2_in = at 2 (omega arith);
      goal2_in = at 3 (omega arith);
      apart1 = eqb-false p.source1 p.goal1 (not-true _ b.1);
      apart2 = eqb-false p.source2 p.goal2 (not-true _ a.1);
    }

-- the plan is held for these links and pairs, and has these totals
abbrev holds : List Row → Pairs → Plan → Bool
holds rows p h = list_all ends_inside rows && is_proper p && is_held low_of high_of capacity_of cabinets p rows h.one h.two (members h.cut) (members h.first)

abbrev has_totals : List Row → Pairs → Plan → Totals → Bool
has_totals rows p h t = equal (plan_sum rows p h) t.sum && equal (total_one low_of high_of p rows h.one) t.one && equal (total_two low_of high_of p rows h.two) t.two

abbrev is_best : List Row → Option Pairs → Plan → Totals → Bool
is_best rows None h t = false
is_best rows (Some p) h t = holds rows p h && has_totals rows p h t

-- the fault has this number and place
abbrev is_fault : Option Fault → ℕ → ℕ → Bool
is_fault None n k = false
is_fault (Some f) n k = eqb (number f) n && eqb (place f) k

-- the plan comes to this outcome
abbrev comes_to : State → Plan → Outcome → Bool
comes_to s h (Ok t) = is_best s.rows s.pairs h t
comes_to s h (Err r) = is_fault (refusal s (Admit h)) r.number r.place

best : (s : State) (h : Plan) (t : Totals) (o : Option Pairs) → s.pairs ≡ o → is_best s.rows o h t ≡ true → ShowsBest s h t
best s h t None named e = absurd (false≢true e)
best s h t (Some p) named e =
    let rows = s.rows in
    let a = and_parts (holds rows p h) (has_totals rows p h t) e in
    let b = and_parts (list_all ends_inside rows && is_proper p) _ a.0 in
    let c = and_parts (list_all ends_inside rows) (is_proper p) b.0 in
    let d = and_parts (equal (plan_sum rows p h) t.sum && equal (total_one low_of high_of p rows h.one) t.one) _ a.1 in
    let f = and_parts (equal (plan_sum rows p h) t.sum) _ d.0 in
    let held : HeldPlan rows p h = (held_decides low_of high_of capacity_of cabinets p rows h.one h.two (members h.cut) (members h.first)).0 b.1 in
    record {
      pairs = p;
      named = named;
      held = held;
      best = held_best low_of high_of capacity_of cabinets p rows h.one h.two (members h.cut) (members h.first) (inside rows c.0) (proper p c.1) held;
      sum_is = (equal_decides (plan_sum rows p h) t.sum).0 f.0;
      one_is = (equal_decides (total_one low_of high_of p rows h.one) t.one).0 f.1;
      two_is = (equal_decides (total_two low_of high_of p rows h.two) t.two).0 d.1;
    }

refused : (s : State) (h : Plan) (n k : ℕ) (o : Option Fault) → refusal s (Admit h) ≡ o → is_fault o n k ≡ true → IsRefused s h n k
refused s h n k None r e = absurd (false≢true e)
refused s h n k (Some f) r e =
    let a = and_parts (eqb (number f) n) (eqb (place f) k) e in
    record { fault = f; refused = r; number_is = eqb-true (number f) n a.0; place_is = eqb-true (place f) k a.1 }

comes : (s : State) (h : Plan) (o : Outcome) → comes_to s h o ≡ true → ComesTo s h o
comes s h (Ok t) e = best s h t s.pairs refl e
comes s h (Err r) e = refused s h r.number r.place (refusal s (Admit h)) refl e

-- the example's calls are accepted, and its plan then comes to its outcome
abbrev pub passes : Example → Bool
passes e = are_accepted opened e.calls && comes_to (after opened e.calls) e.plan e.outcome

pub shown : (e : Example) → passes e ≡ true → Shown e
shown e t =
    let s = after opened e.calls in
    let a = and_parts (are_accepted opened e.calls) (comes_to s e.plan e.outcome) t in
    (s, leads opened e.calls a.0, comes s e.plan e.outcome a.1)
