-- The law over every past: a held plan is best, and sums stay near.
use Rattle.std.proofs.Common.{◌≡◌, ℕ, ◌-◌, Bool, List, [], get_or, Some, None, Ok, Err, Option, Result, sym, refl, ap, ◌∙◌, subst, arith}
use mathlib.Core.Logic.{∥∥₁_map}
use Rattle.std.specs.Option.{option_map}
use Rattle.flow.specs.declared.pairs.Pairs.{Pairs}
use Rattle.flow.specs.Nearness.{Near}
use Rattle.flow.specs.Nets.{Inside, members, side_slots}
use Rattle.flow.specs.Ranges.{cabinets}
use Rattle.flow.proofs.Changing.{near_same, near_then, near_wide, slots_added, slots_resized, slots_dropped, sums_near}
use Rattle.flow.proofs.Duality.{held_best}
use Rattle.plan.specs.declared.flaw.Flaw.{Flaw}
use Rattle.plan.specs.Links.{LawfulLinks}
use Rattle.plan.proofs.Admission.{judged_held}
use Rattle.plan.proofs.Drawings.{lawful_held}
use Rattle.mesh.specs.declared.row.Row.{Row}
use Rattle.mesh.specs.declared.fault.Fault.{Fault}
use Rattle.mesh.specs.declared.fault.Fault.TheVariants.{Proposal}
use Rattle.mesh.specs.Links.{between, blank, low_of, high_of, capacity_of}
use Rattle.book.specs.declared.trial.Trial.{Trial}
use Rattle.book.specs.Plans.{Plan, HeldPlan, DrawnPlan, flaw_of}
use Rattle.book.specs.Ledgers.{Orderly}
use Rattle.book.specs.History.{State, state, Call, Step, Run, Past, added, taken, counted, resized, slots_of, admission}
use Rattle.book.specs.History.Call.{Add, Resize, Drop, Name, Begin, Close, Draw, Admit}
use Rattle.book.specs.History.Run.{still, more}
use Rattle.book.specs.Books.{Sound, AllRuled}
use Rattle.book.specs.Law.{HoldsBest, NearSums, EveryPast}
use Rattle.book.proofs.Pasts.{same_some, none_is_none, drop_there, close_same, same_trials, run_sound, sound_opened, sound}

-- what the rule of a link gives
inside : (rows : List Row) → AllRuled rows → Inside low_of high_of cabinets rows
inside rows g k d q = let f = g k d q in (omega (arith, f), f.1)

lawful : (s : State) → Sound s → LawfulLinks low_of high_of capacity_of s.rows
lawful s g = record {
  few = g.few;
  each = λ k d q. let f = g.ruled k d q in record { low_in = omega (arith, f); high_in = f.1; apart = λ e. omega (arith, f); even = f.2; bound = f.3 };
}

-- a drawn plan is held with its sides
drawn : (s : State) (p : Pairs) (h : Plan) → Sound s → s.pairs ≡ Some p → DrawnPlan s.rows p h → HeldPlan s.rows p h
drawn s p h g e d = lawful_held low_of high_of capacity_of p s.rows h.one h.two (members h.cut) (members h.first) (lawful s g) (g.proper p e) d

-- an admitted plan belongs to the named pairs, and is held with its sides
admitted : (rows : List Row) (o : Option Pairs) (h : Plan) → admission rows o h ≡ None → (p : Pairs) × (o ≡ Some p) × HeldPlan rows p h
admitted rows None h e = let z : ◌≡◌ {A = ℕ} 0 1 = cc in absurd (omega arith)
admitted rows (Some p) h e = (p, refl, (judged_held low_of high_of capacity_of p rows h.one h.two h.cut h.first (unflawed (flaw_of rows p h) e)).1)
  where
    unflawed : (o : Option Flaw) → option_map Proposal o ≡ None → o ≡ None
    unflawed None q = refl
    unflawed (Some flaw) q = let z : ◌≡◌ {A = ℕ} 0 1 = cc in absurd (omega arith)

-- a plan that is held belongs to the named pairs, and is held with its sides
abbrev Good : State → Type 0
Good s = (h : Plan) → s.plan ≡ Some h → (p : Pairs) × (s.pairs ≡ Some p) × HeldPlan s.rows p h

withdrawn : (rows : List Row) (o : Option Pairs) (t : Option Trial) → Good (state rows o t None)
withdrawn rows o t j e = absurd (none_is_none j e)

holding : (rows : List Row) (o : Option Pairs) (t : Option Trial) (h : Plan) (p : Pairs) → o ≡ Some p → HeldPlan rows p h → Good (state rows o t (Some h))
holding rows o t h p e w j k = (p, e, subst (HeldPlan rows p) (same_some h j k) w)

step_good : (s t : State) (c : Call) (r : Result (Unit {0}) Fault) → Sound s → Good s → Step s c r t → Good t
step_good s t c (Err fault) g w h = subst Good (sym h.1) w
step_good s t (Add a b n) (Ok _) g w h = subst Good (sym h.1) (withdrawn _ s.pairs s.trial)
step_good s t (Resize l n) (Ok _) g w h = subst Good (sym h.1) (withdrawn _ s.pairs s.trial)
step_good s t (Drop l) (Ok _) g w h = subst Good (sym h.1) (withdrawn _ s.pairs s.trial)
step_good s t (Name p) (Ok _) g w h = subst Good (sym h.1) (withdrawn _ (Some p) s.trial)
step_good s t (Begin l) (Ok _) g w h = subst Good (sym h.1) (withdrawn _ s.pairs (Some (record { link = l; slots = slots_of s.rows l })))
step_good s t (Close u) (Ok _) g w h = subst Good (sym h.1) (withdrawn _ s.pairs None)
step_good s t Draw (Ok _) g w h =
    subst Good (sym h.1.4) (holding s.rows s.pairs s.trial h.1.1 h.1.0 h.1.2 (drawn s h.1.0 h.1.1 g h.1.2 h.1.3))
step_good s t (Admit j) (Ok _) g w h =
    let x = admitted s.rows s.pairs j h.0 in
    subst Good (sym h.1) (holding s.rows s.pairs s.trial j x.0 x.1 x.2)

run_good : {s : State} {a k : ℕ} {t : State} → Sound s → Good s → Run s a k t → Good t
run_good g w still = w
run_good g w (more {t = t} {u = u} c r run step) = step_good t u c r (run_sound g run) (run_good g w run) step

module _ (S : ℕ → Bool) where
  abbrev of : State → ℕ
  of s = side_slots low_of high_of capacity_of S s.rows

  resizes : (rows : List Row) (l n : ℕ) → Near (side_slots low_of high_of capacity_of S rows) (side_slots low_of high_of capacity_of S (resized rows l n)) (n - slots_of rows l) (slots_of rows l - n)
  resizes rows l n = slots_resized low_of high_of capacity_of S rows l (record { low = (get_or rows l blank).low; high = (get_or rows l blank).high; slots = n }) blank refl refl

  -- one call moves the slots of a side by no more than it adds and takes
  step_near : (s t : State) (c : Call) (r : Result (Unit {0}) Fault) → Sound s → Step s c r t → Near (of s) (of t) (counted r (added s c)) (counted r (taken s c))
  step_near s t c (Err fault) g h = near_same _ _ (ap of h.1)
  step_near s t (Add a b n) (Ok _) g h = subst (λ (u : State). Near (of s) (of u) n 0) (sym h.1) (slots_added low_of high_of capacity_of S s.rows (between a b n))
  step_near s t (Resize l n) (Ok _) g h = subst (λ (u : State). Near (of s) (of u) (n - slots_of s.rows l) (slots_of s.rows l - n)) (sym h.1) (resizes s.rows l n)
  step_near s t (Drop l) (Ok _) g h = subst (λ (u : State). Near (of s) (of u) 0 (slots_of s.rows l)) (sym h.1) (slots_dropped low_of high_of capacity_of S s.rows l blank (drop_there s l h.0))
  step_near s t (Name p) (Ok _) g h = near_same _ _ (ap of h.1)
  step_near s t (Begin l) (Ok _) g h =
      subst (λ (u : State). Near (of s) (of u) 0 (slots_of s.rows l)) (sym h.1) (near_wide _ _ _ _ _ _ (resizes s.rows l 0) (omega arith) (omega arith))
  step_near s t (Close u) (Ok _) g h =
      let w = same_trials s.trial u (close_same s u h.0) in
      let z : slots_of s.rows u.link ≡ 0 = subst (λ (k : ℕ). slots_of s.rows k ≡ 0) w.2 (g.standing w.0 w.1).1 in
      subst (λ (v : State). Near (of s) (of v) u.slots 0) (sym h.1) (near_wide _ _ _ _ _ _ (resizes s.rows u.link u.slots) (omega arith) (omega arith))
  step_near s t Draw (Ok _) g h = near_same _ _ (ap of h.1.4)
  step_near s t (Admit j) (Ok _) g h = near_same _ _ (ap of h.1)

  run_near : {s : State} {a k : ℕ} {t : State} → Sound s → Run s a k t → Near (of s) (of t) a k
  run_near g still = near_same _ _ refl
  run_near g (more {t = t} {u = u} c r run step) = near_then _ _ _ _ _ _ _ (run_near g run) (step_near t u c r (run_sound g run) step)

same_pairs : (o : Option Pairs) (p q : Pairs) → o ≡ Some p → o ≡ Some q → p ≡ q
same_pairs o p q x y = same_some p q (sym x ∙ y)

near_sums : (s t : State) (a k : ℕ) → Sound s → Sound t → Good s → Good t → Run s a k t → NearSums s t a k
near_sums s t a k g f w v run p h j es et eh ej =
    let x = w h eh in
    let y = v j ej in
    let hs = subst (λ (q : Pairs). HeldPlan s.rows q h) (same_pairs s.pairs x.0 p x.1 es) x.2 in
    let ht = subst (λ (q : Pairs). HeldPlan t.rows q j) (same_pairs t.pairs y.0 p y.1 et) y.2 in
    let n = sums_near low_of high_of capacity_of cabinets p s.rows t.rows h.one h.two j.one j.two (members h.cut) (members h.first) (members j.cut) (members j.first) a k
    (inside s.rows g.ruled) (inside t.rows f.ruled) (g.proper p es) (λ S. run_near S g run) hs ht in
    (n.0, n.1)

holds_best : (s : State) → Sound s → Good s → HoldsBest s
holds_best s g w h e =
    let x = w h e in
    (x.0, x.1, x.2, held_best low_of high_of capacity_of cabinets x.0 s.rows h.one h.two (members h.cut) (members h.first) (inside s.rows g.ruled) (g.proper x.0 x.1) x.2)

pub every_past : EveryPast
every_past s past =
    let g : Sound s = run_sound sound_opened past.1.1 in
    let w : Good s = run_good sound_opened (withdrawn [] None None) past.1.1 in
    (holds_best s g w, λ t a k run. near_sums s t a k g (run_sound g run) w (run_good g w run) run)

-- plans can be drawn on a book that calls alone have reached
pub orderly : (s : State) → ∥ Past s ∥₁ → Orderly s
orderly s past = let g = sound s past in (lawful s g, g.proper)

-- what the law says of the book at hand
pub best_here : (s : State) → ∥ Past s ∥₁ → ∥ HoldsBest s ∥₁
best_here s past = ∥∥₁_map past (λ p. (every_past s p).0)
