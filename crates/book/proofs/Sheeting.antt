-- What a sheet asks of the book that gives it.
use Rattle.std.proofs.Common.{◌≡◌, ℕ, ◌+◌, ◌≤◌, List, length, get_or, take, ℤ, pos, nat_abs, Some, None, Option, sym, refl, ap, ◌∙◌, subst, arith, length-take}
use mathlib.Core.Logic.{∥∥₁_elim}
use native.Mathlib.Bridge.{le_prop}
use Rattle.flow.specs.declared.pairs.Pairs.{Pairs}
use Rattle.flow.specs.Plans.{Proper}
use Rattle.flow.specs.Ranges.{cabinets}
use Rattle.plan.specs.declared.sides.Sides.{Sides}
use Rattle.mesh.specs.declared.row.Row.{Row}
use Rattle.mesh.specs.Links.{blank, capacity_of}
use Rattle.sheet.specs.Routes.{AllRuled}
use Rattle.plan.specs.declared.listed.Plan.{Plan as Lent}
use Rattle.sheet.specs.Plans.{Fits}
use Rattle.sheet.specs.Readings as readings
use Rattle.sheet.specs.Sheets.{plan_shown}
use Rattle.book.specs.History.{State, Past}
use Rattle.book.specs.Plans.{Plan, held_plan}
use Rattle.book.specs.Sheets.{paired, reading}
use Rattle.book.proofs.Pasts.{same_some, none_is_none, sound}
use Rattle.book.proofs.Laws.{every_past}

-- the parts of a plan that is shown
from_parts : (o : Option Pairs) (h : Option Plan) (q : readings.Plan) → Some q ≡ paired o h → (p : Pairs) × (j : Plan) × (o ≡ Some p) × (h ≡ Some j) × (q ≡ record { pairs = p; one = j.one; two = j.two; cut = j.cut; first = j.first })
from_parts None h q e = absurd (none_is_none q (sym e))
from_parts (Some p) None q e = absurd (none_is_none q (sym e))
from_parts (Some p) (Some j) q e = (p, j, refl, refl, same_some q _ e)

-- what a sheet asks of the links and the plan that it is given
pub record Asks (rows : List Row) (o : Option Lent) : Type 0 where
  pub few : length rows ≤ 512
  pub ruled : AllRuled rows
  pub fits : (l : Lent) → o ≡ Some l → Fits rows l

-- the shares of a plan are as many as the links
abbrev pub Long : State → Type 0
Long s = (h : Plan) → s.plan ≡ Some h → (length h.one ≡ length s.rows) × (length h.two ≡ length s.rows)

-- so they are where the lists are long enough
pub held_long : (n : ℕ) (xs ys : List ℤ) (o : Option Sides) → n ≤ length xs → n ≤ length ys → (h : Plan) → held_plan n xs ys o ≡ Some h → (length h.one ≡ n) × (length h.two ≡ n)
held_long n xs ys None a b h e = absurd (none_is_none h e)
held_long n xs ys (Some sides) a b h e =
    let q = same_some _ h e in (
      ap (λ (j : Plan). length j.one) (sym q) ∙ (let f : length (take n xs) ≡ n = omega (arith, length-take n xs) in f),
      ap (λ (j : Plan). length j.two) (sym q) ∙ (let f : length (take n ys) ≡ n = omega (arith, length-take n ys) in f),
    )

module _ (s : State) (past : ∥ Past s ∥₁) (long : Long s) (o : Option Lent) (e : plan_shown o ≡ (reading s).plan) where
  -- the plan that is lent is the one that is held
  lent : (l : Lent) → o ≡ Some l → (p : Pairs) × (j : Plan) × (s.pairs ≡ Some p) × (s.plan ≡ Some j) × (l.pairs ≡ p) × (l.one.now ≡ j.one) × (l.two.now ≡ j.two)
  lent l q =
      let w = from_parts s.pairs s.plan _ (sym (ap plan_shown q) ∙ e) in
      (w.0, w.1, w.2, w.3, ap (λ (r : readings.Plan). r.pairs) w.4, ap (λ (r : readings.Plan). r.one) w.4, ap (λ (r : readings.Plan). r.two) w.4)

  -- in every past a held plan's shares fit, and its pairs are proper
  pub asks_here : Asks s.rows o
  asks_here = record {
    few = (sound s past).few;
    ruled = λ k q. (sound s past).ruled k blank q;
    fits = λ l q.
        let w = lent l q in
        record {
          ones = ap length w.5 ∙ (long w.1 w.3).0;
          twos = ap length w.6 ∙ (long w.1 w.3).1;
          shared = λ k d lt.
              let held : nat_abs (get_or w.1.one k (pos 0)) + nat_abs (get_or w.1.two k (pos 0)) ≤ capacity_of (get_or s.rows k d) = ∥∥₁_elim past le_prop (λ v. ((every_past s v).0 w.1 w.3).2.feasible.shared k d lt) in
              subst (λ (f : List ℤ). nat_abs (get_or f k (pos 0)) + nat_abs (get_or l.two.now k (pos 0)) ≤ capacity_of (get_or s.rows k d)) (sym w.5)
              (subst (λ (g : List ℤ). nat_abs (get_or w.1.one k (pos 0)) + nat_abs (get_or g k (pos 0)) ≤ capacity_of (get_or s.rows k d)) (sym w.6) held);
          proper = subst (Proper cabinets) (sym w.4) ((sound s past).proper w.0 w.2);
        };
  }

  pub asks : (rows : List Row) → rows ≡ s.rows → Asks rows o
  asks rows er = subst (λ (rs : List Row). Asks rs o) (sym er) asks_here
