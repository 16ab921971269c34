-- A proposal has no flaw exactly when its lists fit and it is held with its two sides.
use Rattle.std.proofs.Common.{◌≡◌, ℕ, ◌+◌, ◌<◌, ◌≤◌, min, Bool, true, false, not, leb, List, [], ◌∷◌, map, length, get_or, ℤ, pos, nat_abs, Some, None, Decides, Option, sym, refl, ap, ◌∙◌, subst, ap₂, arith}
use Rattle.std.specs.List.{zip}
use Rattle.std.specs.Option.{option_or}
use Rattle.std.proofs.Math.Bool.{not-not}
use Rattle.std.proofs.lemmas.Slice.Zip.{length-zip, get_or-zip}
use Rattle.std.proofs.lemmas.List.{get_or-map, get_or_default}
use Rattle.std.proofs.lemmas.Bool.{leb-true, le-leb}
use Rattle.std.proofs.lemmas.Bool.Decides.{Decides-eqb, Decides-and, Decides-like}
use Rattle.flow.specs.declared.pairs.Pairs.{Pairs}
use Rattle.flow.specs.Ranges.{cabinets}
use Rattle.flow.specs.Nets.{members, side_slots}
use Rattle.flow.specs.Plans.{Shared, Conserved, Held, total_one, sum_of}
use Rattle.flow.specs.Tests.{equal, is_first_side, is_sum_side, is_kept, is_conserved, shares_fit}
use Rattle.flow.proofs.Deciding.{equal_decides, below_decides, first_side_decides, sum_side_decides, conserved_decides}
use Rattle.plan.specs.declared.flaw.Flaw.{Flaw}
use Rattle.plan.specs.declared.flaw.Flaw.TheVariants.{Lengths, Over, Broken, SumSide, FirstSide, Sum, First}
use Rattle.plan.specs.Judging.{unless, flaw_at, lowest_failing, are_fitting, lowest_over, lowest_broken, judged}
use Rattle.plan.specs.Laws.{Fitting}
use Rattle.plan.proofs.Finding.{neither, none_all, all_none, position_lowest}

no_flaw : (f : Flaw) → ◌≡◌ {A = Option Flaw} (Some f) None → ⊥
no_flaw f e = let z : ◌≡◌ {A = ℕ} 0 1 = cc in omega arith

-- no flaw: the test passes, and neither does what comes after have one
passed : (b : Bool) (f : Flaw) (o : Option Flaw) → unless b f o ≡ None → (b ≡ true) × (o ≡ None)
passed true f o e = (refl, e)
passed false f o e = absurd (no_flaw f e)

pass : (b : Bool) (f : Flaw) (o : Option Flaw) → b ≡ true → o ≡ None → unless b f o ≡ None
pass b f o e q = ap (λ (t : Bool). unless t f o) e ∙ q

passed_at : (f : ℕ → Flaw) (p : Option ℕ) (o : Option Flaw) → flaw_at f p o ≡ None → (p ≡ None) × (o ≡ None)
passed_at f None o e = (refl, e)
passed_at f (Some k) o e = absurd (no_flaw (f k) e)

pass_at : (f : ℕ → Flaw) (p : Option ℕ) (o : Option Flaw) → p ≡ None → o ≡ None → flaw_at f p o ≡ None
pass_at f p o e q = ap (λ (t : Option ℕ). flaw_at f t o) e ∙ q

fitting_decides : {X : Type 0} (ls : List X) (fs gs : List ℤ) (cut first : List Bool) → Decides (are_fitting ls fs gs cut first) (Fitting ls fs gs cut first)
fitting_decides ls fs gs cut first =
    Decides-like (are_fitting ls fs gs cut first)
    (λ w. record { ones = w.0.0.0; twos = w.0.0.1; cuts = w.0.1; firsts = w.1 })
    (λ f. (((f.ones, f.twos), f.cuts), f.firsts))
    (Decides-and _ _ (Decides-and _ _ (Decides-and _ _ (Decides-eqb (length fs) (length ls)) (Decides-eqb (length gs) (length ls))) (Decides-eqb (length cut) cabinets)) (Decides-eqb (length first) cabinets))

module _ {X : Type 0} (capacity : X → ℕ) where
  -- the test of one link by its place
  abbrev fits_at : List X → (fs gs : List ℤ) → ℕ → Bool
  fits_at ls fs gs k = leb (nat_abs (get_or fs k (pos 0)) + nat_abs (get_or gs k (pos 0))) (get_or (map capacity ls) k 0)

  -- the first of the links' places whose shares are above the slots
  over_lowest : (ls : List X) (fs gs : List ℤ) → length fs ≡ length ls → length gs ≡ length ls → lowest_over capacity ls fs gs ≡ lowest_failing (length ls) (fits_at ls fs gs)
  over_lowest ls fs gs ef eg =
      position_lowest _ (zip (zip ls fs) gs) (fits_at ls fs gs) same ∙ ap (λ n. lowest_failing n (fits_at ls fs gs)) long
    where
      pairs : length (zip ls fs) ≡ length ls
      pairs = length-zip ls fs ∙ (let e : min (length ls) (length fs) ≡ length ls = omega arith in e)

      long : length (zip (zip ls fs) gs) ≡ length ls
      long = length-zip (zip ls fs) gs ∙ (let e : min (length (zip ls fs)) (length gs) ≡ length ls = omega (arith, pairs) in e)

      same : (k : ℕ) (d : (X × ℤ) × ℤ) → k < length (zip (zip ls fs) gs) → fits_at ls fs gs k ≡ not (not (shares_fit capacity (get_or (zip (zip ls fs) gs) k d).0.0 (get_or (zip (zip ls fs) gs) k d).0.1 (get_or (zip (zip ls fs) gs) k d).1))
      same k d h =
          let l : k < length ls = omega (arith, long) in
          let f : k < length fs = omega arith in
          let z : k < length (zip ls fs) = omega (arith, pairs) in
          let g : k < length gs = omega arith in
          let at : get_or (zip (zip ls fs) gs) k d ≡ ((get_or ls k d.0.0, get_or fs k d.0.1), get_or gs k d.1) = get_or-zip (zip ls fs) gs k d z g ∙ ap (λ (q : X × ℤ). (q, get_or gs k d.1)) (get_or-zip ls fs k d.0 l f) in
          ap₂ leb (ap₂ (λ (a b : ℤ). nat_abs a + nat_abs b) (get_or_default fs k (pos 0) d.0.1 f) (get_or_default gs k (pos 0) d.1 g)) (get_or-map capacity ls k d.0.0 0 l)
          ∙ sym (not-not _)
          ∙ ap (λ (q : (X × ℤ) × ℤ). not (not (shares_fit capacity q.0.0 q.0.1 q.1))) (sym at)

  shares_none : (ls : List X) (fs gs : List ℤ) → length fs ≡ length ls → length gs ≡ length ls → lowest_over capacity ls fs gs ≡ None → Shared capacity ls fs gs
  shares_none ls fs gs ef eg e k d h =
      let n = sym (over_lowest ls fs gs ef eg) ∙ e in
      let b = (below_decides (fits_at ls fs gs) (λ k. fits_at ls fs gs k ≡ true) (λ k. (λ t. t, λ t. t)) (length ls)).0 (none_all (length ls) (fits_at ls fs gs) n) k h in
      subst (λ n. nat_abs (get_or fs k (pos 0)) + nat_abs (get_or gs k (pos 0)) ≤ n) (get_or-map capacity ls k d 0 h) (leb-true _ _ b)

  none_shares : (ls : List X) (fs gs : List ℤ) → length fs ≡ length ls → length gs ≡ length ls → Shared capacity ls fs gs → lowest_over capacity ls fs gs ≡ None
  none_shares ls fs gs ef eg s =
      over_lowest ls fs gs ef eg
      ∙ all_none (length ls) (fits_at ls fs gs) ((below_decides (fits_at ls fs gs) (λ k. fits_at ls fs gs k ≡ true) (λ k. (λ t. t, λ t. t)) (length ls)).1 (λ k h. le-leb _ _ (at ls s k h)))
    where
      at : (ls : List X) → Shared capacity ls fs gs → (k : ℕ) → k < length ls → nat_abs (get_or fs k (pos 0)) + nat_abs (get_or gs k (pos 0)) ≤ get_or (map capacity ls) k 0
      at [] s k h = absurd (omega arith)
      at (l ∷ ls) s k h = subst (λ n. nat_abs (get_or fs k (pos 0)) + nat_abs (get_or gs k (pos 0)) ≤ n) (sym (get_or-map capacity (l ∷ ls) k l 0 h)) (s k l h)

module _ {X : Type 0} (low high : X → ℕ) (s t : ℕ) (ls : List X) (fs : List ℤ) where
  kept_none : lowest_failing cabinets (is_kept low high s t ls fs) ≡ None → Conserved low high cabinets s t ls fs
  unfolding is_conserved
  kept_none e = (conserved_decides low high cabinets s t ls fs).0 (none_all cabinets (is_kept low high s t ls fs) e)

  none_kept : Conserved low high cabinets s t ls fs → lowest_failing cabinets (is_kept low high s t ls fs) ≡ None
  unfolding is_conserved
  none_kept c = all_none cabinets (is_kept low high s t ls fs) ((conserved_decides low high cabinets s t ls fs).1 c)

module _ {X : Type 0} (low high capacity : X → ℕ) (p : Pairs) (ls : List X) (fs gs : List ℤ) (cut first : List Bool) where
  abbrev full_sum : Bool
  full_sum = equal (sum_of low high p ls fs gs) (pos (side_slots low high capacity (members cut) ls))

  abbrev full_first : Bool
  full_first = equal (total_one low high p ls fs) (pos (side_slots low high capacity (members first) ls))

  pub judged_held : judged low high capacity p ls fs gs cut first ≡ None → Fitting ls fs gs cut first × Held low high capacity cabinets p ls fs gs (members cut) (members first)
  judged_held e =
      let c1 = passed (are_fitting ls fs gs cut first) Lengths _ e in
      let fit = (fitting_decides ls fs gs cut first).0 c1.0 in
      let c2 = passed_at Over (lowest_over capacity ls fs gs) _ c1.1 in
      let c3 = passed_at Broken (lowest_broken low high p ls fs gs) _ c2.1 in
      let c4 = passed (is_sum_side p (members cut)) SumSide _ c3.1 in
      let c5 = passed (is_first_side p (members first)) FirstSide _ c4.1 in
      let c6 = passed full_sum Sum _ c5.1 in
      let c7 = passed full_first First None c6.1 in
      let k = neither (lowest_failing cabinets (is_kept low high p.source1 p.goal1 ls fs)) (lowest_failing cabinets (is_kept low high p.source2 p.goal2 ls gs)) c3.0 in (
        fit,
        record {
          feasible = record {
            shared = shares_none capacity ls fs gs fit.ones fit.twos c2.0;
            conserved1 = kept_none low high p.source1 p.goal1 ls fs k.0;
            conserved2 = kept_none low high p.source2 p.goal2 ls gs k.1;
          };
          sum_side = (sum_side_decides p (members cut)).0 c4.0;
          first_side = (first_side_decides p (members first)).0 c5.0;
          sum_is = (equal_decides (sum_of low high p ls fs gs) (pos (side_slots low high capacity (members cut) ls))).0 c6.0;
          first_is = (equal_decides (total_one low high p ls fs) (pos (side_slots low high capacity (members first) ls))).0 c7.0;
        },
      )

  pub held_judged : Fitting ls fs gs cut first → Held low high capacity cabinets p ls fs gs (members cut) (members first) → judged low high capacity p ls fs gs cut first ≡ None
  held_judged f h =
      pass (are_fitting ls fs gs cut first) Lengths _ ((fitting_decides ls fs gs cut first).1 f)
      (pass_at Over (lowest_over capacity ls fs gs) _ (none_shares capacity ls fs gs f.ones f.twos h.feasible.shared)
      (pass_at Broken (lowest_broken low high p ls fs gs) _ (ap₂ option_or (none_kept low high p.source1 p.goal1 ls fs h.feasible.conserved1) (none_kept low high p.source2 p.goal2 ls gs h.feasible.conserved2))
      (pass (is_sum_side p (members cut)) SumSide _ ((sum_side_decides p (members cut)).1 h.sum_side)
      (pass (is_first_side p (members first)) FirstSide _ ((first_side_decides p (members first)).1 h.first_side)
      (pass full_sum Sum _ ((equal_decides (sum_of low high p ls fs gs) (pos (side_slots low high capacity (members cut) ls))).1 h.sum_is)
      (pass full_first First None ((equal_decides (total_one low high p ls fs) (pos (side_slots low high capacity (members first) ls))).1 h.first_is) refl))))))
