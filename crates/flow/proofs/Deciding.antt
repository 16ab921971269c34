-- Each computed test decides its definition.
use Rattle.std.proofs.Common.{◌≡◌, ℕ, zero, suc, ◌+◌, ◌<◌, ◌≤◌, Bool, not, ◌&&◌, ◌||◌, eqb, leb, ◌⊎◌, List, [], ◌∷◌, get_or, ℤ, pos, negsuc, nat_abs, Decides, refl, ap, subst, inl, inr, arith}
use Rattle.std.proofs.lemmas.Bool.Decides.{Decides-eqb, Decides-or, Decides-and, Decides-like, Decides-below_and}
use Rattle.std.proofs.lemmas.Bool.{leb-true, le-leb, eqb-true, eq-eqb, not-true, not_from_false, false≢true, and_parts, and_from, cases_eq}
use Rattle.flow.specs.declared.pairs.Pairs.{Pairs}
use Rattle.flow.specs.Nets.{xor, here, after, net, side_slots}
use Rattle.flow.specs.Plans.{FirstSide, SumSide, Shared, Conserved, Feasible, Held, total_one, sum_of}
use Rattle.flow.specs.Tests.{all_below, equal, is_shared, is_first_side, is_sum_side, is_kept, is_conserved, is_feasible, is_held}
use Rattle.flow.proofs.Bounds.{after_at, shared_after}

pub equal_decides : (a b : ℤ) → Decides (equal a b) (a ≡ b)
equal_decides (pos m) (pos n) = (λ e. ap pos (eqb-true m n e), λ e. eq-eqb m n (ap nat_abs e))
equal_decides (pos m) (negsuc n) = (λ e. absurd (false≢true e), λ e. let z : ◌≡◌ {A = ℕ} 0 1 = cc in absurd (omega arith))
equal_decides (negsuc m) (pos n) = (λ e. absurd (false≢true e), λ e. let z : ◌≡◌ {A = ℕ} 0 1 = cc in absurd (omega arith))
equal_decides (negsuc m) (negsuc n) = (λ e. ap negsuc (eqb-true m n e), λ e. eq-eqb m n (cc))

pub below_decides : (p : ℕ → Bool) (P : ℕ → Type 0) → ((k : ℕ) → Decides (p k) (P k)) → (n : ℕ) → Decides (all_below n p) ((k : ℕ) → k < n → P k)
unfolding all_below
below_decides p P each n = Decides-below_and p P (λ n. all_below n p) each refl (λ _. refl) n

pub shared_decides : {X : Type 0} (capacity : X → ℕ) (ls : List X) (fs gs : List ℤ) → Decides (is_shared capacity ls fs gs) (Shared capacity ls fs gs)
unfolding is_shared
shared_decides capacity [] fs gs = (λ _ k d h. absurd (omega arith), λ _. refl)
shared_decides {X} capacity (l ∷ ls) fs gs =
    let rec = shared_decides capacity ls (after fs) (after gs) in (
      λ e.
          let s = and_parts (leb (nat_abs (here fs) + nat_abs (here gs)) (capacity l)) (is_shared capacity ls (after fs) (after gs)) e in
          joined (leb-true _ _ s.0) (rec.0 s.1),
      λ w. and_from (leb (nat_abs (here fs) + nat_abs (here gs)) (capacity l)) (is_shared capacity ls (after fs) (after gs)) (le-leb _ _ (w 0 l (omega arith))) (rec.1 (shared_after capacity l ls fs gs w)),
    )
  where
    joined : nat_abs (here fs) + nat_abs (here gs) ≤ capacity l → Shared capacity ls (after fs) (after gs) → Shared capacity (l ∷ ls) fs gs
    joined h w zero d q = h
    joined h w (suc k) d q = subst (λ x. nat_abs x + nat_abs (get_or gs (suc k) (pos 0)) ≤ capacity (get_or ls k d)) (after_at fs k) (subst (λ x. nat_abs (get_or (after fs) k (pos 0)) + nat_abs x ≤ capacity (get_or ls k d)) (after_at gs k) (w k d (omega arith)))

pub first_side_decides : (p : Pairs) (S : ℕ → Bool) → Decides (is_first_side p S) (FirstSide p S)
first_side_decides p S = (
  λ e. let s = and_parts (S p.source1) (not (S p.goal1)) e in record { holds = s.0; lacks = not-true (S p.goal1) s.1 },
  λ f. and_from (S p.source1) (not (S p.goal1)) f.holds (not_from_false (S p.goal1) f.lacks),
)

pub sum_side_decides : (p : Pairs) (S : ℕ → Bool) → Decides (is_sum_side p S) (SumSide p S)
sum_side_decides p S =
    let f = first_side_decides p S in (
      λ e.
          let s = and_parts (is_first_side p S) (xor (S p.source2) (S p.goal2)) e in
          let g = f.0 s.0 in
          record { holds = g.holds; lacks = g.lacks; parts = s.1 },
      λ c. and_from (is_first_side p S) (xor (S p.source2) (S p.goal2)) (f.1 (record { holds = c.holds; lacks = c.lacks })) c.parts,
    )

module _ {X : Type 0} (low high : X → ℕ) where
  kept_decides : (s t : ℕ) (ls : List X) (fs : List ℤ) (v : ℕ) → Decides (is_kept low high s t ls fs v) ((v ≡ s → ⊥) → (v ≡ t → ⊥) → net low high ls fs v ≡ pos 0)
  kept_decides s t ls fs v =
      Decides-like (is_kept low high s t ls fs v) apart (λ h. at h (cases_eq v s) (cases_eq v t))
      (Decides-or (eqb v s || eqb v t) (equal (net low high ls fs v) (pos 0)) (Decides-or (eqb v s) (eqb v t) (Decides-eqb v s) (Decides-eqb v t)) (equal_decides (net low high ls fs v) (pos 0)))
    where
      apart : ((v ≡ s) ⊎ (v ≡ t)) ⊎ (net low high ls fs v ≡ pos 0) → (v ≡ s → ⊥) → (v ≡ t → ⊥) → net low high ls fs v ≡ pos 0
      apart (inl (inl e)) a b = absurd (a e)
      apart (inl (inr e)) a b = absurd (b e)
      apart (inr e) a b = e

      at : ((v ≡ s → ⊥) → (v ≡ t → ⊥) → net low high ls fs v ≡ pos 0) → (v ≡ s) ⊎ (v ≡ s → ⊥) → (v ≡ t) ⊎ (v ≡ t → ⊥) → ((v ≡ s) ⊎ (v ≡ t)) ⊎ (net low high ls fs v ≡ pos 0)
      at h (inl a) o = inl (inl a)
      at h (inr a) (inl b) = inl (inr b)
      at h (inr a) (inr b) = inr (h a b)

  pub conserved_decides : (n s t : ℕ) (ls : List X) (fs : List ℤ) → Decides (is_conserved low high n s t ls fs) (Conserved low high n s t ls fs)
  unfolding is_conserved
  conserved_decides n s t ls fs = below_decides (is_kept low high s t ls fs) (λ v. (v ≡ s → ⊥) → (v ≡ t → ⊥) → net low high ls fs v ≡ pos 0) (kept_decides s t ls fs) n

  module _ (capacity : X → ℕ) (n : ℕ) (p : Pairs) (ls : List X) (fs gs : List ℤ) where
    pub feasible_decides : Decides (is_feasible low high capacity n p ls fs gs) (Feasible low high capacity n p ls fs gs)
    feasible_decides =
        Decides-like (is_feasible low high capacity n p ls fs gs)
        (λ w. record { shared = w.0.0; conserved1 = w.0.1; conserved2 = w.1 })
        (λ f. ((f.shared, f.conserved1), f.conserved2))
        (Decides-and (is_shared capacity ls fs gs && is_conserved low high n p.source1 p.goal1 ls fs) (is_conserved low high n p.source2 p.goal2 ls gs)
        (Decides-and (is_shared capacity ls fs gs) (is_conserved low high n p.source1 p.goal1 ls fs) (shared_decides capacity ls fs gs) (conserved_decides n p.source1 p.goal1 ls fs))
        (conserved_decides n p.source2 p.goal2 ls gs))

    pub held_decides : (cut first : ℕ → Bool) → Decides (is_held low high capacity n p ls fs gs cut first) (Held low high capacity n p ls fs gs cut first)
    held_decides cut first =
        Decides-like (is_held low high capacity n p ls fs gs cut first)
        (λ w. record { feasible = w.0.0.0.0; sum_side = w.0.0.0.1; first_side = w.0.0.1; sum_is = w.0.1; first_is = w.1 })
        (λ h. ((((h.feasible, h.sum_side), h.first_side), h.sum_is), h.first_is))
        (Decides-and _ _ (Decides-and _ _ (Decides-and _ _ (Decides-and _ _ feasible_decides (sum_side_decides p cut)) (first_side_decides p first)) (equal_decides (sum_of low high p ls fs gs) (pos (side_slots low high capacity cut ls)))) (equal_decides (total_one low high p ls fs) (pos (side_slots low high capacity first ls))))
