-- Halving: two flows within half the slots, with A and B and with A and -B, make shares with the totals 2A and 2B.
use Rattle.std.proofs.Common.{◌≡◌, ℕ, suc, ◌+◌, ◌*◌, ◌<◌, ◌≤◌, max, Bool, true, false, eqb, List, [], ◌∷◌, length, get_or, ℤ, pos, negsuc, ◌+ℤ◌, ◌-ℤ◌, nat_abs, sym, refl, ◌∙◌, ap₂, arith}
use Rattle.std.proofs.lemmas.Bool.{eq-eqb, ne_eqb}
use Rattle.flow.specs.declared.pairs.Pairs.{Pairs}
use Rattle.flow.specs.Nets.{only, here, after, leaving, net}
use Rattle.flow.specs.Plans.{Proper, Shared, Feasible, total_one, total_two}
use Rattle.flow.specs.Answers.{Within}
use Rattle.flow.specs.Drawings.{Doubled, Halved, Carries, turned}
use Rattle.flow.proofs.Sums.{whole, only_true, only_false}
use Rattle.flow.proofs.Bounds.{after_at}

-- one link's part
share_plus : (a b : Bool) (y z f K L M : ℤ) → f ≡ y +ℤ z → K ≡ L +ℤ M → (only a f -ℤ only b f) +ℤ K ≡ ((only a y -ℤ only b y) +ℤ L) +ℤ ((only a z -ℤ only b z) +ℤ M)
share_plus true true y z f K L M e q = omega (arith, whole)
share_plus true false y z f K L M e q = omega (arith, whole)
share_plus false true y z f K L M e q = omega (arith, whole)
share_plus false false y z f K L M e q = omega (arith, whole)

share_minus : (a b : Bool) (y z f K L M : ℤ) → f ≡ y -ℤ z → K ≡ L -ℤ M → (only a f -ℤ only b f) +ℤ K ≡ ((only a y -ℤ only b y) +ℤ L) -ℤ ((only a z -ℤ only b z) +ℤ M)
share_minus true true y z f K L M e q = omega (arith, whole)
share_minus true false y z f K L M e q = omega (arith, whole)
share_minus false true y z f K L M e q = omega (arith, whole)
share_minus false false y z f K L M e q = omega (arith, whole)

-- the two shares without sign add up to twice the greater flow
pub no_set_off : (y z f g : ℤ) → f ≡ y +ℤ z → g ≡ y -ℤ z → nat_abs f + nat_abs g ≡ 2 * max (nat_abs y) (nat_abs z)
no_set_off (pos y) (pos z) f g e q = omega (arith, whole)
no_set_off (pos y) (negsuc z) f g e q = omega (arith, whole)
no_set_off (negsuc y) (pos z) f g e q = omega (arith, whole)
no_set_off (negsuc y) (negsuc z) f g e q = omega (arith, whole)

greater : (y z h : ℕ) → y ≤ h → z ≤ h → 2 * max y z ≤ 2 * h
greater y z h a b = omega arith

pub halved_after : (n : ℕ) (y z fs gs : List ℤ) → Halved (suc n) y z fs gs → Halved n (after y) (after z) (after fs) (after gs)
halved_after n y z fs gs h k q =
    let hk = h (suc k) (omega arith) in
    (after_at fs k ∙ hk.0 ∙ sym (ap₂ ◌+ℤ◌ (after_at y k) (after_at z k)), after_at gs k ∙ hk.1 ∙ sym (ap₂ ◌-ℤ◌ (after_at y k) (after_at z k)))

module _ {X : Type 0} (low high : X → ℕ) where
  -- what leaves any set adds and subtracts
  pub halved_plus : (S : ℕ → Bool) (ls : List X) (y z fs gs : List ℤ) → Halved (length ls) y z fs gs → leaving low high S ls fs ≡ leaving low high S ls y +ℤ leaving low high S ls z
  halved_plus S [] y z fs gs h = refl
  halved_plus S (l ∷ ls) y z fs gs h = share_plus (S (low l)) (S (high l)) (here y) (here z) (here fs) _ _ _ (h 0 (omega arith)).0 (halved_plus S ls (after y) (after z) (after fs) (after gs) (halved_after (length ls) y z fs gs h))

  pub halved_minus : (S : ℕ → Bool) (ls : List X) (y z fs gs : List ℤ) → Halved (length ls) y z fs gs → leaving low high S ls gs ≡ leaving low high S ls y -ℤ leaving low high S ls z
  halved_minus S [] y z fs gs h = refl
  halved_minus S (l ∷ ls) y z fs gs h = share_minus (S (low l)) (S (high l)) (here y) (here z) (here gs) _ _ _ (h 0 (omega arith)).1 (halved_minus S ls (after y) (after z) (after fs) (after gs) (halved_after (length ls) y z fs gs h))

pub halved_shared : {X : Type 0} (limit capacity : X → ℕ) (ls : List X) (y z fs gs : List ℤ) → Doubled limit capacity ls → Halved (length ls) y z fs gs → Within limit ls y → Within limit ls z → Shared capacity ls fs gs
halved_shared limit capacity ls y z fs gs two h wy wz k d q =
    omega (arith, two k d q, no_set_off (get_or y k (pos 0)) (get_or z k (pos 0)) (get_or fs k (pos 0)) (get_or gs k (pos 0)) (h k q).0 (h k q).1, greater (nat_abs (get_or y k (pos 0))) (nat_abs (get_or z k (pos 0))) (limit (get_or ls k d)) (wy k d q) (wz k d q))

net_plus : (x y z w m u v : ℤ) → u ≡ (x +ℤ y) -ℤ (z +ℤ w) → v ≡ (x +ℤ w) -ℤ (z +ℤ y) → m ≡ u +ℤ v → m ≡ (x +ℤ x) -ℤ (z +ℤ z)
net_plus x y z w m u v e f g = omega (arith, whole)

net_minus : (x y z w m u v : ℤ) → u ≡ (x +ℤ y) -ℤ (z +ℤ w) → v ≡ (x +ℤ w) -ℤ (z +ℤ y) → m ≡ u -ℤ v → m ≡ (y +ℤ y) -ℤ (w +ℤ w)
net_minus x y z w m u v e f g = omega (arith, whole)

twice : (x z m : ℤ) (A : ℕ) → m ≡ (x +ℤ x) -ℤ (z +ℤ z) → x ≡ pos A → z ≡ pos 0 → m ≡ pos (2 * A)
twice x z m A e f g = omega (arith, whole)

nil : (x z m : ℤ) → m ≡ (x +ℤ x) -ℤ (z +ℤ z) → x ≡ pos 0 → z ≡ pos 0 → m ≡ pos 0
nil x z m e f g = omega (arith, whole)

module _ {X : Type 0} (low high : X → ℕ) (n : ℕ) (ls : List X) (p : Pairs) (pr : Proper n p) (A B : ℕ) (y z fs gs : List ℤ) (hv : Halved (length ls) y z fs gs) (cy : Carries low high n p A B ls y) (cz : Carries low high n (turned p) A B ls z) where
  one_net : (v : ℕ) → v < n → net low high ls fs v ≡ (only (eqb p.source1 v) (pos A) +ℤ only (eqb p.source1 v) (pos A)) -ℤ (only (eqb p.goal1 v) (pos A) +ℤ only (eqb p.goal1 v) (pos A))
  one_net v k =
      net_plus (only (eqb p.source1 v) (pos A)) (only (eqb p.source2 v) (pos B)) (only (eqb p.goal1 v) (pos A)) (only (eqb p.goal2 v) (pos B)) (net low high ls fs v) (net low high ls y v) (net low high ls z v) (cy v k) (cz v k) (halved_plus low high (λ u. eqb u v) ls y z fs gs hv)

  two_net : (v : ℕ) → v < n → net low high ls gs v ≡ (only (eqb p.source2 v) (pos B) +ℤ only (eqb p.source2 v) (pos B)) -ℤ (only (eqb p.goal2 v) (pos B) +ℤ only (eqb p.goal2 v) (pos B))
  two_net v k =
      net_minus (only (eqb p.source1 v) (pos A)) (only (eqb p.source2 v) (pos B)) (only (eqb p.goal1 v) (pos A)) (only (eqb p.goal2 v) (pos B)) (net low high ls gs v) (net low high ls y v) (net low high ls z v) (cy v k) (cz v k) (halved_minus low high (λ u. eqb u v) ls y z fs gs hv)

  pub halved_one : total_one low high p ls fs ≡ pos (2 * A)
  halved_one =
      twice (only (eqb p.source1 p.source1) (pos A)) (only (eqb p.goal1 p.source1) (pos A)) (net low high ls fs p.source1) A (one_net p.source1 pr.source1_in) (only_true (eqb p.source1 p.source1) (pos A) (eq-eqb p.source1 p.source1 refl)) (only_false (eqb p.goal1 p.source1) (pos A) (ne_eqb p.goal1 p.source1 (λ e. pr.apart1 (sym e))))

  pub halved_two : total_two low high p ls gs ≡ pos (2 * B)
  halved_two =
      twice (only (eqb p.source2 p.source2) (pos B)) (only (eqb p.goal2 p.source2) (pos B)) (net low high ls gs p.source2) B (two_net p.source2 pr.source2_in) (only_true (eqb p.source2 p.source2) (pos B) (eq-eqb p.source2 p.source2 refl)) (only_false (eqb p.goal2 p.source2) (pos B) (ne_eqb p.goal2 p.source2 (λ e. pr.apart2 (sym e))))

  pub halved_feasible : (limit capacity : X → ℕ) → Doubled limit capacity ls → Within limit ls y → Within limit ls z → Feasible low high capacity n p ls fs gs
  halved_feasible limit capacity two wy wz =
      record {
        shared = halved_shared limit capacity ls y z fs gs two hv wy wz;
        conserved1 = λ v k a b. nil (only (eqb p.source1 v) (pos A)) (only (eqb p.goal1 v) (pos A)) (net low high ls fs v) (one_net v k) (only_false (eqb p.source1 v) (pos A) (ne_eqb p.source1 v (λ e. a (sym e)))) (only_false (eqb p.goal1 v) (pos A) (ne_eqb p.goal1 v (λ e. b (sym e))));
        conserved2 = λ v k a b. nil (only (eqb p.source2 v) (pos B)) (only (eqb p.goal2 v) (pos B)) (net low high ls gs v) (two_net v k) (only_false (eqb p.source2 v) (pos B) (ne_eqb p.source2 v (λ e. a (sym e)))) (only_false (eqb p.goal2 v) (pos B) (ne_eqb p.goal2 v (λ e. b (sym e))));
      }
