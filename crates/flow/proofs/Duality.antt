-- Weak duality: a first side's slots bound total 1, a sum side's the sum, and in fractions q times them; so a held plan is best.
use Rattle.std.proofs.Common.{◌≡◌, ℕ, suc, ◌*◌, Bool, true, false, eqb, List, [], ◌∷◌, ℤ, pos, ◌+ℤ◌, ◌-ℤ◌, ◌*ℤ◌, neg_ℤ, nat_abs, ◌≤ℤ◌, sym, refl, ap, ◌∙◌, subst, arith}
use lib.IntN.{pos-*ℤ-pos}
use Rattle.std.proofs.lemmas.Bool.{false≢true}
use Rattle.flow.specs.declared.pairs.Pairs.{Pairs}
use Rattle.flow.specs.Nets.{only, xor, here, after, leaving, net, side_slots, Inside}
use Rattle.flow.specs.Plans.{Proper, FirstSide, SumSide, Shared, Absent, total_one, sum_of, Feasible, Fractional, Held, Best}
use Rattle.flow.proofs.Sums.{whole}
use Rattle.flow.proofs.Counting.{parted}
use Rattle.flow.proofs.Bounds.{after_at, bound_one, bound_plus, bound_minus, slots_scaled, shared_within}

one_way : (x u : ℤ) (k : ℕ) → u ≡ x → u ≤ℤ pos k → x ≤ℤ pos k
one_way x u k e h = omega (arith, whole)

two_plus : (x y u v : ℤ) (k : ℕ) → u ≡ x → v ≡ y → (u +ℤ v) ≤ℤ pos k → (x +ℤ y) ≤ℤ pos k
two_plus x y u v k e q h = omega (arith, whole)

two_minus : (x y u v : ℤ) (k : ℕ) → u ≡ x → v ≡ neg_ℤ y → (u -ℤ v) ≤ℤ pos k → (x +ℤ y) ≤ℤ pos k
two_minus x y u v k e q h = omega (arith, whole)

module _ {X : Type 0} (low high capacity : X → ℕ) (n : ℕ) (p : Pairs) (ls : List X) (fs gs : List ℤ) (i : Inside low high n ls) (pr : Proper n p) (f : Feasible low high capacity n p ls fs gs) where
  pub first_bound : (S : ℕ → Bool) → FirstSide p S → total_one low high p ls fs ≤ℤ pos (side_slots low high capacity S ls)
  first_bound S c =
      one_way (net low high ls fs p.source1) (leaving low high S ls fs) (side_slots low high capacity S ls) ((parted low high S n p.source1 p.goal1 ls fs i pr.source1_in pr.goal1_in pr.apart1 f.conserved1).0 c.holds c.lacks) (bound_one low high capacity S ls fs (shared_within capacity ls fs gs f.shared))

  pub sum_bound : (S : ℕ → Bool) → SumSide p S → sum_of low high p ls fs gs ≤ℤ pos (side_slots low high capacity S ls)
  sum_bound S c = go (S p.source2) (S p.goal2) refl refl c.parts
    where
      one : leaving low high S ls fs ≡ net low high ls fs p.source1
      one = (parted low high S n p.source1 p.goal1 ls fs i pr.source1_in pr.goal1_in pr.apart1 f.conserved1).0 c.holds c.lacks

      go : (a b : Bool) → S p.source2 ≡ a → S p.goal2 ≡ b → xor a b ≡ true → sum_of low high p ls fs gs ≤ℤ pos (side_slots low high capacity S ls)
      go true true ea eb t = absurd (false≢true t)
      go true false ea eb t =
          two_plus (net low high ls fs p.source1) (net low high ls gs p.source2) (leaving low high S ls fs) (leaving low high S ls gs) (side_slots low high capacity S ls) one ((parted low high S n p.source2 p.goal2 ls gs i pr.source2_in pr.goal2_in pr.apart2 f.conserved2).0 ea eb) (bound_plus low high capacity S ls fs gs f.shared)
      go false true ea eb t =
          two_minus (net low high ls fs p.source1) (net low high ls gs p.source2) (leaving low high S ls fs) (leaving low high S ls gs) (side_slots low high capacity S ls) one ((parted low high S n p.source2 p.goal2 ls gs i pr.source2_in pr.goal2_in pr.apart2 f.conserved2).1 ea eb) (bound_minus low high capacity S ls fs gs f.shared)
      go false false ea eb t = absurd (false≢true t)

-- the same in fractions
module _ {X : Type 0} (low high capacity : X → ℕ) (n q : ℕ) (p : Pairs) (ls : List X) (fs gs : List ℤ) (i : Inside low high n ls) (pr : Proper n p) (f : Fractional low high capacity n q p ls fs gs) where
  pub first_fractions : (S : ℕ → Bool) → FirstSide p S → total_one low high p ls fs ≤ℤ pos (q * side_slots low high capacity S ls)
  first_fractions S c = subst (λ k. total_one low high p ls fs ≤ℤ pos k) (slots_scaled low high capacity q S ls) (first_bound low high (λ l. q * capacity l) n p ls fs gs i pr f.feasible S c)

  pub sum_fractions : (S : ℕ → Bool) → SumSide p S → sum_of low high p ls fs gs ≤ℤ pos (q * side_slots low high capacity S ls)
  sum_fractions S c = subst (λ k. sum_of low high p ls fs gs ≤ℤ pos k) (slots_scaled low high capacity q S ls) (sum_bound low high (λ l. q * capacity l) n p ls fs gs i pr f.feasible S c)

-- nothing leaves where no link carries anything
nothing_here : (a b : Bool) (f z : ℤ) → f ≡ pos 0 → z ≡ pos 0 → (only a f -ℤ only b f) +ℤ z ≡ pos 0
nothing_here true true f z e h = omega (arith, whole)
nothing_here true false f z e h = omega (arith, whole)
nothing_here false true f z e h = omega (arith, whole)
nothing_here false false f z e h = omega (arith, whole)

pub leaving_none : {X : Type 0} (low high : X → ℕ) (S : ℕ → Bool) (ls : List X) (fs : List ℤ) → Absent ls fs → leaving low high S ls fs ≡ pos 0
leaving_none low high S [] fs a = refl
leaving_none low high S (l ∷ ls) fs a =
    nothing_here (S (low l)) (S (high l)) (here fs) (leaving low high S ls (after fs)) (a 0 (omega arith)) (leaving_none low high S ls (after fs) (λ k h. after_at fs k ∙ a (suc k) (omega arith)))

shared_alone : {X : Type 0} (capacity : X → ℕ) (ls : List X) (fs gs none : List ℤ) → Absent ls none → Shared capacity ls fs gs → Shared capacity ls fs none
shared_alone capacity ls fs gs none a w k d h = omega (arith, w k d h, ap nat_abs (a k h))

times : (x z : ℤ) (q m : ℕ) → z ≡ pos m → x ≤ℤ pos (q * m) → x ≤ℤ (pos q *ℤ z)
times x z q m e h = subst (λ (w : ℤ). x ≤ℤ (pos q *ℤ w)) (sym e) (subst (λ (w : ℤ). x ≤ℤ w) (sym (pos-*ℤ-pos q m)) h)

once : (x z : ℤ) (m : ℕ) → z ≡ pos m → x ≤ℤ pos m → x ≤ℤ z
once x z m e h = subst (λ (w : ℤ). x ≤ℤ w) (sym e) h

pub held_best : {X : Type 0} (low high capacity : X → ℕ) (n : ℕ) (p : Pairs) (ls : List X) (fs gs : List ℤ) (cut first : ℕ → Bool) → Inside low high n ls → Proper n p → Held low high capacity n p ls fs gs cut first → Best low high capacity n p ls fs gs
held_best low high capacity n p ls fs gs cut first i pr h =
    record {
      most = λ hs ks f. once _ _ (side_slots low high capacity cut ls) h.sum_is (sum_bound low high capacity n p ls hs ks i pr f cut h.sum_side);
      most_in_fractions = λ q hs ks f. times _ _ q (side_slots low high capacity cut ls) h.sum_is (sum_fractions low high capacity n q p ls hs ks i pr f cut h.sum_side);
      most_one = λ hs ks f. once _ _ (side_slots low high capacity first ls) h.first_is (first_bound low high capacity n p ls hs ks i pr f first h.first_side);
      most_one_in_fractions = λ q hs ks f. times _ _ q (side_slots low high capacity first ls) h.first_is (first_fractions low high capacity n q p ls hs ks i pr f first h.first_side);
      alone = λ none a. record { shared = shared_alone capacity ls fs gs none a h.feasible.shared; conserved1 = h.feasible.conserved1; conserved2 = λ v _ _ _. leaving_none low high (λ u. eqb u v) ls none a };
      most_alone = λ q hs none a f. times _ _ q (side_slots low high capacity first ls) h.first_is (first_fractions low high capacity n q p ls hs none i pr f first h.first_side);
    }
