-- What crosses a side is at most its slots, link by link.
use Rattle.std.proofs.Common.{◌≡◌, ℕ, suc, ◌+◌, ◌*◌, ◌≤◌, Bool, true, false, cond, List, [], ◌∷◌, get_or, ℤ, pos, ◌+ℤ◌, ◌-ℤ◌, nat_abs, ◌≤ℤ◌, sym, refl, ◌∙◌, subst, ap₂, mul-zero, mul-add, arith}
use Rattle.flow.specs.Nets.{only, xor, here, after, leaving, crosses, side_slots}
use Rattle.flow.specs.Plans.{Shared}
use Rattle.flow.specs.Answers.{Within}
use Rattle.flow.proofs.Sums.{whole}

-- what the links after the first carry, place by place
pub after_at : (fs : List ℤ) (k : ℕ) → get_or (after fs) k (pos 0) ≡ get_or fs (suc k) (pos 0)
after_at [] k = refl
after_at (f ∷ fs) k = refl

pub within_after : {X : Type 0} (limit : X → ℕ) (l : X) (ls : List X) (fs : List ℤ) → Within limit (l ∷ ls) fs → Within limit ls (after fs)
within_after limit l ls fs w k d h = subst (λ x. nat_abs x ≤ limit (get_or ls k d)) (sym (after_at fs k)) (w (suc k) d (omega arith))

pub shared_after : {X : Type 0} (capacity : X → ℕ) (l : X) (ls : List X) (fs gs : List ℤ) → Shared capacity (l ∷ ls) fs gs → Shared capacity ls (after fs) (after gs)
shared_after capacity l ls fs gs w k d h =
    subst (λ x. nat_abs x + nat_abs (get_or (after gs) k (pos 0)) ≤ capacity (get_or ls k d)) (sym (after_at fs k)) (subst (λ x. nat_abs (get_or fs (suc k) (pos 0)) + nat_abs x ≤ capacity (get_or ls k d)) (sym (after_at gs k)) (w (suc k) d (omega arith)))

-- each share is within the slots
pub shared_within : {X : Type 0} (capacity : X → ℕ) (ls : List X) (fs gs : List ℤ) → Shared capacity ls fs gs → Within capacity ls fs
shared_within capacity ls fs gs w k d h = omega (arith, w k d h)

-- one link's part in a bound, beside the others' L, M and k
link_one : (a b : Bool) (f L : ℤ) (c k : ℕ) → nat_abs f ≤ c → L ≤ℤ pos k → ((only a f -ℤ only b f) +ℤ L) ≤ℤ pos (cond (xor a b) c 0 + k)
link_one true true f L c k h r = omega (arith, whole)
link_one true false f L c k h r = omega (arith, whole)
link_one false true f L c k h r = omega (arith, whole)
link_one false false f L c k h r = omega (arith, whole)

link_plus : (a b : Bool) (f g L M : ℤ) (c k : ℕ) → nat_abs f + nat_abs g ≤ c → (L +ℤ M) ≤ℤ pos k → (((only a f -ℤ only b f) +ℤ L) +ℤ ((only a g -ℤ only b g) +ℤ M)) ≤ℤ pos (cond (xor a b) c 0 + k)
link_plus true true f g L M c k h r = omega (arith, whole)
link_plus true false f g L M c k h r = omega (arith, whole)
link_plus false true f g L M c k h r = omega (arith, whole)
link_plus false false f g L M c k h r = omega (arith, whole)

link_minus : (a b : Bool) (f g L M : ℤ) (c k : ℕ) → nat_abs f + nat_abs g ≤ c → (L -ℤ M) ≤ℤ pos k → (((only a f -ℤ only b f) +ℤ L) -ℤ ((only a g -ℤ only b g) +ℤ M)) ≤ℤ pos (cond (xor a b) c 0 + k)
link_minus true true f g L M c k h r = omega (arith, whole)
link_minus true false f g L M c k h r = omega (arith, whole)
link_minus false true f g L M c k h r = omega (arith, whole)
link_minus false false f g L M c k h r = omega (arith, whole)

nothing : (pos 0) ≤ℤ pos 0
nothing = omega (arith, whole)

times_cond : (b : Bool) (q k : ℕ) → cond b (q * k) 0 ≡ q * cond b k 0
times_cond true q k = refl
times_cond false q k = sym (mul-zero q)

module _ {X : Type 0} (low high : X → ℕ) where
  pub bound_one : (limit : X → ℕ) (S : ℕ → Bool) (ls : List X) (fs : List ℤ) → Within limit ls fs → leaving low high S ls fs ≤ℤ pos (side_slots low high limit S ls)
  bound_one limit S [] fs w = nothing
  bound_one limit S (l ∷ ls) fs w =
      link_one (S (low l)) (S (high l)) (here fs) (leaving low high S ls (after fs)) (limit l) (side_slots low high limit S ls) (w 0 l (omega arith)) (bound_one limit S ls (after fs) (within_after limit l ls fs w))

  pub bound_plus : (capacity : X → ℕ) (S : ℕ → Bool) (ls : List X) (fs gs : List ℤ) → Shared capacity ls fs gs → (leaving low high S ls fs +ℤ leaving low high S ls gs) ≤ℤ pos (side_slots low high capacity S ls)
  bound_plus capacity S [] fs gs w = nothing
  bound_plus capacity S (l ∷ ls) fs gs w =
      link_plus (S (low l)) (S (high l)) (here fs) (here gs) (leaving low high S ls (after fs)) (leaving low high S ls (after gs)) (capacity l) (side_slots low high capacity S ls) (w 0 l (omega arith)) (bound_plus capacity S ls (after fs) (after gs) (shared_after capacity l ls fs gs w))

  pub bound_minus : (capacity : X → ℕ) (S : ℕ → Bool) (ls : List X) (fs gs : List ℤ) → Shared capacity ls fs gs → (leaving low high S ls fs -ℤ leaving low high S ls gs) ≤ℤ pos (side_slots low high capacity S ls)
  bound_minus capacity S [] fs gs w = nothing
  bound_minus capacity S (l ∷ ls) fs gs w =
      link_minus (S (low l)) (S (high l)) (here fs) (here gs) (leaving low high S ls (after fs)) (leaving low high S ls (after gs)) (capacity l) (side_slots low high capacity S ls) (w 0 l (omega arith)) (bound_minus capacity S ls (after fs) (after gs) (shared_after capacity l ls fs gs w))

  -- all slots multiplied by q
  pub slots_scaled : (capacity : X → ℕ) (q : ℕ) (S : ℕ → Bool) (ls : List X) → side_slots low high (λ l. q * capacity l) S ls ≡ q * side_slots low high capacity S ls
  slots_scaled capacity q S [] = sym (mul-zero q)
  slots_scaled capacity q S (l ∷ ls) = ap₂ ◌+◌ (times_cond (crosses low high S l) q (capacity l)) (slots_scaled capacity q S ls) ∙ sym (mul-add q (cond (crosses low high S l) (capacity l) 0) (side_slots low high capacity S ls))
