-- What a change of the links does to the slots of a side.
use Rattle.std.proofs.Common.{◌≡◌, ℕ, zero, suc, ◌+◌, ◌-◌, ◌<◌, ◌≤◌, Bool, true, false, cond, List, [], ◌∷◌, ◌++◌, length, get_or, take, set, ℤ, pos, ◌+ℤ◌, ◌≤ℤ◌, sum_by, sym, refl, ap, ◌∙◌, ap₂, arith}
use Rattle.std.specs.List.{remove}
use Rattle.std.specs.List.Sorted.{IsPermutation}
use Rattle.std.proofs.lemmas.List.Sums.{sum_by-cons, sum_by_more}
use Rattle.std.proofs.lemmas.List.Sorted.{sum_by-IsPermutation}
use Rattle.std.proofs.lemmas.Bool.{true≢false, false≢true}
use Rattle.flow.specs.declared.pairs.Pairs.{Pairs}
use Rattle.flow.specs.Nets.{xor, crosses, side_slots, Inside}
use Rattle.flow.specs.Plans.{Proper, Held, total_one, sum_of}
use Rattle.flow.specs.Nearness.{Near}
use Rattle.flow.specs.Laws.{Changes}
use Rattle.flow.proofs.Sums.{whole}
use Rattle.flow.proofs.Duality.{first_bound, sum_bound}

pub near_same : (x y : ℕ) → y ≡ x → Near x y 0 0
near_same x y e = record { rise = omega arith; fall = omega arith }

pub near_then : (x y z a k b l : ℕ) → Near x y a k → Near y z b l → Near x z (a + b) (k + l)
near_then x y z a k b l n m = record { rise = omega arith; fall = omega arith }

pub near_wide : (x y a k b l : ℕ) → Near x y a k → a ≤ b → k ≤ l → Near x y b l
near_wide x y a k b l n p q = record { rise = omega arith; fall = omega arith }

near_past : (n x y a k : ℕ) → Near x y a k → Near (n + x) (n + y) a k
near_past n x y a k h = record { rise = omega arith; fall = omega arith }

one_more : (b : Bool) (n : ℕ) → Near 0 (cond b n 0 + 0) n 0
one_more true n = record { rise = omega arith; fall = omega arith }
one_more false n = record { rise = omega arith; fall = omega arith }

one_other : (b c : Bool) (m n x : ℕ) → c ≡ b → Near (cond b m 0 + x) (cond c n 0 + x) (n - m) (m - n)
one_other true true m n x e = record { rise = omega arith; fall = omega arith }
one_other true false m n x e = absurd (false≢true e)
one_other false true m n x e = absurd (true≢false e)
one_other false false m n x e = record { rise = omega arith; fall = omega arith }

one_less : (b : Bool) (n x : ℕ) → Near (cond b n 0 + x) x 0 n
one_less true n x = record { rise = omega arith; fall = omega arith }
one_less false n x = record { rise = omega arith; fall = omega arith }

module _ {X : Type 0} (low high capacity : X → ℕ) where
  -- the slots of a side as a sum over the links
  pub slots_sumBy : (S : ℕ → Bool) (ls : List X) → side_slots low high capacity S ls ≡ sum_by (λ l. cond (crosses low high S l) (capacity l) 0) ls
  slots_sumBy S [] = refl
  slots_sumBy S (l ∷ ls) = ap (λ k. cond (crosses low high S l) (capacity l) 0 + k) (slots_sumBy S ls) ∙ sym (sum_by-cons (λ l. cond (crosses low high S l) (capacity l) 0) l ls)

  -- a loop's step over the links
  pub slots_more : (S : ℕ → Bool) (ls : List X) (i : ℕ) (d : X) → i < length ls → side_slots low high capacity S (take (i + 1) ls) ≡ side_slots low high capacity S (take i ls) + cond (crosses low high S (get_or ls i d)) (capacity (get_or ls i d)) 0
  slots_more S ls i d h = slots_sumBy S (take (i + 1) ls) ∙ sum_by_more (λ l. cond (crosses low high S l) (capacity l) 0) ls i d h ∙ ap (λ m. m + cond (crosses low high S (get_or ls i d)) (capacity (get_or ls i d)) 0) (sym (slots_sumBy S (take i ls)))

  module _ (S : ℕ → Bool) where
    pub slots_added : (ls : List X) (l : X) → Near (side_slots low high capacity S ls) (side_slots low high capacity S (ls ++ l ∷ [])) (capacity l) 0
    slots_added [] l = one_more (crosses low high S l) (capacity l)
    slots_added (m ∷ ls) l = near_past (cond (crosses low high S m) (capacity m) 0) _ _ _ _ (slots_added ls l)

    pub slots_resized : (ls : List X) (k : ℕ) (l d : X) → low l ≡ low (get_or ls k d) → high l ≡ high (get_or ls k d) → Near (side_slots low high capacity S ls) (side_slots low high capacity S (set ls k l)) (capacity l - capacity (get_or ls k d)) (capacity (get_or ls k d) - capacity l)
    slots_resized [] k l d a b = record { rise = omega arith; fall = omega arith }
    slots_resized (m ∷ ls) zero l d a b = one_other (crosses low high S m) (crosses low high S l) (capacity m) (capacity l) (side_slots low high capacity S ls) (ap₂ (λ u v. xor (S u) (S v)) a b)
    slots_resized (m ∷ ls) (suc k) l d a b = near_past (cond (crosses low high S m) (capacity m) 0) _ _ _ _ (slots_resized ls k l d a b)

    pub slots_dropped : (ls : List X) (k : ℕ) (d : X) → k < length ls → Near (side_slots low high capacity S ls) (side_slots low high capacity S (remove ls k)) 0 (capacity (get_or ls k d))
    slots_dropped [] k d h = absurd (omega arith)
    slots_dropped (m ∷ ls) zero d h = one_less (crosses low high S m) (capacity m) (side_slots low high capacity S ls)
    slots_dropped (m ∷ ls) (suc k) d h = near_past (cond (crosses low high S m) (capacity m) 0) _ _ _ _ (slots_dropped ls k d (omega arith))

    pub slots_renumbered : (ls ms : List X) → IsPermutation ls ms → Near (side_slots low high capacity S ls) (side_slots low high capacity S ms) 0 0
    slots_renumbered ls ms s = near_same _ _ (slots_sumBy S ms ∙ sum_by-IsPermutation (λ l. cond (crosses low high S l) (capacity l) 0) ls ms s ∙ sym (slots_sumBy S ls))

    pub changes : Changes low high capacity S
    changes = record { added = slots_added; resized = slots_resized; dropped = slots_dropped; renumbered = slots_renumbered }

rises : (x y : ℤ) (m n a : ℕ) → x ≤ℤ pos n → n ≤ m + a → y ≡ pos m → x ≤ℤ (y +ℤ pos a)
rises x y m n a h k e = omega (arith, whole)

pub sums_near : {X : Type 0} (low high capacity : X → ℕ) (n : ℕ) (p : Pairs) (ls ms : List X) (fs gs hs ks : List ℤ) (cut first cut' first' : ℕ → Bool) (added taken : ℕ) → Inside low high n ls → Inside low high n ms → Proper n p → ((S : ℕ → Bool) → Near (side_slots low high capacity S ls) (side_slots low high capacity S ms) added taken) → Held low high capacity n p ls fs gs cut first → Held low high capacity n p ms hs ks cut' first' → (sum_of low high p ms hs ks ≤ℤ (sum_of low high p ls fs gs +ℤ pos added)) × (sum_of low high p ls fs gs ≤ℤ (sum_of low high p ms hs ks +ℤ pos taken)) × (total_one low high p ms hs ≤ℤ (total_one low high p ls fs +ℤ pos added)) × (total_one low high p ls fs ≤ℤ (total_one low high p ms hs +ℤ pos taken))
sums_near low high capacity n p ls ms fs gs hs ks cut first cut' first' added taken i j pr near h m = (
  rises _ _ (side_slots low high capacity cut ls) (side_slots low high capacity cut ms) added (sum_bound low high capacity n p ms hs ks j pr m.feasible cut h.sum_side) (near cut).rise h.sum_is,
  rises _ _ (side_slots low high capacity cut' ms) (side_slots low high capacity cut' ls) taken (sum_bound low high capacity n p ls fs gs i pr h.feasible cut' m.sum_side) (near cut').fall m.sum_is,
  rises _ _ (side_slots low high capacity first ls) (side_slots low high capacity first ms) added (first_bound low high capacity n p ms hs ks j pr m.feasible first h.first_side) (near first).rise h.first_is,
  rises _ _ (side_slots low high capacity first' ms) (side_slots low high capacity first' ls) taken (first_bound low high capacity n p ls fs gs i pr h.feasible first' m.first_side) (near first').fall m.first_is,
)
