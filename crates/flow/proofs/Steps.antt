-- The steps of a loop over the links, and of a write to one place of a flow.
use Rattle.std.proofs.Common.{◌≡◌, ℕ, zero, suc, ◌+◌, ◌<◌, ◌≤◌, Bool, true, false, cond, List, [], ◌∷◌, length, get_or, take, set, ℤ, pos, ◌+ℤ◌, ◌-ℤ◌, nat_abs, sym, refl, ap, ◌∙◌, subst, ap₂, ⊎_elim, add-one, arith}
use lib.IntN.{+ℤ_idl, +ℤ_idr}
use Rattle.std.proofs.lemmas.List.{get_or-set_same, get_or-set_other, get_or_default}
use Rattle.std.proofs.lemmas.Bool.{cases_eq}
use Rattle.flow.specs.Nets.{only, here, after, leaving, crosses, side_slots}
use Rattle.flow.specs.Answers.{Within}
use Rattle.flow.proofs.Sums.{whole}
use Rattle.flow.proofs.Bounds.{after_at}
use Rattle.flow.proofs.Changing.{slots_more}

past : (a b c d : ℤ) → c ≡ a +ℤ b → d +ℤ c ≡ (d +ℤ a) +ℤ b
past a b c d e = omega (arith, whole)

link_add : (a b : Bool) (x y r : ℤ) → (only a (x +ℤ y) -ℤ only b (x +ℤ y)) +ℤ r ≡ ((only a x -ℤ only b x) +ℤ r) +ℤ (only a y -ℤ only b y)
link_add true true x y r = omega (arith, whole)
link_add true false x y r = omega (arith, whole)
link_add false true x y r = omega (arith, whole)
link_add false false x y r = omega (arith, whole)

pos_add : (x y : ℤ) (a b : ℕ) → x ≡ pos a → y ≡ pos b → x +ℤ y ≡ pos (a + b)
pos_add x y a b e f = omega (arith, whole)

module _ {X : Type 0} (low high : X → ℕ) where
  more : (S : ℕ → Bool) (ls : List X) (fs : List ℤ) (i : ℕ) (d : X) → i < length ls → leaving low high S (take (suc i) ls) fs ≡ leaving low high S (take i ls) fs +ℤ (only (S (low (get_or ls i d))) (get_or fs i (pos 0)) -ℤ only (S (high (get_or ls i d))) (get_or fs i (pos 0)))
  more S [] fs i d h = absurd (omega arith)
  more S (l ∷ ls) fs zero d h = +ℤ_idr (only (S (low l)) (here fs) -ℤ only (S (high l)) (here fs)) ∙ sym (+ℤ_idl (only (S (low l)) (here fs) -ℤ only (S (high l)) (here fs)))
  more S (l ∷ ls) fs (suc i) d h =
      past (leaving low high S (take i ls) (after fs)) (only (S (low (get_or ls i d))) (get_or fs (suc i) (pos 0)) -ℤ only (S (high (get_or ls i d))) (get_or fs (suc i) (pos 0))) (leaving low high S (take (suc i) ls) (after fs)) (only (S (low l)) (here fs) -ℤ only (S (high l)) (here fs))
      (more S ls (after fs) i d (omega arith) ∙ ap (λ x. leaving low high S (take i ls) (after fs) +ℤ (only (S (low (get_or ls i d))) x -ℤ only (S (high (get_or ls i d))) x)) (after_at fs i))

  -- one link more, which is x
  pub leaving_step : (S : ℕ → Bool) (ls : List X) (fs : List ℤ) (i : ℕ) (x : X) → x ≡ get_or ls i x → i < length ls → leaving low high S (take (i + 1) ls) fs ≡ leaving low high S (take i ls) fs +ℤ (only (S (low x)) (get_or fs i (pos 0)) -ℤ only (S (high x)) (get_or fs i (pos 0)))
  leaving_step S ls fs i x e h =
      rw add-one (more S ls fs i x h ∙ ap (λ y. leaving low high S (take i ls) fs +ℤ (only (S (low y)) (get_or fs i (pos 0)) -ℤ only (S (high y)) (get_or fs i (pos 0)))) (sym e))

  pub slots_step : (capacity : X → ℕ) (S : ℕ → Bool) (ls : List X) (i : ℕ) (x : X) → x ≡ get_or ls i x → i < length ls → side_slots low high capacity S (take (i + 1) ls) ≡ side_slots low high capacity S (take i ls) + cond (crosses low high S x) (capacity x) 0
  slots_step capacity S ls i x e h = slots_more low high capacity S ls i x h ∙ ap (λ y. side_slots low high capacity S (take i ls) + cond (crosses low high S y) (capacity y) 0) (sym e)

  -- flows that carry the same on every link
  pub leaving_same : (S : ℕ → Bool) (ls : List X) (fs gs : List ℤ) → ((k : ℕ) → k < length ls → get_or fs k (pos 0) ≡ get_or gs k (pos 0)) → leaving low high S ls fs ≡ leaving low high S ls gs
  leaving_same S [] fs gs e = refl
  leaving_same S (l ∷ ls) fs gs e =
      ap₂ ◌+ℤ◌ (ap (λ x. only (S (low l)) x -ℤ only (S (high l)) x) (e 0 (omega arith))) (leaving_same S ls (after fs) (after gs) (λ k h. after_at fs k ∙ e (suc k) (omega arith) ∙ sym (after_at gs k)))

  -- y more on the link k leaves where the link leaves
  pub leaving_set : (S : ℕ → Bool) (ls : List X) (fs : List ℤ) (k : ℕ) (y : ℤ) (d : X) → k < length ls → k < length fs → leaving low high S ls (set fs k (get_or fs k (pos 0) +ℤ y)) ≡ leaving low high S ls fs +ℤ (only (S (low (get_or ls k d))) y -ℤ only (S (high (get_or ls k d))) y)
  leaving_set S [] fs k y d h q = absurd (omega arith)
  leaving_set S (x ∷ ls) [] k y d h q = absurd (omega arith)
  leaving_set S (x ∷ ls) (f ∷ fs) zero y d h q = link_add (S (low x)) (S (high x)) f y (leaving low high S ls fs)
  leaving_set S (x ∷ ls) (f ∷ fs) (suc k) y d h q =
      past (leaving low high S ls fs) _ _ (only (S (low x)) f -ℤ only (S (high x)) f) (leaving_set S ls fs k y d (omega arith) (omega arith))

  -- as much as its slots leaves a side where each link that crosses it is full outward
  pub leaving_full : (limit : X → ℕ) (S : ℕ → Bool) (d : X) (ls : List X) (fs : List ℤ) → ((k : ℕ) → k < length ls → only (S (low (get_or ls k d))) (get_or fs k (pos 0)) -ℤ only (S (high (get_or ls k d))) (get_or fs k (pos 0)) ≡ pos (cond (crosses low high S (get_or ls k d)) (limit (get_or ls k d)) 0)) → leaving low high S ls fs ≡ pos (side_slots low high limit S ls)
  leaving_full limit S d [] fs w = refl
  leaving_full limit S d (l ∷ ls) fs w =
      pos_add _ _ _ _ (w 0 (omega arith)) (leaving_full limit S d ls (after fs) (λ k h. ap (λ x. only (S (low (get_or ls k d))) x -ℤ only (S (high (get_or ls k d))) x) (after_at fs k) ∙ w (suc k) (omega arith)))

-- a write within the link's limit keeps the limits
pub within_set : {X : Type 0} (limit : X → ℕ) (ls : List X) (fs : List ℤ) (k : ℕ) (x : ℤ) (d : X) → k < length fs → Within limit ls fs → nat_abs x ≤ limit (get_or ls k d) → Within limit ls (set fs k x)
within_set limit ls fs k x d long w fits j e h =
    ⊎_elim
    (λ q. subst (λ m. nat_abs (get_or (set fs k x) m (pos 0)) ≤ limit (get_or ls m e)) (sym q)
    (let lt : k < length ls = omega (arith, q) in
    subst (λ z. nat_abs z ≤ limit (get_or ls k e)) (sym (get_or-set_same fs k x (pos 0) long)) (subst (λ a. nat_abs x ≤ limit a) (get_or_default ls k d e lt) fits)))
    (λ ne. subst (λ z. nat_abs z ≤ limit (get_or ls j e)) (sym (get_or-set_other fs k j x (pos 0) ne)) (w j e h))
    (cases_eq j k)
