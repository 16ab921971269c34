-- Double counting: the nets of a side's cabinets add up to what leaves the side.
use Rattle.std.proofs.Common.{◌≡◌, ℕ, suc, ◌<◌, Bool, true, false, eqb, List, [], ◌∷◌, ℤ, pos, ◌+ℤ◌, ◌-ℤ◌, neg_ℤ, sym, refl, ap, ◌∙◌, ap₂, arith}
use lib.IntN.{+ℤ_idl, +ℤ_idr}
use Rattle.std.proofs.lemmas.Bool.{eqb-true, eqb-false, true≢false, false≢true}
use Rattle.flow.specs.Nets.{only, here, after, sum_below, leaving, net, Inside}
use Rattle.flow.specs.Plans.{Conserved}
use Rattle.flow.proofs.Sums.{whole, only_zero, sum_add, sum_sub, sum_same, sum_zero, sum_at}

only_link : (s a b : Bool) (f r : ℤ) → only s ((only a f -ℤ only b f) +ℤ r) ≡ (only a (only s f) -ℤ only b (only s f)) +ℤ only s r
only_link true a b f r = refl
only_link false true true f r = refl
only_link false true false f r = refl
only_link false false true f r = refl
only_link false false false f r = refl

-- both of two different places, where nothing else is
two_at : (a b : Bool) (x : ℤ) → (a ≡ true → b ≡ true → ⊥) → (a ≡ false → b ≡ false → x ≡ pos 0) → x ≡ only a x +ℤ only b x
two_at true true x nb z = absurd (nb refl refl)
two_at true false x nb z = sym (+ℤ_idr x)
two_at false true x nb z = sym (+ℤ_idl x)
two_at false false x nb z = z refl refl

cancels : (a r : ℤ) → r ≡ pos 0 → (a -ℤ a) +ℤ r ≡ pos 0
cancels a r e = omega (arith, whole)

split : (a b : Bool) (x y w : ℤ) → w ≡ only a x +ℤ only b y → x +ℤ y ≡ pos 0 → (a ≡ true → b ≡ false → w ≡ x) × (a ≡ false → b ≡ true → w ≡ neg_ℤ x)
split true true x y w e z = (λ _ q. absurd (true≢false q), λ p _. absurd (true≢false p))
split true false x y w e z = (λ _ _. omega (arith, whole), λ p _. absurd (true≢false p))
split false true x y w e z = (λ p _. absurd (false≢true p), λ _ _. omega (arith, whole))
split false false x y w e z = (λ p _. absurd (false≢true p), λ _ q. absurd (false≢true q))

module _ {X : Type 0} (low high : X → ℕ) where
  pub inside_after : (n : ℕ) (l : X) (ls : List X) → Inside low high n (l ∷ ls) → Inside low high n ls
  inside_after n l ls i k d h = i (suc k) d (omega arith)

  pub counted : (S : ℕ → Bool) (n : ℕ) (ls : List X) (fs : List ℤ) → Inside low high n ls → sum_below (λ v. only (S v) (net low high ls fs v)) n ≡ leaving low high S ls fs
  counted S n [] fs i = sum_zero (λ v. only (S v) (pos 0)) n (λ v l. only_zero (S v))
  counted S n (l ∷ ls) fs i =
      sum_same
      (λ v. only (S v) (net low high (l ∷ ls) fs v))
      (λ v. (only (eqb (low l) v) (only (S v) (here fs)) -ℤ only (eqb (high l) v) (only (S v) (here fs))) +ℤ only (S v) (net low high ls (after fs) v))
      n
      (λ v _. only_link (S v) (eqb (low l) v) (eqb (high l) v) (here fs) (net low high ls (after fs) v))
      ∙ sum_add (λ v. only (eqb (low l) v) (only (S v) (here fs)) -ℤ only (eqb (high l) v) (only (S v) (here fs))) (λ v. only (S v) (net low high ls (after fs) v)) n
      ∙ ap₂
      ◌+ℤ◌
      (sum_sub (λ v. only (eqb (low l) v) (only (S v) (here fs))) (λ v. only (eqb (high l) v) (only (S v) (here fs))) n
      ∙ ap₂ ◌-ℤ◌ (sum_at (λ v. only (S v) (here fs)) (low l) n (i 0 l (omega arith)).0) (sum_at (λ v. only (S v) (here fs)) (high l) n (i 0 l (omega arith)).1))
      (counted S n ls (after fs) (inside_after n l ls i))

  -- nothing leaves the whole
  pub whole_zero : (ls : List X) (fs : List ℤ) → leaving low high (λ _. true) ls fs ≡ pos 0
  whole_zero [] fs = refl
  whole_zero (l ∷ ls) fs = cancels (here fs) (leaving low high (λ _. true) ls (after fs)) (whole_zero ls (after fs))

  -- what a stream that is conserved sends over a side
  pub across : (S : ℕ → Bool) (n s t : ℕ) (ls : List X) (fs : List ℤ) → Inside low high n ls → s < n → t < n → (s ≡ t → ⊥) → Conserved low high n s t ls fs → leaving low high S ls fs ≡ only (S s) (net low high ls fs s) +ℤ only (S t) (net low high ls fs t)
  across S n s t ls fs i s< t< ne c =
      sym (counted S n ls fs i)
      ∙ sum_same
      (λ v. only (S v) (net low high ls fs v))
      (λ v. only (eqb s v) (only (S v) (net low high ls fs v)) +ℤ only (eqb t v) (only (S v) (net low high ls fs v)))
      n
      (λ v k. two_at (eqb s v) (eqb t v) (only (S v) (net low high ls fs v)) (λ p q. ne (eqb-true s v p ∙ sym (eqb-true t v q))) (λ p q. ap (only (S v)) (c v k (λ e. eqb-false s v p (sym e)) (λ e. eqb-false t v q (sym e))) ∙ only_zero (S v)))
      ∙ sum_add (λ v. only (eqb s v) (only (S v) (net low high ls fs v))) (λ v. only (eqb t v) (only (S v) (net low high ls fs v))) n
      ∙ ap₂ ◌+ℤ◌ (sum_at (λ v. only (S v) (net low high ls fs v)) s n s<) (sum_at (λ v. only (S v) (net low high ls fs v)) t n t<)

  -- a stream's total, seen at any side that parts its ends
  pub parted : (S : ℕ → Bool) (n s t : ℕ) (ls : List X) (fs : List ℤ) → Inside low high n ls → s < n → t < n → (s ≡ t → ⊥) → Conserved low high n s t ls fs → (S s ≡ true → S t ≡ false → leaving low high S ls fs ≡ net low high ls fs s) × (S s ≡ false → S t ≡ true → leaving low high S ls fs ≡ neg_ℤ (net low high ls fs s))
  parted S n s t ls fs i s< t< ne c =
      split (S s) (S t) (net low high ls fs s) (net low high ls fs t) (leaving low high S ls fs) (across S n s t ls fs i s< t< ne c) (sym (across (λ _. true) n s t ls fs i s< t< ne c) ∙ whole_zero ls fs)
