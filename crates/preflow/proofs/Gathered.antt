-- What a preflow sends over a side, with the excess inside, is what is gained there.
use Rattle.std.proofs.Common.{◌≡◌, ℕ, zero, suc, ◌<◌, Bool, true, false, eqb, List, ℤ, pos, ◌+ℤ◌, ◌-ℤ◌, ◌≤ℤ◌, sym, refl, ap, ◌∙◌, ap₂, ⊎_elim, arith}
use Rattle.std.proofs.lemmas.Bool.{cases_eq}
use Rattle.flow.specs.declared.taps.Taps.{Taps}
use Rattle.flow.specs.Nets.{only, sum_below, leaving, net, Inside}
use Rattle.flow.specs.Answers.{Placed, gain}
use Rattle.flow.proofs.Sums.{whole, only_true, only_zero, sum_add, sum_sub, sum_same, sum_at}
use Rattle.flow.proofs.Counting.{counted}

only_four : (s a b c d : Bool) (x y z w : ℤ) → only s ((only a x +ℤ only b y) -ℤ (only c z +ℤ only d w)) ≡ (only a (only s x) +ℤ only b (only s y)) -ℤ (only c (only s z) +ℤ only d (only s w))
only_four true a b c d x y z w = refl
only_four false a b c d x y z w = sym (ap₂ ◌-ℤ◌ (ap₂ ◌+ℤ◌ (only_zero a) (only_zero b)) (ap₂ ◌+ℤ◌ (only_zero c) (only_zero d)))

only_sum : (s : Bool) (x y : ℤ) → only s (x +ℤ y) ≡ only s x +ℤ only s y
only_sum true x y = refl
only_sum false x y = refl

-- what the cabinets of a side gain adds up to what the side gains
pub gain_sum : (n : ℕ) (at amount : Taps ℕ) → Placed n at → (S : ℕ → Bool) → sum_below (λ v. only (S v) (gain at amount (λ u. eqb u v))) n ≡ gain at amount S
gain_sum n at amount pl S =
    sum_same
    (λ v. only (S v) (gain at amount (λ u. eqb u v)))
    (λ v. (f1 v +ℤ f2 v) -ℤ (d1 v +ℤ d2 v))
    n
    (λ v k. only_four (S v) (eqb at.feed1 v) (eqb at.feed2 v) (eqb at.drain1 v) (eqb at.drain2 v) (pos amount.feed1) (pos amount.feed2) (pos amount.drain1) (pos amount.drain2))
    ∙ sum_sub (λ v. f1 v +ℤ f2 v) (λ v. d1 v +ℤ d2 v) n
    ∙ ap₂
    ◌-ℤ◌
    (sum_add f1 f2 n ∙ ap₂ ◌+ℤ◌ (sum_at (λ v. only (S v) (pos amount.feed1)) at.feed1 n pl.0) (sum_at (λ v. only (S v) (pos amount.feed2)) at.feed2 n pl.1))
    (sum_add d1 d2 n ∙ ap₂ ◌+ℤ◌ (sum_at (λ v. only (S v) (pos amount.drain1)) at.drain1 n pl.2) (sum_at (λ v. only (S v) (pos amount.drain2)) at.drain2 n pl.3))
  where
    f1 : ℕ → ℤ
    f1 v = only (eqb at.feed1 v) (only (S v) (pos amount.feed1))

    f2 : ℕ → ℤ
    f2 v = only (eqb at.feed2 v) (only (S v) (pos amount.feed2))

    d1 : ℕ → ℤ
    d1 v = only (eqb at.drain1 v) (only (S v) (pos amount.drain1))

    d2 : ℕ → ℤ
    d2 v = only (eqb at.drain2 v) (only (S v) (pos amount.drain2))

pub gathered : {X : Type 0} (low high : X → ℕ) (n : ℕ) (ls : List X) (at amount : Taps ℕ) (fs : List ℤ) (e : ℕ → ℕ) → Inside low high n ls → Placed n at → ((v : ℕ) → v < n → net low high ls fs v +ℤ pos (e v) ≡ gain at amount (λ u. eqb u v)) → (S : ℕ → Bool) → leaving low high S ls fs +ℤ sum_below (λ v. only (S v) (pos (e v))) n ≡ gain at amount S
gathered low high n ls at amount fs e i pl ex S =
    ap (λ z. z +ℤ sum_below (λ v. only (S v) (pos (e v))) n) (sym (counted low high S n ls fs i))
    ∙ sym (sum_add (λ v. only (S v) (net low high ls fs v)) (λ v. only (S v) (pos (e v))) n)
    ∙ sum_same
    (λ v. only (S v) (net low high ls fs v) +ℤ only (S v) (pos (e v)))
    (λ v. only (S v) (gain at amount (λ u. eqb u v)))
    n
    (λ v k. sym (only_sum (S v) (net low high ls fs v) (pos (e v))) ∙ ap (only (S v)) (ex v k))
    ∙ gain_sum n at amount pl S

pub only_up : (b : Bool) (n : ℕ) → pos 0 ≤ℤ only b (pos n)
only_up true n = omega (arith, whole)
only_up false n = omega (arith, whole)

sum_up : (S : ℕ → Bool) (e : ℕ → ℕ) (n : ℕ) → pos 0 ≤ℤ sum_below (λ v. only (S v) (pos (e v))) n
unfolding sum_below
sum_up S e zero = omega (arith, whole)
sum_up S e (suc n) = omega (arith, whole, sum_up S e n, only_up (S n) (e n))

-- one cabinet's part in a sum over a side
pub sum_part : (S : ℕ → Bool) (e : ℕ → ℕ) (n v : ℕ) → v < n → S v ≡ true → pos (e v) ≤ℤ sum_below (λ w. only (S w) (pos (e w))) n
unfolding sum_below
sum_part S e zero v h t = absurd (omega arith)
sum_part S e (suc n) v h t =
    ⊎_elim
    (λ (same : v ≡ n).
    let here : only (S n) (pos (e n)) ≡ pos (e v) = ap (λ m. only (S m) (pos (e m))) (sym same) ∙ only_true (S v) (pos (e v)) t in
    omega (arith, whole, here, sum_up S e n))
    (λ (other : v ≡ n → ⊥). omega (arith, whole, sum_part S e n v (omega arith) t, only_up (S n) (e n)))
    (cases_eq v n)
