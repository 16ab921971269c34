-- Sums of whole numbers over the cabinets below n.
use Rattle.std.proofs.Common.{◌≡◌, ℕ, zero, suc, ◌<◌, Bool, true, false, eqb, ◌⊎◌, ℤ, pos, ◌+ℤ◌, ◌-ℤ◌, sym, refl, ap, ◌∙◌, ap₂, inl, inr, le_refl, arith}
use lib.IntN.{+ℤ_idl, +ℤ_idr}
use borrow.Author.Differences.{same_in, same_out, sum_is_lem, neg_is, abs_is, le_out, at_most_in, lt_out, below_in}
use Rattle.std.proofs.lemmas.Bool.{eq-eqb, ne_eqb, cases_eq}
use Rattle.flow.specs.Nets.{only, sum_below}

-- what `omega` needs of whole numbers here
pub ruleset whole = (same_in, same_out, sum_is_lem, neg_is, abs_is, le_out, at_most_in, lt_out, below_in)

pub only_true : (b : Bool) (z : ℤ) → b ≡ true → only b z ≡ z
only_true b z e = ap (λ t. only t z) e

pub only_false : (b : Bool) (z : ℤ) → b ≡ false → only b z ≡ pos 0
only_false b z e = ap (λ t. only t z) e

pub only_zero : (b : Bool) → only b (pos 0) ≡ pos 0
only_zero true = refl
only_zero false = refl

regroup_add : (a b c d : ℤ) → (a +ℤ b) +ℤ (c +ℤ d) ≡ (a +ℤ c) +ℤ (b +ℤ d)
regroup_add a b c d = omega (arith, whole)

regroup_sub : (a b c d : ℤ) → (a -ℤ b) +ℤ (c -ℤ d) ≡ (a +ℤ c) -ℤ (b +ℤ d)
regroup_sub a b c d = omega (arith, whole)

pub sum_add : (g h : ℕ → ℤ) (n : ℕ) → sum_below (λ v. g v +ℤ h v) n ≡ sum_below g n +ℤ sum_below h n
unfolding sum_below
sum_add g h zero = refl
sum_add g h (suc n) = ap (λ z. z +ℤ (g n +ℤ h n)) (sum_add g h n) ∙ regroup_add (sum_below g n) (sum_below h n) (g n) (h n)

pub sum_sub : (g h : ℕ → ℤ) (n : ℕ) → sum_below (λ v. g v -ℤ h v) n ≡ sum_below g n -ℤ sum_below h n
unfolding sum_below
sum_sub g h zero = refl
sum_sub g h (suc n) = ap (λ z. z +ℤ (g n -ℤ h n)) (sum_sub g h n) ∙ regroup_sub (sum_below g n) (sum_below h n) (g n) (h n)

pub sum_same : (g h : ℕ → ℤ) (n : ℕ) → ((v : ℕ) → v < n → g v ≡ h v) → sum_below g n ≡ sum_below h n
unfolding sum_below
sum_same g h zero e = refl
sum_same g h (suc n) e = ap₂ ◌+ℤ◌ (sum_same g h n (λ v l. e v (omega arith))) (e n (le_refl (suc n)))

pub sum_zero : (g : ℕ → ℤ) (n : ℕ) → ((v : ℕ) → v < n → g v ≡ pos 0) → sum_below g n ≡ pos 0
unfolding sum_below
sum_zero g zero e = refl
sum_zero g (suc n) e = ap₂ ◌+ℤ◌ (sum_zero g n (λ v l. e v (omega arith))) (e n (le_refl (suc n)))

-- one place out of n
at_step : (g : ℕ → ℤ) (a n : ℕ) → a < suc n → (a < n → sum_below (λ v. only (eqb a v) (g v)) n ≡ g a) → (a ≡ n) ⊎ (a ≡ n → ⊥) → sum_below (λ v. only (eqb a v) (g v)) n +ℤ only (eqb a n) (g n) ≡ g a
at_step g a n l rec (inl e) =
    ap₂ ◌+ℤ◌ (sum_zero (λ v. only (eqb a v) (g v)) n (λ v k. only_false (eqb a v) (g v) (ne_eqb a v (λ q. omega arith)))) (only_true (eqb a n) (g n) (eq-eqb a n e) ∙ ap g (sym e))
    ∙ +ℤ_idl (g a)
at_step g a n l rec (inr ne) =
    ap₂ ◌+ℤ◌ (rec (omega arith)) (only_false (eqb a n) (g n) (ne_eqb a n ne)) ∙ +ℤ_idr (g a)

pub sum_at : (g : ℕ → ℤ) (a n : ℕ) → a < n → sum_below (λ v. only (eqb a v) (g v)) n ≡ g a
unfolding sum_below
sum_at g a zero l = absurd (omega arith)
sum_at g a (suc n) l = at_step g a n l (λ k. sum_at g a n k) (cases_eq a n)
