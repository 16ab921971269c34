-- What a balanced flow sends over any side; that no side costs less than what is fed; and when one costs just that.
use Rattle.std.proofs.Common.{◌≡◌, ℕ, ◌+◌, ◌≤◌, Bool, true, false, cond, eqb, List, ℤ, pos, ◌+ℤ◌, ◌-ℤ◌, ◌≤ℤ◌, sym, refl, ap, ◌∙◌, ap₂, arith}
use Rattle.flow.specs.declared.taps.Taps.{Taps}
use Rattle.flow.specs.Nets.{only, leaving, net, side_slots, Inside}
use Rattle.flow.specs.Answers.{Each, Placed, Within, gain, Balanced, cost}
use Rattle.flow.proofs.Sums.{whole, only_zero, sum_add, sum_sub, sum_same, sum_at}
use Rattle.flow.proofs.Counting.{counted, whole_zero}
use Rattle.flow.proofs.Bounds.{bound_one}

only_four : (s a b c d : Bool) (x y z w : ℤ) → only s ((only a x +ℤ only b y) -ℤ (only c z +ℤ only d w)) ≡ (only a (only s x) +ℤ only b (only s y)) -ℤ (only c (only s z) +ℤ only d (only s w))
only_four true a b c d x y z w = refl
only_four false a b c d x y z w = sym (ap₂ ◌-ℤ◌ (ap₂ ◌+ℤ◌ (only_zero a) (only_zero b)) (ap₂ ◌+ℤ◌ (only_zero c) (only_zero d)))

-- one feed's and one drain's part in the cost
feed_part : (b : Bool) (f l : ℕ) → f ≤ l → pos f ≤ℤ (pos (cond b 0 l) +ℤ only b (pos f))
feed_part true f l h = omega (arith, whole)
feed_part false f l h = omega (arith, whole)

drain_part : (b : Bool) (d l : ℕ) → d ≤ l → only b (pos d) ≤ℤ pos (cond b l 0)
drain_part true d l h = omega (arith, whole)
drain_part false d l h = omega (arith, whole)

feed_full : (b : Bool) (f l : ℕ) → (b ≡ false → f ≡ l) → pos f ≡ pos (cond b 0 l) +ℤ only b (pos f)
feed_full true f l h = omega (arith, whole)
feed_full false f l h = let e = h refl in omega (arith, whole)

drain_full : (b : Bool) (d l : ℕ) → (b ≡ true → d ≡ l) → only b (pos d) ≡ pos (cond b l 0)
drain_full true d l h = let e = h refl in omega (arith, whole)
drain_full false d l h = refl

price : (x y a b k c d : ℕ) (p q r s m : ℤ) → m ≡ (p +ℤ q) -ℤ (r +ℤ s) → m ≤ℤ pos k → pos x ≤ℤ (pos a +ℤ p) → pos y ≤ℤ (pos b +ℤ q) → r ≤ℤ pos c → s ≤ℤ pos d → x + y ≤ (a + b) + k + (c + d)
price x y a b k c d p q r s m e h f g i j = omega (arith, whole)

exact : (x y a b k c d : ℕ) (p q r s m : ℤ) → m ≡ (p +ℤ q) -ℤ (r +ℤ s) → m ≡ pos k → pos x ≡ pos a +ℤ p → pos y ≡ pos b +ℤ q → r ≡ pos c → s ≡ pos d → x + y ≡ (a + b) + k + (c + d)
exact x y a b k c d p q r s m e h f g i j = omega (arith, whole)

level : (x y z w : ℕ) → (pos x +ℤ pos y) -ℤ (pos z +ℤ pos w) ≡ pos 0 → x + y ≡ z + w
level x y z w e = omega (arith, whole)

module _ {X : Type 0} (low high : X → ℕ) (n : ℕ) (ls : List X) (at amount : Taps ℕ) (fs : List ℤ) (i : Inside low high n ls) (pl : Placed n at) (bal : Balanced low high n ls at amount fs) where
  -- what the flow sends over a side is what is gained inside
  pub gained : (S : ℕ → Bool) → leaving low high S ls fs ≡ gain at amount S
  gained S =
      sym (counted low high S n ls fs i)
      ∙ sum_same
      (λ v. only (S v) (net low high ls fs v))
      (λ v. (f1 v +ℤ f2 v) -ℤ (d1 v +ℤ d2 v))
      n
      (λ v k. ap (only (S v)) (bal v k) ∙ only_four (S v) (eqb at.feed1 v) (eqb at.feed2 v) (eqb at.drain1 v) (eqb at.drain2 v) (pos amount.feed1) (pos amount.feed2) (pos amount.drain1) (pos amount.drain2))
      ∙ sum_sub (λ v. f1 v +ℤ f2 v) (λ v. d1 v +ℤ d2 v) n
      ∙ ap₂
      ◌-ℤ◌
      (sum_add f1 f2 n ∙ ap₂ ◌+ℤ◌ (sum_at (λ v. only (S v) (pos amount.feed1)) at.feed1 n pl.0) (sum_at (λ v. only (S v) (pos amount.feed2)) at.feed2 n pl.1))
      (sum_add d1 d2 n ∙ ap₂ ◌+ℤ◌ (sum_at (λ v. only (S v) (pos amount.drain1)) at.drain1 n pl.2) (sum_at (λ v. only (S v) (pos amount.drain2)) at.drain2 n pl.3))
    where
      f1 : ℕ → ℤ
      f1 v = only (eqb at.feed1 v) (only (S v) (pos amount.feed1))

      f2 : ℕ → ℤ
      f2 v = only (eqb at.feed2 v) (only (S v) (pos amount.feed2))

      d1 : ℕ → ℤ
      d1 v = only (eqb at.drain1 v) (only (S v) (pos amount.drain1))

      d2 : ℕ → ℤ
      d2 v = only (eqb at.drain2 v) (only (S v) (pos amount.drain2))

  -- what is fed is drained
  pub fed_drained : amount.feed1 + amount.feed2 ≡ amount.drain1 + amount.drain2
  fed_drained = level amount.feed1 amount.feed2 amount.drain1 amount.drain2 (sym (gained (λ _. true)) ∙ whole_zero low high ls fs)

  module _ (limit : X → ℕ) (most : Taps ℕ) where
    -- no side costs less than what is fed
    pub fed_within : Within limit ls fs → Each ◌≤◌ amount most → (S : ℕ → Bool) → amount.feed1 + amount.feed2 ≤ cost low high limit at most ls S
    fed_within w a S =
        price amount.feed1 amount.feed2 (cond (S at.feed1) 0 most.feed1) (cond (S at.feed2) 0 most.feed2) (side_slots low high limit S ls) (cond (S at.drain1) most.drain1 0) (cond (S at.drain2) most.drain2 0) _ _ _ _ (leaving low high S ls fs) (gained S) (bound_one low high limit S ls fs w) (feed_part (S at.feed1) amount.feed1 most.feed1 a.0) (feed_part (S at.feed2) amount.feed2 most.feed2 a.1) (drain_part (S at.drain1) amount.drain1 most.drain1 a.2) (drain_part (S at.drain2) amount.drain2 most.drain2 a.3)

    -- a side whose links, feeds outside and drains inside are full costs just what is fed
    pub fed_full : (S : ℕ → Bool) → leaving low high S ls fs ≡ pos (side_slots low high limit S ls) → (S at.feed1 ≡ false → amount.feed1 ≡ most.feed1) → (S at.feed2 ≡ false → amount.feed2 ≡ most.feed2) → (S at.drain1 ≡ true → amount.drain1 ≡ most.drain1) → (S at.drain2 ≡ true → amount.drain2 ≡ most.drain2) → amount.feed1 + amount.feed2 ≡ cost low high limit at most ls S
    fed_full S full f1 f2 d1 d2 =
        exact amount.feed1 amount.feed2 (cond (S at.feed1) 0 most.feed1) (cond (S at.feed2) 0 most.feed2) (side_slots low high limit S ls) (cond (S at.drain1) most.drain1 0) (cond (S at.drain2) most.drain2 0) _ _ _ _ (leaving low high S ls fs) (gained S) full (feed_full (S at.feed1) amount.feed1 most.feed1 f1) (feed_full (S at.feed2) amount.feed2 most.feed2 f2) (drain_full (S at.drain1) amount.drain1 most.drain1 d1) (drain_full (S at.drain2) amount.drain2 most.drain2 d2)
