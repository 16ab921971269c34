-- What stays and what grows when more is sent.
use Rattle.std.proofs.Common.{◌≡◌, ℕ, ◌+◌, ◌-◌, ◌<◌, ◌≤◌, Bool, true, false, eqb, List, length, get_or, ℤ, pos, ◌+ℤ◌, ◌-ℤ◌, nat_abs, sym, refl, ◌∙◌, subst, ap₂, arith}
use Rattle.flow.specs.declared.taps.Taps.{Taps}
use Rattle.flow.specs.Ranges.{cabinets}
use Rattle.flow.specs.Nets.{only, net}
use Rattle.flow.specs.Answers.{Each, Balanced}
use Rattle.flow.proofs.Sums.{whole, only_zero}
use Rattle.flow.proofs.Duality.{leaving_none}
use Rattle.search.specs.Paths.{SimplePath}
use Rattle.engine.specs.declared.arc.Arc.{Arc}
use Rattle.engine.specs.declared.job.Job.{Job}
use Rattle.engine.specs.Arcs.{tail_of, head_of, limit_of}
use Rattle.engine.specs.Jobs.{links_of}
use Rattle.engine.specs.Totals.{FeasibleFlow}
use Rattle.residual.specs.Grounds.{job_lawful}
use Rattle.residual.specs.Meshes.{residual}
use Rattle.residual.specs.Raising.{least, Route, Moved}
use Rattle.residual.proofs.Raising.{route_of, least_most, least_some, least_open}
use Rattle.augmenting.specs.declared.pairs.Which.{Which}
use Rattle.augmenting.specs.declared.pairs.Which.TheVariants.{First, Second}
use Rattle.augmenting.specs.Pairs.{feed_of, drain_of, sent}

-- a path that was found, and the least that is free on it, are an augmentation
pub found_route : (j : Job) (fs : List ℤ) (u w most : ℕ) (path : List ℕ) (x : ℕ) → x ≡ least (links_of j) fs u path most → 0 < most → SimplePath (residual (links_of j) fs 1) u path w → Route (links_of j) fs x u path w × (0 < x) × (x ≤ most)
found_route j fs u w most path x is some p =
    let o = p.open_steps in
    (route_of (links_of j) fs x u path w (job_lawful j) p (least_open (links_of j) fs u path most x (omega (arith, is)) o), omega (arith, is, least_some (links_of j) fs u path most some o), omega (arith, is, least_most (links_of j) fs u path most))

only_add : (b : Bool) (m n : ℕ) → only b (pos (m + n)) ≡ only b (pos m) +ℤ only b (pos n)
only_add true m n = refl
only_add false m n = refl

-- a feed and a drain grow by what is sent
grown11 : (n n' a b c d s q a' c' : ℤ) → n' ≡ n +ℤ (s -ℤ q) → n ≡ (a +ℤ b) -ℤ (c +ℤ d) → a' ≡ a +ℤ s → c' ≡ c +ℤ q → n' ≡ (a' +ℤ b) -ℤ (c' +ℤ d)
grown11 n n' a b c d s q a' c' e f g h = omega (arith, whole)

grown12 : (n n' a b c d s q a' d' : ℤ) → n' ≡ n +ℤ (s -ℤ q) → n ≡ (a +ℤ b) -ℤ (c +ℤ d) → a' ≡ a +ℤ s → d' ≡ d +ℤ q → n' ≡ (a' +ℤ b) -ℤ (c +ℤ d')
grown12 n n' a b c d s q a' d' e f g h = omega (arith, whole)

grown21 : (n n' a b c d s q b' c' : ℤ) → n' ≡ n +ℤ (s -ℤ q) → n ≡ (a +ℤ b) -ℤ (c +ℤ d) → b' ≡ b +ℤ s → c' ≡ c +ℤ q → n' ≡ (a +ℤ b') -ℤ (c' +ℤ d)
grown21 n n' a b c d s q b' c' e f g h = omega (arith, whole)

grown22 : (n n' a b c d s q b' d' : ℤ) → n' ≡ n +ℤ (s -ℤ q) → n ≡ (a +ℤ b) -ℤ (c +ℤ d) → b' ≡ b +ℤ s → d' ≡ d +ℤ q → n' ≡ (a +ℤ b') -ℤ (c +ℤ d')
grown22 n n' a b c d s q b' d' e f g h = omega (arith, whole)

module _ (ls : List Arc) (at : Taps ℕ) (fs fs' : List ℤ) (r : Taps ℕ) (x : ℕ) (b : Balanced tail_of head_of cabinets ls at r fs) where
  balanced_sent : (i k : Which) → ((v : ℕ) → net tail_of head_of ls fs' v ≡ net tail_of head_of ls fs v +ℤ (only (eqb (feed_of at i) v) (pos x) -ℤ only (eqb (drain_of at k) v) (pos x))) → Balanced tail_of head_of cabinets ls at (sent r i k x) fs'
  balanced_sent First First m v h = grown11 _ _ _ _ _ _ _ _ _ _ (m v) (b v h) (only_add (eqb at.feed1 v) r.feed1 x) (only_add (eqb at.drain1 v) r.drain1 x)
  balanced_sent First Second m v h = grown12 _ _ _ _ _ _ _ _ _ _ (m v) (b v h) (only_add (eqb at.feed1 v) r.feed1 x) (only_add (eqb at.drain2 v) r.drain2 x)
  balanced_sent Second First m v h = grown21 _ _ _ _ _ _ _ _ _ _ (m v) (b v h) (only_add (eqb at.feed2 v) r.feed2 x) (only_add (eqb at.drain1 v) r.drain1 x)
  balanced_sent Second Second m v h = grown22 _ _ _ _ _ _ _ _ _ _ (m v) (b v h) (only_add (eqb at.feed2 v) r.feed2 x) (only_add (eqb at.drain2 v) r.drain2 x)

module _ (most r : Taps ℕ) (x : ℕ) (a : Each ◌≤◌ r most) where
  amounts_sent : (i k : Which) → x ≤ feed_of most i - feed_of r i → x ≤ drain_of most k - drain_of r k → Each ◌≤◌ (sent r i k x) most
  amounts_sent First First h g = let b = a.0 in let d = a.2 in (omega arith, a.1, omega arith, a.3)
  amounts_sent First Second h g = let b = a.0 in let d = a.3 in (omega arith, a.1, a.2, omega arith)
  amounts_sent Second First h g = let b = a.1 in let d = a.2 in (a.0, omega arith, omega arith, a.3)
  amounts_sent Second Second h g = let b = a.1 in let d = a.3 in (a.0, omega arith, a.2, omega arith)

-- what is fed grows by what is sent
pub fed_sent : (r : Taps ℕ) (x : ℕ) (i k : Which) → (sent r i k x).feed1 + (sent r i k x).feed2 ≡ r.feed1 + r.feed2 + x
fed_sent r x First First = omega arith
fed_sent r x First Second = omega arith
fed_sent r x Second First = omega arith
fed_sent r x Second Second = omega arith

pub feasible_sent : (j : Job) (fs fs' : List ℤ) (r : Taps ℕ) (x : ℕ) (i k : Which) → FeasibleFlow j fs r → Moved (links_of j) fs fs' x (feed_of j.at i) (drain_of j.at k) → x ≤ feed_of j.most i - feed_of r i → x ≤ drain_of j.most k - drain_of r k → FeasibleFlow j fs' (sent r i k x)
feasible_sent j fs fs' r x i k f m h g =
    record { within = m.within; amounts = amounts_sent j.most r x f.amounts i k h g; balanced = balanced_sent (links_of j) j.at fs fs' r x f.balanced i k m.nets }

none_gained : (a b c d : Bool) → (only a (pos 0) +ℤ only b (pos 0)) -ℤ (only c (pos 0) +ℤ only d (pos 0)) ≡ pos 0
none_gained a b c d = ap₂ ◌-ℤ◌ (ap₂ ◌+ℤ◌ (only_zero a) (only_zero b)) (ap₂ ◌+ℤ◌ (only_zero c) (only_zero d))

-- a flow of zeros
pub feasible_zero : (j : Job) (n : ℕ) (fs : List ℤ) → n ≡ length (links_of j) → ((k : ℕ) → k < n → get_or fs k (pos 0) ≡ pos 0) → FeasibleFlow j fs (record { feed1 = 0; feed2 = 0; drain1 = 0; drain2 = 0 })
feasible_zero j n fs e z = record {
  within = λ k d h. subst (λ x. nat_abs x ≤ limit_of (get_or (links_of j) k d)) (sym (z k (omega arith))) (omega arith);
  amounts = (omega arith, omega arith, omega arith, omega arith);
  balanced = λ v h. leaving_none tail_of head_of (λ u. eqb u v) (links_of j) fs (λ k l. z k (omega arith)) ∙ sym (none_gained (eqb j.at.feed1 v) (eqb j.at.feed2 v) (eqb j.at.drain1 v) (eqb j.at.drain2 v));
}
