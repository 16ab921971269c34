use Rattle.std.proofs.Common.{ℕ, ◌*◌, ℤ, pos, ◌≤ℤ◌, sym, subst, one-mul}
use Rattle.flow.specs.Ranges.{cabinets}
use Rattle.flow.proofs.Duality.{first_bound, sum_bound, first_fractions, sum_fractions}
use Rattle.flow.proofs.theorems.weak_duality.Goals as goal

once : (x : ℤ) (k : ℕ) → x ≤ℤ pos k → x ≤ℤ pos (1 * k)
once x k h = subst (λ m. x ≤ℤ pos m) (sym (one-mul k)) h

pub returns : goal.returns
returns g c p ls fs gs i pr = (
  λ f. (λ S s. once _ _ (first_bound g.E.Edge.low g.E.Edge.high g.E.Edge.capacity cabinets p ls fs gs i pr f S s), λ S s. once _ _ (sum_bound g.E.Edge.low g.E.Edge.high g.E.Edge.capacity cabinets p ls fs gs i pr f S s)),
  λ q f. (first_fractions g.E.Edge.low g.E.Edge.high g.E.Edge.capacity cabinets q p ls fs gs i pr f, sum_fractions g.E.Edge.low g.E.Edge.high g.E.Edge.capacity cabinets q p ls fs gs i pr f),
)
