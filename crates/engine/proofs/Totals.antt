-- Weak duality for jobs: an answer feeds the greatest total.
use Rattle.std.proofs.Common.{◌≡◌, ℕ, ◌+◌, ◌≤◌, Bool, List, ℤ, sym, ◌∙◌, subst, arith}
use Rattle.flow.specs.declared.taps.Taps.{Taps}
use Rattle.flow.specs.Ranges.{cabinets}
use Rattle.flow.specs.Answers.{cost}
use Rattle.flow.proofs.Jobs.{fed_within}
use Rattle.engine.specs.declared.job.Job.{Job}
use Rattle.engine.specs.Arcs.{tail_of, head_of, limit_of}
use Rattle.engine.specs.Jobs.{links_of}
use Rattle.engine.specs.Totals.{FeasibleFlow, Greatest, OneGreatest}
use Rattle.engine.proofs.Arcs.{sound_inside}

-- no feasible flow is fed more than a side costs
pub below_cost : (j : Job) (fs : List ℤ) (amount : Taps ℕ) (S : ℕ → Bool) → FeasibleFlow j fs amount → amount.feed1 + amount.feed2 ≤ cost tail_of head_of limit_of j.at j.most (links_of j) S
below_cost j fs amount S f =
    fed_within tail_of head_of cabinets (links_of j) j.at amount fs (sound_inside (links_of j) j.sound) j.placed f.balanced limit_of j.most f.within f.amounts S

-- an answer that is fed x
pub full_greatest : (j : Job) (x : ℕ) (fs : List ℤ) (amount : Taps ℕ) (S : ℕ → Bool) → x ≡ amount.feed1 + amount.feed2 → FeasibleFlow j fs amount → amount.feed1 + amount.feed2 ≡ cost tail_of head_of limit_of j.at j.most (links_of j) S → Greatest j x
full_greatest j x fs amount S e f full = record {
  flow = fs;
  amount = amount;
  feasible = f;
  fed = sym e;
  most = λ gs other h. subst (λ y. other.feed1 + other.feed2 ≤ y) (sym (e ∙ full)) (below_cost j gs other S h);
}

pub one_greatest : OneGreatest
one_greatest j x y a b = omega (arith, a.most b.flow b.amount b.feasible, b.most a.flow a.amount a.feasible, a.fed, b.fed)
