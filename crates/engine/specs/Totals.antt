-- The greatest total that can be fed in a job.
use Rattle.std.specs.Prelude.{◌≡◌, ℕ, ◌+◌, ◌≤◌, List, ℤ}
use Rattle.flow.specs.declared.taps.Taps.{Taps}
use Rattle.flow.specs.Ranges.{cabinets}
use Rattle.flow.specs.Answers.{Each, Within, Balanced}
use Rattle.engine.specs.declared.job.Job.{Job}
use Rattle.engine.specs.Arcs.{tail_of, head_of, limit_of}
use Rattle.engine.specs.Jobs.{links_of}

-- a flow with its amounts that keeps to the limits of a job and is balanced in every cabinet
pub record FeasibleFlow (j : Job) (fs : List ℤ) (amount : Taps ℕ) : Type 0 where
  pub within : Within limit_of (links_of j) fs
  pub amounts : Each ◌≤◌ amount j.most
  pub balanced : Balanced tail_of head_of cabinets (links_of j) j.at amount fs

-- some feasible flow is fed x, and none is fed more
pub record Greatest (j : Job) (x : ℕ) : Type 0 where
  pub flow : List ℤ
  pub amount : Taps ℕ
  pub feasible : FeasibleFlow j flow amount
  pub fed : amount.feed1 + amount.feed2 ≡ x
  pub most : (fs : List ℤ) (other : Taps ℕ) → FeasibleFlow j fs other → other.feed1 + other.feed2 ≤ x

-- a job has only one greatest total
abbrev pub OneGreatest : Type 0
OneGreatest = (j : Job) (x y : ℕ) → Greatest j x → Greatest j y → x ≡ y
