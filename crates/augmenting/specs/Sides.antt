-- The side at the end.
use Rattle.std.specs.Prelude.{◌≡◌, ℕ, ◌+◌, ◌<◌, Bool, ◌&&◌, ◌||◌, List}
use Rattle.flow.specs.declared.taps.Taps.{Taps}
use Rattle.flow.specs.Nets.{members}
use Rattle.flow.specs.Answers.{cost}
use Rattle.engine.specs.declared.job.Job.{Job}
use Rattle.engine.specs.Arcs.{tail_of, head_of, limit_of}
use Rattle.engine.specs.Jobs.{links_of}

-- below n the side is where a and b meet, joined with where c and d do
abbrev pub Joined : (a b c d side : List Bool) → ℕ → Type 0
Joined a b c d side n = (v : ℕ) → v < n → members side v ≡ ((members a v && members b v) || (members c v && members d v))

-- the total fed is what the side costs
abbrev pub Full : Job → Taps ℕ → List Bool → Type 0
Full j r side = r.feed1 + r.feed2 ≡ cost tail_of head_of limit_of j.at j.most (links_of j) (members side)
