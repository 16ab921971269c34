-- Runs, by the struct.
use Rattle.std.specs.Prelude.{◌≡◌, ℕ, ◌+◌, ◌<◌, ◌≤◌, Bool, List, length, drop, Some, None, Option, Ok, Err, Result}
use Rattle.flow.specs.Nets.{members}
use Rattle.engine.specs.declared.job.Job.{Job}
use Rattle.engine.specs.Jobs.{links_of}
use Rattle.augmenting.specs.declared.pairs.Pair.{Pair}
use Rattle.augmenting.specs.declared.run.Run.{Run}
use Rattle.augmenting.specs.Sending.{unfed, Blocked}
use Rattle.augmenting.specs.Sides.{Full}

-- the job of a run
abbrev pub job_in : Run → Job
job_in r = r.network.now.job.now

-- how much more the feeds of a run could give
abbrev pub left_in : Run → ℕ
left_in r = unfed (job_in r) r.amounts

-- the set of cabinets blocks the pair in a run
abbrev pub BlockedIn : Run → Pair → (ℕ → Bool) → Type 0
BlockedIn r p S = Blocked (job_in r) r.flow r.amounts p S

-- a run after some raises, each of which fed at least 1, or the same run after none
pub record Continues (was after : Run) : Type 0 where
  pub same : after.network ≡ was.network
  pub beyond : drop (length (links_of (job_in was))) after.flow ≡ drop (length (links_of (job_in was))) was.flow
  pub counted : was.raises ≤ after.raises
  pub less : left_in after + after.raises ≤ left_in was + was.raises
  pub still : after.raises ≡ was.raises → (after.flow ≡ was.flow) × (after.amounts ≡ was.amounts)

-- the flow was raised; or it was not, and a side blocks the pair
abbrev pub Turned : (was after : Run) → Pair → Result Unit (List Bool) → Type 0
Turned was after p (Ok _) = was.raises < after.raises
Turned was after p (Err side) = (after.raises ≡ was.raises) × BlockedIn after p (members side)

-- the flow was raised; or the total fed is what the side costs
abbrev pub Ended : (was after : Run) → Option (List Bool) → Type 0
Ended was after None = was.raises < after.raises
Ended was after (Some side) = Full (job_in after) after.amounts side
