-- A run, by the struct: what stands first in line, which ways are open there, and what a turn keeps and takes.
use Rattle.std.specs.Prelude.{◌≡◌, ℕ, ◌<◌, ◌∷◌, length, drop}
use Rattle.search.specs.Queues.{items}
use Rattle.residual.specs.Networks.{links_in}
use Rattle.preflow.specs.declared.run.Run.{Run}
use Rattle.preflow.specs.declared.way.Best.{Best}
use Rattle.preflow.specs.States.{left}
use Rattle.preflow.specs.Ways.{Least, Open, Admissible}

-- the cabinet v is the first that waits
abbrev pub IsFirst : Run → ℕ → Type 0
IsFirst r v = items r.queue.now ≡ v ∷ drop 1 (items r.queue.now)

-- no open way out of the cabinet v leads to below m - 1
abbrev pub LeastAt : Run → (v m : ℕ) → Type 0
LeastAt r v m = Least (links_in r.network.now) r.network.now.job.now.at r.network.now.job.now.most r.state.amounts r.flow.now r.state.heights v m

-- the way is open out of the cabinet v
abbrev pub OpenAt : Run → ℕ → Best → Type 0
OpenAt r v best = Open (links_in r.network.now) r.network.now.job.now.at r.network.now.job.now.most r.state.amounts r.flow.now r.state.heights v best.height best.room best.way

-- the way is admissible at the cabinet v
abbrev pub AdmissibleAt : Run → ℕ → Best → Type 0
AdmissibleAt r v best = Admissible (links_in r.network.now) r.network.now.job.now.at r.network.now.job.now.most r.state.amounts r.flow.now r.state.heights v best

-- the run is still for the same job, and in the places that were lent only the flow of the links has changed
pub record Stays (was after : Run) : Type 0 where
  pub network : after.network.now ≡ was.network.now
  pub lent : after.flow.ghost_name ≡ was.flow.ghost_name
  pub beyond : drop (length (links_in was.network.now)) after.flow.now ≡ drop (length (links_in was.network.now)) was.flow.now

-- the run is still for the same job, and the measure falls
pub record Goes (was after : Run) : Type 0 where
  pub stays : Stays was after
  pub falls : left after.state < left was.state
