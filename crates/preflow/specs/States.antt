-- What preflow pushing keeps from turn to turn.
use Rattle.std.specs.Prelude.{◌≡◌, ℕ, ◌+◌, ◌-◌, ◌*◌, ◌^◌, ◌<◌, ◌≤◌, List, [], ◌∷◌, length, ℤ, pos, ◌+ℤ◌, sum, nat_eq, slice_index}
use Rattle.flow.specs.declared.taps.Taps.{Taps}
use Rattle.flow.specs.Ranges.{cabinets}
use Rattle.flow.specs.Nets.{net}
use Rattle.flow.specs.Answers.{Each, Within, gain}
use Rattle.engine.specs.declared.arc.Arc.{Arc}
use Rattle.engine.specs.Arcs.{tail_of, head_of, limit_of, Fits}
use Rattle.residual.specs.declared.network.Network.{Network}
use Rattle.residual.specs.Networks.{links_in}
use Rattle.preflow.specs.declared.state.State.{State}
use Rattle.preflow.specs.Heights.{Low, Valid}
use Rattle.preflow.specs.Waits.{Queued}

-- what came into a cabinet and has not left it is its excess
abbrev pub Excess : List Arc → (at amount : Taps ℕ) → List ℤ → List ℕ → Type 0
Excess ls at amount fs ex = (v : ℕ) → v < cabinets → net tail_of head_of ls fs v +ℤ pos (slice_index ex v) ≡ gain at amount (λ u. nat_eq u v)

-- a preflow (a flow within its limits that may leave an excess in cabinets) with valid heights
pub record Labeled (ls : List Arc) (at most amount : Taps ℕ) (fs : List ℤ) (ex hs : List ℕ) : Type 0 where
  pub fits : Fits ls at most
  pub room : length ls ≤ length fs
  pub wide : length ex ≡ cabinets
  pub tall : length hs ≡ cabinets
  pub within : Within limit_of ls fs
  pub amounts : Each ◌≤◌ amount most
  pub excess : Excess ls at amount fs ex
  pub total : sum ex + (amount.drain1 + amount.drain2) ≡ amount.feed1 + amount.feed2
  pub valid : Valid ls at most amount fs hs
  pub low : Low hs

-- the sum of excess times height
abbrev pub dot : List ℕ → List ℕ → ℕ
dot [] hs = 0
dot (e ∷ es) [] = 0
dot (e ∷ es) (h ∷ hs) = e * h + dot es hs

-- what falls with each turn: a relabel takes from the first part, a push from the second
abbrev pub measure : List ℕ → List ℕ → ℕ
measure ex hs = (8384 - sum hs) * 2 ^ 40 + dot ex hs

-- the program's own state is a preflow with valid heights
abbrev pub Standing : Network → List ℤ → State → Type 0
Standing n fs s = Labeled (links_in n) n.job.now.at n.job.now.most s.amounts fs s.excess s.heights

-- the program's own state is a preflow with valid heights, and just the cabinets with an excess wait
pub record Active (n : Network) (fs : List ℤ) (s : State) (qs : List ℕ) : Type 0 where
  pub standing : Standing n fs s
  pub queued : Queued s.excess qs

-- the measure of what the program keeps
abbrev pub left : State → ℕ
left s = measure s.excess s.heights
