-- Sending more from a feed to a drain.
use Rattle.std.specs.Prelude.{◌≡◌, ℕ, ◌+◌, ◌-◌, ◌<◌, ◌≤◌, Bool, true, false, List, length, ℤ, Ok, Err, Result}
use Rattle.flow.specs.declared.taps.Taps.{Taps}
use Rattle.flow.specs.Ranges.{cabinets}
use Rattle.search.specs.Graphs.{Step, across}
use Rattle.search.specs.Paths.{Separates}
use Rattle.engine.specs.declared.arc.Arc.{Arc}
use Rattle.engine.specs.declared.job.Job.{Job}
use Rattle.engine.specs.Jobs.{links_of}
use Rattle.residual.specs.Meshes.{mesh_of, residual}
use Rattle.residual.specs.Raising.{Route, Moved}
use Rattle.augmenting.specs.declared.pairs.Pair.{Pair}
use Rattle.augmenting.specs.declared.sending.Augmentation.{Augmentation}
use Rattle.augmenting.specs.Pairs.{feed_of, drain_of}

-- what a search for a path with something free answers
abbrev pub Sought : List Arc → List ℤ → (u w most : ℕ) → Result Augmentation (List Bool) → Type 0
Sought ls fs u w most (Ok a) = Route ls fs a.by u a.path.now w × (0 < a.by) × (a.by ≤ most) × (length a.path.now ≤ 64)
Sought ls fs u w most (Err side) = Separates (residual ls fs 1) u w side

-- some was sent from u to w, at most `most`; or nothing since there is no path
abbrev pub Sent : List Arc → (was fs : List ℤ) → (most u w : ℕ) → Result ℕ (List Bool) → Type 0
Sent ls was fs most u w (Ok x) = (0 < x) × (x ≤ most) × Moved ls was fs x u w
Sent ls was fs most u w (Err side) = (fs ≡ was) × Separates (residual ls was 1) u w side

-- how much more the feeds could give
abbrev pub unfed : Job → Taps ℕ → ℕ
unfed j r = (j.most.feed1 - r.feed1) + (j.most.feed2 - r.feed2)

-- no step with something free leaves the side
abbrev pub Closed : List Arc → List ℤ → (ℕ → Bool) → Type 0
Closed ls fs S = (u l : ℕ) → u < cabinets → S u ≡ true → Step (residual ls fs 1) u l → S (across (mesh_of ls) u l) ≡ true

-- a closed side that holds the feed if it can give more, and lacks the drain if it can take more
pub record Blocked (j : Job) (fs : List ℤ) (r : Taps ℕ) (p : Pair) (S : ℕ → Bool) : Type 0 where
  pub holds : feed_of r p.from < feed_of j.most p.from → S (feed_of j.at p.from) ≡ true
  pub lacks : drain_of r p.to < drain_of j.most p.to → S (drain_of j.at p.to) ≡ false
  pub closed : Closed (links_of j) fs S
