-- Jobs, by the struct.
use Rattle.std.specs.Prelude.{◌≡◌, ℕ, List, Some, None, Option}
use Rattle.flow.specs.declared.taps.Taps.{Taps}
use Rattle.engine.specs.declared.arc.Arc.{Arc}
use Rattle.engine.specs.declared.job.Job.{Job}
use Rattle.engine.specs.Arcs.{Fits}
use Rattle.engine.specs.Lists.{listed}

-- the links of a job in order
abbrev pub links_of : Job → List Arc
links_of j = listed j.links

-- a job of these numbers was made, or none since one of them is out of range
abbrev pub Made : List Arc → (at most : Taps ℕ) → Option Job → Type 0
Made ls at most (Some j) = (links_of j ≡ ls) × (j.at ≡ at) × (j.most ≡ most)
Made ls at most None = Fits ls at most → ⊥
