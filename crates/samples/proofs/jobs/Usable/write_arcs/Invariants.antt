use Rattle.std.proofs.Common.{ℕ, ◌<◌, slice_index_or}
use Rattle.engine.specs.declared.arc.Arc.{Arc}
use Rattle.engine.specs.Arcs.{Sound}
use Rattle.samples.proofs.jobs.Usable.write_arcs.Given as goal

abbrev pub invariant-loop-link : goal.invariant-loop-link
invariant-loop-link l = (k : ℕ) (d : Arc) → k < l.link-index → Sound (slice_index_or l.links k d)
