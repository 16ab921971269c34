use Rattle.std.proofs.Common.{◌≡◌, ℕ, ◌<◌, None, slice_index_or}
use Rattle.flow.specs.declared.stream.Stream.TheVariants.{One}
use Rattle.flow.specs.Ranges.{cabinets}
use Rattle.plan.specs.Judging.{lowest_failing, keeps_in}
use Rattle.plan.proofs.judging.Fitted.first_broken.Given as goal

-- the streams before this one have no cabinet at fault
abbrev pub invariant-scan : goal.invariant-scan
invariant-scan g l = (l.found ≡ None) × ((i : ℕ) → i < l.stream-index → lowest_failing cabinets (keeps_in g.L.Edge.low g.L.Edge.high l.self.plan.pairs l.self.links.now l.self.plan.one.now l.self.plan.two.now (slice_index_or l.stream-items i One)) ≡ None)

-- nor have the cabinets of this stream before this one
abbrev pub invariant-loop-cabinet : goal.invariant-loop-cabinet
invariant-loop-cabinet g l = (l.found ≡ None) × (lowest_failing l.cabinet (keeps_in g.L.Edge.low g.L.Edge.high l.self.plan.pairs l.self.links.now l.self.plan.one.now l.self.plan.two.now l.stream) ≡ None)
