use Rattle.std.proofs.Common.{◌≡◌, ◌≤◌, length}
use Rattle.search.specs.Queues.{items, room}
use Rattle.preflow.specs.Starts.{Lined}
use Rattle.preflow.proofs.start.line_up.Given as goal

abbrev pub invariant-loop-v : goal.invariant-loop-v
invariant-loop-v l = Lined l.excess l.v (items l.queue) × (length (items l.queue) ≤ l.v) × (room l.queue ≡ room l.initial.queue)
