use Rattle.std.proofs.Common.{◌≡◌, ◌≤◌, ◌++◌, length, take, drop}
use Rattle.engine.specs.Arcs.{limit_of}
use Rattle.flow.specs.Trimming.{trimmed, dealt}
use Rattle.engine.proofs.trim.deal.Given as goal

abbrev pub invariant-loop-i : goal.invariant-loop-i
invariant-loop-i l = (l.next ≤ l.i) × (l.next ≡ length (trimmed limit_of (take l.i l.links))) × (l.flow ≡ dealt limit_of (take l.i l.links) l.part ++ drop l.i l.initial.flow)
