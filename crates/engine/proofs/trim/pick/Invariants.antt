use Rattle.std.proofs.Common.{◌≡◌, ◌≤◌, length, take}
use Rattle.engine.specs.Arcs.{limit_of}
use Rattle.flow.specs.Trimming.{trimmed}
use Rattle.engine.proofs.trim.pick.Given as goal

abbrev pub invariant-loop-arc : goal.invariant-loop-arc
invariant-loop-arc l = (l.count ≤ l.arc-index) × (length l.chosen ≡ 512) × (take l.count l.chosen ≡ trimmed limit_of (take l.arc-index l.links))
