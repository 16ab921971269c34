use Rattle.std.proofs.Common.{take}
use Rattle.std.specs.Fmt.{HasWritten, IsPlainFormatter}
use Rattle.engine.specs.Texts.{arc_lines}
use Rattle.engine.proofs.print.LinesDisplay.fmt.Given as goal

-- The lines of the links so far have been written.
abbrev pub invariant-loop-arc : goal.invariant-loop-arc
invariant-loop-arc g l =
    IsPlainFormatter l.initial.f → HasWritten g.W.Write.write_str_gives l.initial.f (arc_lines (take l.arc-index l.arc-items)) l.f
