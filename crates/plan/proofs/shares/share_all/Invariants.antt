use Rattle.std.proofs.Common.{◌≡◌, length, drop}
use Rattle.flow.specs.Drawings.{Halved}
use Rattle.plan.proofs.shares.share_all.Given as goal

abbrev pub invariant-loop-i : goal.invariant-loop-i
invariant-loop-i l = Halved l.i l.plus l.minus l.one l.two × (drop (length l.arcs) l.one ≡ drop (length l.arcs) l.initial.one) × (drop (length l.arcs) l.two ≡ drop (length l.arcs) l.initial.two)
