use Rattle.std.proofs.Common.{◌≡◌, List, length, take, sym, ap, ◌∙◌, subst, arith}
use Rattle.std.proofs.lemmas.List.{length-map}
use Rattle.flow.specs.Nets.{members}
use Rattle.flow.specs.Drawings.{Drawn}
use Rattle.engine.specs.declared.arc.Arc.{Arc}
use Rattle.engine.specs.Arcs.{tail_of, head_of, limit_of, AllSound}
use Rattle.plan.specs.Halves.{half_arc}
use Rattle.plan.proofs.Lawful.{lawful_sound}
use Rattle.plan.proofs.Drawings.{drawn_over}
use Rattle.plan.proofs.drawing.draw.Goals as goal

pub invariant_of-jobs : goal.invariant_of-jobs
invariant_of-jobs g c =
    let links = c.args.links.now in
    let arc = half_arc g.L.Edge.low g.L.Edge.high g.L.Edge.capacity in
    let long : length (take (length links) c.halves-halved.result) ≡ length links = ap length c.halves-halved.ensures ∙ length-map links arc in
    record {
      few = omega (arith, long, c.requires.lawful.few);
      sound = subst AllSound (sym c.halves-halved.ensures) (lawful_sound g.L.Edge.low g.L.Edge.high g.L.Edge.capacity links c.requires.lawful);
      proper = c.requires.proper;
    }

pub returns-clause-drawn : goal.returns-clause-drawn
returns-clause-drawn g c =
    let s = c.share_all.new in
    let sides = c.draw_flows-flows.result.sides in
    drawn_over g.L.Edge.low g.L.Edge.high g.L.Edge.capacity c.args.pairs c.args.links.now s.one s.two (members sides.cut) (members sides.first)
    (subst (λ (ls : List Arc). Drawn tail_of head_of limit_of c.args.pairs ls s.one s.two (members sides.cut) (members sides.first)) c.halves-halved.ensures (c.draw_flows-flows.ensures.drawn s.one s.two c.share_all.ensures.shares))
