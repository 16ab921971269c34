use Rattle.std.proofs.Common.{◌≡◌, ℕ, List, Bool, ℤ, subst}
use Rattle.flow.specs.declared.pairs.Pairs.{Pairs}
use Rattle.flow.specs.Drawings.{turned}
use Rattle.engine.specs.declared.arc.Arc.{Arc}
use Rattle.plan.specs.Halves.{Bounds, Flows}
use Rattle.plan.proofs.Drawings.{no_less_ahead, no_less_behind, drawn_by}
use Rattle.plan.proofs.drawing.draw_flows.Goals as goal

-- what holds of the turned jobs, by the jobs that were turned
bounds_of : (p q : Pairs) (ls ms : List Arc) (x y t : ℕ) (S : List Bool) → ms ≡ ls → q ≡ p → Bounds q x y ms t S → Bounds p x y ls t S
bounds_of p q ls ms x y t S el ep b = subst (λ (ks : List Arc). Bounds p x y ks t S) el (subst (λ (r : Pairs). Bounds r x y ms t S) ep b)

flows_of : (p q : Pairs) (ls ms : List Arc) (x y : ℕ) (fs : List ℤ) → ms ≡ ls → q ≡ p → Flows q x y ms fs → Flows p x y ls fs
flows_of p q ls ms x y fs el ep f = subst (λ (ks : List Arc). Flows p x y ks fs) el (subst (λ (r : Pairs). Flows r x y ms fs) ep f)

pub left-second-requires : goal.left-second-requires
left-second-requires g c =
    let j = c.args.jobs.now in
    let x = c.bound-alone.result in
    let behind = bounds_of (turned j.pairs) _ j.arcs.now _ _ _ _ _ c.turned-turned.ensures.arcs c.turned-turned.ensures.pairs c.bound-behind.ensures.bounds in
    record {
      ahead = no_less_ahead j.pairs j.arcs.now j.sound j.proper x.total x.side c.bound-alone.ensures.bounds _ _ c.bound-ahead.ensures.bounds;
      behind = no_less_behind j.pairs j.arcs.now j.sound j.proper x.total x.side c.bound-alone.ensures.bounds _ _ behind;
    }

pub returns-clause-drawn : goal.returns-clause-drawn
returns-clause-drawn g c =
    let j = c.args.jobs.now in
    let x = c.bound-alone.result in
    let behind = bounds_of (turned j.pairs) _ j.arcs.now _ _ _ _ _ c.turned-turned.ensures.arcs c.turned-turned.ensures.pairs c.bound-behind.ensures.bounds in
    let minus = flows_of (turned j.pairs) _ j.arcs.now _ _ _ _ c.turned-turned.ensures.arcs c.turned-turned.ensures.pairs c.flow-2.ensures in
    drawn_by j.pairs j.arcs.now j.sound j.proper x.total x.side c.bound-alone.ensures.bounds c.bound-ahead.result.total c.bound-behind.result.total c.left-second.result c.bound-ahead.result.side c.bound-behind.result.side c.cut_of.result c.bound-ahead.ensures.bounds behind c.left-second.ensures c.flow.result c.flow-2.result c.flow.ensures minus c.cut_of.ensures
