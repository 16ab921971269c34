use Rattle.std.proofs.Common.{◌≡◌, ℕ, ◌+◌, ◌-◌, ◌≤◌, min, ltb, sym, refl, ap, ◌∙◌, subst, arith}
use Rattle.flow.specs.declared.taps.Taps.{Taps}
use Rattle.engine.specs.Totals.{FeasibleFlow}
use Rattle.residual.specs.Networks.{links_in}
use Rattle.residual.specs.Raising.{Moved}
use Rattle.augmenting.specs.declared.pairs.Pair.{Pair}
use Rattle.augmenting.specs.Pairs.{feed_of, drain_of}
use Rattle.augmenting.specs.Runs.{job_in}
use Rattle.augmenting.proofs.Amounts.{feasible_sent, fed_sent}
use Rattle.augmenting.proofs.Blocking.{blocked_full}
use Rattle.augmenting.proofs.run.Run.turn.Goals as goal

-- the room between the feed and the drain, at limits that equal these
room_at : (most limits r : Taps ℕ) (p : Pair) (x : ℕ) → most ≡ limits → x ≡ min (feed_of most p.from - feed_of r p.from) (drain_of most p.to - drain_of r p.to) → x ≡ min (feed_of limits p.from - feed_of r p.from) (drain_of limits p.to - drain_of r p.to)
room_at most limits r p x e h = subst (λ t. x ≡ min (feed_of t p.from - feed_of r p.from) (drain_of t p.to - drain_of r p.to)) e h

pub returns-then-room-eq0-clause-turned : goal.returns-then-room-eq0-clause-turned
returns-then-room-eq0-clause-turned c =
    let j = job_in c.args.self.now in
    let p = c.args.pair in
    let r = c.args.self.now.amounts in
    let room = room_at c.most-most.result j.most r p _ c.most-most.ensures c.room_between-room.ensures in
    (refl, blocked_full j _ r p c.can_give.result (sym room ∙ c.if-room-eq0.true) (c.can_give.ensures ∙ ap (λ t. ltb (feed_of r p.from) (feed_of t p.from)) c.most-most.ensures))

pub invariant_of-self-2 : goal.invariant_of-self-2
invariant_of-self-2 c =
    let n = c.args.self.now.network.now in
    let j = job_in c.args.self.now in
    let r = c.args.self.now.amounts in
    let i = c.args.pair.from in
    let k = c.args.pair.to in
    let x = c.in_ok-by.by in
    let was = c.args.self.now.flow in
    let fs = c.send.new.flow in
    let sent = c.in_ok-by.ensures in
    let room = room_at c.most-most.result j.most r c.args.pair _ c.most-most.ensures c.room_between-room.ensures in
    let from-feed : x ≤ feed_of j.most i - feed_of r i = omega (arith, sent.1, room) in
    let to-drain : x ≤ drain_of j.most k - drain_of r k = omega (arith, sent.1, room) in
    let moved : Moved (links_in n) was fs x (feed_of j.at i) (drain_of j.at k) =
    subst (λ u. Moved (links_in n) was fs x u (drain_of j.at k)) (c.feed.ensures ∙ ap (λ t. feed_of t i) c.at-at.ensures)
    (subst (λ w. Moved (links_in n) was fs x c.feed.result w) (c.drain.ensures ∙ ap (λ t. drain_of t k) c.at-at.ensures) sent.2) in
    record {
      feasible = subst (FeasibleFlow j fs) (sym c.add_sent-self.ensures) (feasible_sent j was fs r x i k c.args.self.now.feasible moved from-feed to-drain);
      counted = subst (λ (a : Taps ℕ). c.args.self.now.raises + 1 ≤ a.feed1 + a.feed2) (sym c.add_sent-self.ensures) (omega (arith, fed_sent r x i k, c.args.self.now.counted, sent.0));
    }
