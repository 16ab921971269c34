use Rattle.std.proofs.Common.{◌≡◌, ℕ, ◌<◌, List, length, drop, Option, refl, sym, ap, ◌∙◌, subst, arith}
use Rattle.search.specs.Queues.{items}
use Rattle.residual.specs.Networks.{links_in}
use Rattle.preflow.specs.Sends.{sent_flow, sent_amounts, reached, moved}
use Rattle.preflow.specs.Waits.{Queued, settled}
use Rattle.preflow.specs.States.{measure}
use Rattle.preflow.proofs.Turns.{line_short, become, push_can, push_beyond, push_falls, push_labeled, push_queued}
use Rattle.preflow.proofs.run.Run.push.Goals as goal

pub send-to-requires-clause-can : goal.send-to-requires-clause-can
send-to-requires-clause-can c = push_can c.args.self.now c.args.first c.requires.front c.args.best c.requires.admissible c.portion-by.result c.portion-by.ensures

pub settle-requires-clause-fits : goal.settle-requires-clause-fits
settle-requires-clause-fits c = omega (arith, line_short c.args.self.now c.args.first c.requires.front, c.args.self.now.roomy)

pub invariant_of-self : goal.invariant_of-self
invariant_of-self c =
    let r = c.args.self.now in
    let v : ℕ = c.args.first in
    let f = c.requires.front in
    let b = c.args.best in
    let n : ℕ = c.portion-by.result in
    let is = c.portion-by.ensures in
    let adm = c.requires.admissible in
    let ls = links_in r.network.now in
    let to : Option ℕ = reached (links_in r.network.now) v b.way in
    let e = c.send-to.ensures in
    let then = c.send-to.new.state in
    let line : items c.settle.new.queue ≡ settled (moved r.state.excess v n to) v n to (items r.queue.now) =
    c.settle.ensures.items ∙ ap (λ (o : Option ℕ). settled then.excess v n o (items r.queue.now)) e.to ∙ ap (λ (x : List ℕ). settled x v n to (items r.queue.now)) e.excess in
    record {
      active = record {
        standing = become ls r.network.now.job.now.at r.network.now.job.now.most (sent_amounts r.state.amounts n b.way) then.amounts (sent_flow ls r.flow.now v n b.way) c.send-to.new.flow (moved r.state.excess v n to) then.excess r.state.heights then.heights e.amounts e.flow e.excess e.heights (push_labeled r v f b adm n is);
        queued = subst (λ (x : List ℕ). Queued x (items c.settle.new.queue)) (sym e.excess) (subst (Queued (moved r.state.excess v n to)) (sym line) (push_queued r v f b adm n is));
      };
      roomy = omega (arith, r.roomy, c.settle.ensures.room);
    }

pub returns : goal.returns
returns c =
    let r = c.args.self.now in
    let v : ℕ = c.args.first in
    let f = c.requires.front in
    let b = c.args.best in
    let n : ℕ = c.portion-by.result in
    let is = c.portion-by.ensures in
    let adm = c.requires.admissible in
    let e = c.send-to.ensures in
    let then = c.send-to.new.state in
    record {
      stays = record { network = refl; lent = refl; beyond = ap (drop (length (links_in r.network.now))) e.flow ∙ push_beyond r v f b adm n is };
      falls = subst (λ (y : List ℕ). measure then.excess y < measure r.state.excess r.state.heights) (sym e.heights) (subst (λ (x : List ℕ). measure x r.state.heights < measure r.state.excess r.state.heights) (sym e.excess) (push_falls r v f b adm n is));
    }
