use Rattle.std.proofs.Common.{◌≡◌, ℕ, ◌+◌, List, [], ◌∷◌, ◌++◌, length, sym, ap, ◌∙◌, subst, arith}
use Rattle.std.proofs.lemmas.List.{length_push}
use Rattle.search.specs.Queues.{items, room}
use Rattle.preflow.specs.Starts.{Lined}
use Rattle.preflow.proofs.Queues.{pushed_on}
use Rattle.preflow.proofs.Begins.{lined_yes, lined_no}
use Rattle.preflow.proofs.start.line_up.Goals as goal
use Rattle.preflow.proofs.start.line_up.Goals.{then-amount-gt0, else-amount-gt0}

pub loop-v-preserved : goal.loop-v-preserved
loop-v-preserved c =
    let ex : List ℕ = c.args.excess.now in
    let n : ℕ = c.loop-v.v in
    let qs : List ℕ = items c.loop-v.queue in
    let i = c.loop-v.invariant in
    elim c.if-amount-gt0.branch [
      | then-amount-gt0 w ↦
          let put : items w.push.new.self ≡ qs ++ n ∷ [] = pushed_on qs (items w.push.new.self) n (room c.loop-v.queue) w.push.result w.push.ensures.items (omega (arith, i.1, i.2, c.requires.room, c.loop-v-test.true)) in
          let now-is : items c.if-amount-gt0.queue ≡ qs ++ n ∷ [] = ap items w.queue-is ∙ put in
          (subst (Lined ex (n + 1)) (sym now-is) (lined_yes ex n qs i.0 w.if-amount-gt0.true), omega (arith, ap length now-is, length_push qs n, i.1), ap room w.queue-is ∙ w.push.ensures.room ∙ i.2)
      | else-amount-gt0 w ↦
          let now-is : items c.if-amount-gt0.queue ≡ qs = ap items w.queue-is in
          (subst (Lined ex (n + 1)) (sym now-is) (lined_no ex n qs i.0 w.if-amount-gt0.false), omega (arith, ap length now-is, i.1), ap room w.queue-is ∙ i.2)
    ]
