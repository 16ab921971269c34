use Rattle.std.proofs.Common.{◌≡◌, ◌≤◌, cond, ◌++◌, length, get_or, take, drop, pos, sym, ap, ◌∙◌, arith, w32, to_z, of_z, rules, set}
use Rattle.std.proofs.lemmas.List.{take_all, length_push}
use Rattle.std.proofs.lemmas.Int.{ints}
use Rattle.std.proofs.lemmas.Bool.{lt-ltb, le-ltb}
use Rattle.flow.specs.Trimming.{trimmed, dealt}
use Rattle.flow.proofs.Trims.{trimmed_yes, trimmed_no, dealt_more}
use Rattle.engine.specs.Arcs.{blank, limit_of}
use Rattle.engine.proofs.trim.deal.Goals as goal
use Rattle.engine.proofs.trim.deal.Goals.{then-arc-gt0, else-arc-gt0}

pub loop-i-preserved : goal.loop-i-preserved
loop-i-preserved c =
    let links = c.args.links.now in
    let part = c.args.part.now in
    let was = c.args.flow.now in
    let i = c.loop-i.i in
    let h = c.loop-i-test.true in
    let room : length links ≤ length was = omega arith in
    elim c.if-arc-gt0.branch [
      | then-arc-gt0 w ↦
          let read : to_z w32 (of_z w32 (get_or part c.loop-i.next (pos 0))) ≡ get_or part c.loop-i.next (pos 0) = search (rules, ints) in
          let more = trimmed_yes limit_of links i blank h w.if-arc-gt0.true in
          let carries = ap (λ b. cond b (get_or part (length (trimmed limit_of (take i links))) (pos 0)) (pos 0)) (lt-ltb 0 _ w.if-arc-gt0.true) in
          (omega (arith, w.next-is, c.loop-i.invariant.0), w.next-is ∙ omega (arith, ap length more, length_push (trimmed limit_of (take i links)) (get_or links i blank), c.loop-i.invariant.1), w.flow-is ∙ ap (set c.loop-i.flow i) read ∙ dealt_more limit_of links i blank h part was c.loop-i.flow _ room c.loop-i.invariant.2 (ap (λ n. get_or part n (pos 0)) c.loop-i.invariant.1 ∙ sym carries))
      | else-arc-gt0 w ↦
          let more = trimmed_no limit_of links i blank h w.if-arc-gt0.false in
          let carries = ap (λ b. cond b (get_or part (length (trimmed limit_of (take i links))) (pos 0)) (pos 0)) (le-ltb 0 _ w.if-arc-gt0.false) in
          (omega (arith, w.next-is, c.loop-i.invariant.0), w.next-is ∙ c.loop-i.invariant.1 ∙ sym (ap length more), w.flow-is ∙ dealt_more limit_of links i blank h part was c.loop-i.flow _ room c.loop-i.invariant.2 (sym carries))
    ]

pub returns : goal.returns
returns c =
    let links = c.args.links.now in
    let end : c.loop-i.i ≡ length links = omega arith in
    c.loop-i.invariant.2 ∙ ap (λ n. dealt limit_of (take n links) c.args.part.now ++ drop n c.args.flow.now) end ∙ ap (λ t. dealt limit_of t c.args.part.now ++ drop (length links) c.args.flow.now) (take_all (length links) links (omega arith))
