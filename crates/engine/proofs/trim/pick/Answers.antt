use Rattle.std.proofs.Common.{◌+◌, ◌<◌, [], ◌∷◌, ◌++◌, length, get_or, take, sym, ap, ◌∙◌, arith}
use Rattle.std.proofs.lemmas.List.{take_all, take_more_set}
use Rattle.engine.specs.Arcs.{blank, limit_of}
use Rattle.flow.specs.Trimming.{trimmed}
use Rattle.flow.proofs.Trims.{trimmed_yes, trimmed_no}
use Rattle.engine.proofs.trim.pick.Goals as goal
use Rattle.engine.proofs.trim.pick.Goals.{then-arc-gt0, else-arc-gt0}

pub loop-arc-preserved : goal.loop-arc-preserved
loop-arc-preserved c =
    let links = c.args.links.now in
    let i = c.loop-arc.arc-index in
    let h = c.loop-arc-test.true in
    elim c.if-arc-gt0.branch [
      | then-arc-gt0 w ↦
          let more = trimmed_yes limit_of links i blank h w.if-arc-gt0.true in
          let room : c.loop-arc.count < length c.loop-arc.chosen = omega arith in
          let grown = take_more_set c.loop-arc.chosen c.loop-arc.count (get_or links i blank) room in
          (omega (arith, w.count-is), c.if-arc-gt0.array_long, ap (λ n. take n c.if-arc-gt0.chosen) w.count-is ∙ ap (take (c.loop-arc.count + 1)) w.chosen-is ∙ grown ∙ ap (λ t. t ++ get_or links i blank ∷ []) c.loop-arc.invariant.2 ∙ sym more)
      | else-arc-gt0 w ↦
          let more = trimmed_no limit_of links i blank h w.if-arc-gt0.false in
          (omega (arith, w.count-is), c.if-arc-gt0.array_long, ap (λ n. take n c.if-arc-gt0.chosen) w.count-is ∙ ap (take c.loop-arc.count) w.chosen-is ∙ c.loop-arc.invariant.2 ∙ sym more)
    ]

pub returns : goal.returns
returns c =
    let links = c.args.links.now in
    record { bound = omega arith; kept = c.loop-arc.invariant.2 ∙ ap (trimmed limit_of) (take_all c.loop-arc.arc-index links c.loop-arc-test.false) }
