use Rattle.std.proofs.Common.{◌<◌, false, ◌≢◌, length, ◌∙◌, arith, below_more}
use Rattle.std.proofs.lemmas.List.{length-set, get_or-set_same, get_or-set_other}
use Rattle.plan.proofs.cuts.sum_side.Goals as goal

pub loop-cabinet-preserved : goal.loop-cabinet-preserved
loop-cabinet-preserved c =
    let v = c.loop-cabinet.cabinet in
    let side = c.loop-cabinet.held-items in
    let room : v < length side = omega (arith, c.loop-cabinet.invariant.0) in (
      length-set side v _ ∙ c.loop-cabinet.invariant.0,
      below_more _ _
          (λ k h. let ne : k ≢ v = omega arith in get_or-set_other side v k _ false ne ∙ c.loop-cabinet.invariant.1 k h)
          (get_or-set_same side v _ false room ∙ c.is_in_cut.ensures),
    )
