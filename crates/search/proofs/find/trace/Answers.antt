use Rattle.std.proofs.Common.{◌≡◌, ◌+◌, ◌-◌, Option, subst, ap, ◌∙◌, arith}
use Rattle.std.proofs.lemmas.List.{drop-set-lt}
use Rattle.search.specs.Spreads.{mark, level_of, from_of}
use Rattle.search.specs.declared.marks.Mark.{Mark}
use Rattle.search.proofs.Chains.{tracing_more}
use Rattle.search.proofs.find.trace.Goals as goal

pub loop-at-preserved : goal.loop-at-preserved
loop-at-preserved c =
    let ms = c.args.marks.now in
    let i = c.loop-at.invariant in
    let m = c.in-Some.mark in
    let level = ap level_of c.in-Some.is in
    let near = c.requires.near c.loop-at.at i.0 in
    let falls = subst (λ (o : Option Mark). level_of (mark ms (from_of o)) + 1 ≡ level_of o) c.in-Some.is (c.requires.falls c.loop-at.at i.0 (omega arith)) in (
      omega (arith, near, ap from_of c.in-Some.is),
      omega arith,
      tracing_more ms c.args.goal _ c.loop-at.path c.loop-at.at m c.in-Some.is (omega arith) (omega arith) falls i.2,
      drop-set-lt _ c.loop-at.path (m.level - 1) m.over (omega arith) ∙ i.3,
    )
