use Rattle.std.proofs.Common.{◌≡◌, ℕ, ◌≤◌, sym, ◌∙◌, subst, ⊎_elim, arith}
use Rattle.std.proofs.lemmas.Bool.{cases_eq, false≢true}
use Rattle.preflow.proofs.Levels.{level, held, empty_past}
use Rattle.preflow.proofs.side.gap.Goals as goal

pub loop-level-preserved : goal.loop-level-preserved
loop-level-preserved c j lo hi =
    ⊎_elim
    (λ (e : c.loop-level.level ≡ j).
    subst (λ (k : ℕ). 1 ≤ level k c.args.heights.now) e (held c.args.heights.now c.loop-level.level c.told-heights (λ none. false≢true (sym c.if-is_level_empty.false ∙ c.is_level_empty.ensures.1 none))))
    (λ (ne : c.loop-level.level ≡ j → ⊥). c.loop-level.invariant j lo (omega arith))
    (cases_eq c.loop-level.level j)

pub returns-clause-empty : goal.returns-clause-empty
returns-clause-empty c = empty_past c.args.heights.now c.told-heights (λ j lo hi. c.loop-level.invariant j lo (omega arith))
