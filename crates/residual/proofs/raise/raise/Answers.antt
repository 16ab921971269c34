use Rattle.std.proofs.Common.{◌≡◌, ℕ, ◌≤◌, List, length, set, ℤ, ap, ◌∙◌, arith}
use Rattle.std.proofs.lemmas.List.{length-set}
use Rattle.engine.specs.Jobs.{links_of}
use Rattle.residual.proofs.Raising.{onward_at, onward_more, push_fits}
use Rattle.residual.proofs.raise.raise.Goals as goal

-- a write keeps the length
written : (after fs : List ℤ) (l : ℕ) (z : ℤ) → after ≡ set fs l z → length fs ≡ 512 → length after ≡ 512
written after fs l z e h = ap length e ∙ length-set fs l z ∙ h

pub push-at-requires : goal.push-at-requires
push-at-requires c =
    let o = onward_at _ _ _ _ _ _ _ _ _ c.loop-link-test.true c.loop-link.invariant.1 in
    let fits = push_fits _ _ _ _ _ _ _ _ _ c.args.job.now.sound o in
    record { listed = o.route.steps.0.listed; was = fits.0; fits = fits.1 }

pub loop-link-preserved : goal.loop-link-preserved
loop-link-preserved c =
    let j = c.args.job.now in
    let long : length (links_of j) ≤ length c.loop-link.flow = omega (arith, j.few, c.loop-link.invariant.0) in
    (written _ c.loop-link.flow _ _ c.push-at.ensures.flow c.loop-link.invariant.0, onward_more _ _ _ _ _ _ _ _ _ _ _ long (onward_at _ _ _ _ _ _ _ _ _ c.loop-link-test.true c.loop-link.invariant.1) c.push-at.ensures.flow c.push-at.ensures.next)
