use Rattle.std.proofs.Common.{◌≡◌, ◌<◌, ◌≤◌, ◌≢◌, length, get_or, ℤ, pos, ◌+ℤ◌, ◌-ℤ◌, nat_abs, ◌∙◌, arith, w32, to_z, of_z, below_more}
use Rattle.std.proofs.lemmas.List.{get_or-set_same, get_or-set_other, drop-set-lt}
use Rattle.std.proofs.lemmas.Int.{ints}
use Rattle.flow.specs.Ranges.{most_limit}
use Rattle.engine.specs.Arcs.{blank}
use Rattle.plan.proofs.shares.share_all.Goals as goal

plus : (f g s : ℤ) → nat_abs f ≤ most_limit → nat_abs g ≤ most_limit → s ≡ to_z w32 (of_z w32 f) +ℤ to_z w32 (of_z w32 g) → to_z w32 (of_z w32 s) ≡ f +ℤ g
plus f g s h k e = omega (arith, ints)

minus : (f g s : ℤ) → nat_abs f ≤ most_limit → nat_abs g ≤ most_limit → s ≡ to_z w32 (of_z w32 f) -ℤ to_z w32 (of_z w32 g) → to_z w32 (of_z w32 s) ≡ f -ℤ g
minus f g s h k e = omega (arith, ints)

kept : (f : ℤ) → nat_abs f ≤ most_limit → nat_abs (to_z w32 (of_z w32 f)) ≤ most_limit
kept f h = omega (arith, ints)

pub share-first-requires : goal.share-first-requires
share-first-requires c =
    let i = c.loop-i.i in
    let h = c.loop-i-test.true in
    record {
      plus = kept (get_or c.args.plus.now i (pos 0)) (omega (arith, c.requires.plus i blank h, (c.requires.sound i blank h).3));
      minus = kept (get_or c.args.minus.now i (pos 0)) (omega (arith, c.requires.minus i blank h, (c.requires.sound i blank h).3));
    }

pub loop-i-preserved : goal.loop-i-preserved
loop-i-preserved c =
    let i = c.loop-i.i in
    let h = c.loop-i-test.true in
    let f = get_or c.args.plus.now i (pos 0) in
    let g = get_or c.args.minus.now i (pos 0) in
    let hf : nat_abs f ≤ most_limit = omega (arith, c.requires.plus i blank h, (c.requires.sound i blank h).3) in
    let hg : nat_abs g ≤ most_limit = omega (arith, c.requires.minus i blank h, (c.requires.sound i blank h).3) in
    let one : i < length c.loop-i.one = omega arith in
    let two : i < length c.loop-i.two = omega arith in (
      below_more _ _
          (λ k q. let ne : k ≢ i = omega arith in (get_or-set_other c.loop-i.one i k _ (pos 0) ne ∙ (c.loop-i.invariant.0 k q).0, get_or-set_other c.loop-i.two i k _ (pos 0) ne ∙ (c.loop-i.invariant.0 k q).1))
          (get_or-set_same c.loop-i.one i _ (pos 0) one ∙ plus f g c.share-first.result.0 hf hg c.share-first.ensures.0, get_or-set_same c.loop-i.two i _ (pos 0) two ∙ minus f g c.share-first.result.1 hf hg c.share-first.ensures.1),
      drop-set-lt (length c.args.arcs.now) c.loop-i.one i _ h ∙ c.loop-i.invariant.1,
      drop-set-lt (length c.args.arcs.now) c.loop-i.two i _ h ∙ c.loop-i.invariant.2,
    )
