use Rattle.std.proofs.Common.{◌≡◌, ℕ, ◌+◌, ◌*◌, ◌^◌, ◌<◌, ◌≤◌, length, nat_eq, ℤ, pos, ◌+ℤ◌, ◌-ℤ◌, unsigned_abs, sym, ap, ◌∙◌, arith, w32, w64, to_z, of_z, rules}
use Rattle.std.proofs.lemmas.Int.{ints}
use Rattle.std.proofs.lemmas.List.{length_push}
use Rattle.std.proofs.lemmas.Slice.Zip.{zip_turn}
use Rattle.flow.specs.Nets.{only}
use Rattle.flow.proofs.Steps.{leaving_step}
use Rattle.flow.proofs.nets.net_at.Goals as goal

-- one turn, in whole numbers: n with a link's part x is m
turn : (s x y n m : ℤ) (i : ℕ) → s ≡ n → unsigned_abs s ≤ 2 ^ 32 * i → i < 512 → x ≡ y → unsigned_abs x ≤ 2 ^ 32 → m ≡ n +ℤ y → (to_z w64 (of_z w64 (s +ℤ to_z w64 (of_z w64 x))) ≡ m) × (unsigned_abs (to_z w64 (of_z w64 (s +ℤ to_z w64 (of_z w64 x)))) ≤ 2 ^ 32 * (i + 1))
turn s x y n m i e b l q f h = (omega (arith, ints), omega (arith, ints))

pub loop-link-preserved : goal.loop-link-preserved
loop-link-preserved g c =
    let v = c.args.cabinet in
    let i = length c.loop-link.yielded in
    let x = c.in-Some.link.now in
    let s = c.in-Some.share in
    let r : to_z w32 (of_z w32 s) ≡ s = search (rules, ints) in
    let t = zip_turn c.args.links.now c.args.shares.now c.loop-link.yielded c.into_iter-link-iterator.result c.loop-link.link-iterator c.next.new.self _ (search rules) (search rules) c.loop-link.yielded_by _ c.in-Some.is c.next.ensures.steps in
    let n = turn _ c.link_net-sum.result _ _ _ i c.loop-link.invariant.0 c.loop-link.invariant.1 (omega (arith, t.0)) (c.link_net-sum.ensures.value ∙ ap (λ z. only (nat_eq (g.E.Edge.low x) v) z -ℤ only (nat_eq (g.E.Edge.high x) v) z) (ap (λ z. to_z w32 (of_z w32 z)) c.in-Some.share-is ∙ r ∙ sym c.in-Some.share-is ∙ t.3 (pos 0))) c.link_net-sum.ensures.small (leaving_step g.E.Edge.low g.E.Edge.high (λ u. nat_eq u v) c.args.links.now c.args.shares.now i x (t.2 x) t.0) in
    rw (length_push c.loop-link.yielded (c.in-Some.link, c.in-Some.field-0-1)) (n.0, n.1, omega (arith, t.0))
