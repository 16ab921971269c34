use Rattle.std.proofs.Common.{ℕ, ◌+◌, ◌<◌, length, set, sym, ap, ◌∙◌, arith}
use Rattle.std.proofs.lemmas.Bool.{eqb-false}
use Rattle.search.specs.Rings.{held}
use Rattle.search.proofs.Rings.{length_held, push_behind}
use Rattle.search.proofs.queue.Queue.push.Goals as goal

pub returns-clause-items : goal.returns-clause-items
returns-clause-items g c =
    let q = c.args.self.now in
    let ps = q.places.now in
    let x = c.args.item in
    let lt : q.len < length ps = omega (arith, eqb-false q.len (length ps) (sym c.if-is_full.ensures)) in (
      ap (λ (i : ℕ). held (set ps i x) q.head (q.len + 1)) c.free_place-free.ensures ∙ push_behind ps q.head q.len x (omega arith) lt,
      omega (arith, length_held ps q.head q.len (omega arith) q.fits, lt),
    )
