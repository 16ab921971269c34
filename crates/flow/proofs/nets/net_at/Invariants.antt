use Rattle.std.proofs.Common.{◌≡◌, ◌*◌, ◌^◌, ◌≤◌, length, take, unsigned_abs}
use Rattle.flow.specs.Nets.{net}
use Rattle.flow.proofs.nets.net_at.Given as goal

abbrev pub invariant-loop-link : goal.invariant-loop-link
invariant-loop-link g l =
    (l.sum ≡ net g.E.Edge.low g.E.Edge.high (take (length l.yielded) l.links) l.shares l.cabinet) × (unsigned_abs l.sum ≤ 2 ^ 32 * length l.yielded) × (length l.yielded ≤ length l.links)
