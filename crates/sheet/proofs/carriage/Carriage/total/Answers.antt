use Rattle.std.proofs.Common.{◌≡◌, nat_abs, ap, ◌∙◌, arith, w64, to_z, of_z, rules}
use Rattle.std.proofs.lemmas.Int.{ints}
use Rattle.sheet.proofs.Nearness.{net_near}
use Rattle.sheet.proofs.carriage.Carriage.total.Goals as goal

pub returns-clause-small : goal.returns-clause-small
returns-clause-small c =
    let s = c.args.self.now in
    let near = net_near s.links.now s.shares.now s.ends.source s.small in
    let same : to_z w64 (of_z w64 c.net_at.result) ≡ c.net_at.result = search (rules, ints) in
    omega (arith, near, s.few, ap nat_abs (same ∙ c.net_at.ensures))
