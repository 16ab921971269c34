use Rattle.std.proofs.Common.{arith}
use Rattle.std.proofs.lemmas.List.{length-take}
use Rattle.augmenting.proofs.Amounts.{found_route}
use Rattle.augmenting.proofs.sending.seek.Goals as goal

pub returns : goal.returns
returns c =
    let found = c.in-Some.ensures in
    let route = found_route c.args.network.now.job.now _ _ _ _ _ _ c.least_free-by.ensures c.requires.some found.way in
    (route.0, route.1, route.2, omega (arith, found.short, length-take c.in-Some.count c.find_path.new.path))
