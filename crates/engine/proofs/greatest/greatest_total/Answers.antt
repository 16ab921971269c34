use Rattle.flow.specs.Nets.{members}
use Rattle.engine.proofs.Totals.{full_greatest}
use Rattle.engine.proofs.greatest.greatest_total.Goals as goal

pub returns : goal.returns
returns g c =
    let a = c.solve-amounts in
    full_greatest c.args.job.now c.total.result a.new.flow a.result (members a.new.side) c.total.ensures (record { within = a.ensures.within; amounts = a.ensures.amounts; balanced = a.ensures.balanced }) a.ensures.full
