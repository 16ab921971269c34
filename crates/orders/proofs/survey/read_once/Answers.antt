use Rattle.orders.specs.Records.{orders}
use Rattle.orders.proofs.ReadAll.{read_once, orders_apart}
use Rattle.orders.proofs.survey.read_once.Goals as goal

pub returns : goal.returns
returns c = read_once orders orders_apart
