use Rattle.flow.specs.Ranges.{cabinets}
use Rattle.flow.proofs.Trims.{trim_solves}
use Rattle.flow.proofs.theorems.trim_answers.Goals as goal

pub returns : goal.returns
returns g c ls at most r more s = trim_solves g.E.Edge.low g.E.Edge.high g.E.Edge.capacity cabinets ls at most r more s
