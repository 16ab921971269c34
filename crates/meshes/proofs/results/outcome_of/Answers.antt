use Rattle.meshes.proofs.Passing.{whole_table}
use Rattle.meshes.proofs.results.outcome_of.Goals as goal

pub returns : goal.returns
returns c = record { value = c.listed.ensures; shown = whole_table }
