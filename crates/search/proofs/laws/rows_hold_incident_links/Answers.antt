use Rattle.search.proofs.RowLaws.{row_law}
use Rattle.search.proofs.laws.rows_hold_incident_links.Goals as goal

pub returns : goal.returns
returns c = row_law
