use Rattle.search.proofs.Once.{links_once}
use Rattle.search.proofs.laws.simple_paths_have_no_link_twice.Goals as goal

pub returns : goal.returns
returns c = links_once
