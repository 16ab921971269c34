-- What a sheet knows of the plan that it shows.
use Rattle.std.specs.Prelude.{◌≡◌, List, length}
use Rattle.flow.specs.Plans.{Shared, Proper}
use Rattle.flow.specs.Ranges.{cabinets}
use Rattle.plan.specs.declared.listed.Plan.{Plan}
use Rattle.mesh.specs.declared.row.Row.{Row}
use Rattle.mesh.specs.Links.{capacity_of}

-- the plan has two shares for each link, which fit its slots, and its pairs are proper
pub record Fits (links : List Row) (p : Plan) : Type 0 where
  pub ones : length p.one.now ≡ length links
  pub twos : length p.two.now ≡ length links
  pub shared : Shared capacity_of links p.one.now p.two.now
  pub proper : Proper cabinets p.pairs
