-- Jobs of a shape.
use Rattle.std.specs.Prelude.{◌≡◌, ◌≤◌, length, Some, None, Option}
use Rattle.flow.specs.Ranges.{cabinets, most_links, most_limit, most_fed}
use Rattle.engine.specs.declared.job.Job.{Job}
use Rattle.engine.specs.Jobs.{links_of}
use Rattle.samples.specs.declared.jobs.Shape.{Shape}

-- there are jobs of the shape
pub record IsUsable (s : Shape) : Type 0 where
  pub few : s.links ≤ most_links
  pub two : 2 ≤ s.cabinets
  pub known : s.cabinets ≤ cabinets
  pub some_limit : s.limits ≤ most_limit
  pub some_fed : s.fed ≤ most_fed

-- a job with as many links as the shape says, or none where it is not usable
abbrev pub Shaped : Shape → Option Job → Type 0
Shaped s (Some j) = length (links_of j) ≡ s.links
Shaped s None = IsUsable s → ⊥
