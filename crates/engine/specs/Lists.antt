-- The links that a job keeps, by the enum.
use Rattle.std.specs.Prelude.{List, take}
use Rattle.engine.specs.declared.arc.Arc.{Arc}
use Rattle.engine.specs.declared.job.links.Links.{Links}
use Rattle.engine.specs.declared.job.links.Links.TheVariants.{Lent, Own}

-- the links that are lent to a job, or the first of its own
abbrev pub listed : Links → List Arc
listed (Lent links) = links.now
listed (Own own) = take own.count own.arcs
