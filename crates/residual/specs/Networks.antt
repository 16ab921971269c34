-- Networks, by the struct.
use Rattle.std.specs.Prelude.{List}
use Rattle.engine.specs.declared.arc.Arc.{Arc}
use Rattle.engine.specs.Jobs.{links_of}
use Rattle.residual.specs.declared.network.Network.{Network}

-- the links of a network's job
abbrev pub links_in : Network → List Arc
links_in n = links_of n.job.now
