-- The ground that a `Residual` is.
use Rattle.search.specs.Graphs.{Graph, Lawful}
use Rattle.engine.specs.Arcs.{blank}
use Rattle.engine.specs.Jobs.{links_of}
use Rattle.engine.specs.declared.job.Job.{Job}
use Rattle.residual.specs.Meshes.{mesh_of, residual}
use Rattle.residual.specs.Networks.{links_in}
use Rattle.residual.specs.declared.residual.Residual.{Residual}

-- the links of a job are a lawful mesh
pub job_lawful : (j : Job) → Lawful (mesh_of (links_of j))
job_lawful j = record {
  few = j.few;
  first_in = λ l h. (j.sound l blank h).0;
  second_in = λ l h. (j.sound l blank h).1;
  apart = λ l h. (j.sound l blank h).2;
}

-- the steps over which something is free
abbrev pub graph_of : Residual → Graph
graph_of r = residual (links_in r.network.now) r.flow.now 1

-- their mesh is lawful
pub lawful_of : (r : Residual) → Lawful (graph_of r).mesh
lawful_of r = job_lawful r.network.now.job.now
