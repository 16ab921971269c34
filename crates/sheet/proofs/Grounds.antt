-- The links of a sheet make a lawful mesh.
use Rattle.std.proofs.Common.{◌≤◌, List, length, arith}
use Rattle.search.specs.Graphs.{Lawful}
use Rattle.mesh.specs.declared.row.Row.{Row}
use Rattle.sheet.specs.Routes.{AllRuled, mesh_of}

pub lawful_links : (links : List Row) → length links ≤ 512 → AllRuled links → Lawful (mesh_of links)
lawful_links links few ruled = record {
  few = few;
  first_in = λ l h. let r = ruled l h in omega arith;
  second_in = λ l h. (ruled l h).1;
  apart = λ l h e. let r = ruled l h in omega arith;
}
