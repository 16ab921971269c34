-- What a `Net` holds, by the struct.
use Rattle.std.specs.Prelude.{List}
use Rattle.search.specs.Graphs.{Mesh, Lawful, mesh_by}
use Rattle.search.specs.declared.links.Joins.{Ghosts}
use Rattle.search.specs.declared.net.Net.{Net}

module _ {T : Type 0} {joins : Ghosts T} where
  -- The links of a net.
  abbrev pub links_in : Net T joins → List T
  links_in n = n.list.now

  -- The mesh of the links of a net.
  abbrev pub mesh_in : Net T joins → Mesh
  mesh_in n = mesh_by joins.first joins.second joins.none (links_in n)

  -- The mesh of a net is lawful.
  pub lawful_in : (n : Net T joins) → Lawful (mesh_in n)
  lawful_in n = n.lawful
