use Rattle.search.specs.Graphs.{mesh_by}
use Rattle.search.proofs.Fillings.{Filled}
use Rattle.search.proofs.build.fill.Given as goal

abbrev pub invariant-loop-number : goal.invariant-loop-number
invariant-loop-number g l =
    let t = g.T.Joins in
    Filled (mesh_by t.first t.second t.none l.links) l.starts l.rows.entries l.rows.next l.number
