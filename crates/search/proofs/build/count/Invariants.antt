use Rattle.search.specs.Graphs.{mesh_by}
use Rattle.search.proofs.Fillings.{Counting}
use Rattle.search.proofs.build.count.Given as goal

abbrev pub invariant-loop-link : goal.invariant-loop-link
invariant-loop-link g l =
    let t = g.T.Joins in
    Counting (mesh_by t.first t.second t.none l.links) l.counts l.link-index
