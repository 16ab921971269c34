-- A link and a job as text.
use Rattle.std.specs.Prelude.{ℕ, List, [], ◌∷◌, ◌++◌, codes, decimal}
use Rattle.std.specs.List.{flat_map}
use Rattle.flow.specs.declared.taps.Taps.{Taps}
use Rattle.engine.specs.declared.arc.Arc.{Arc}
use Rattle.engine.specs.declared.job.Job.{Job}
use Rattle.engine.specs.Jobs.{links_of}

-- a link is told by its tail, its head and its limit
abbrev pub arc_text : Arc → List ℕ
arc_text arc = decimal arc.tail ++ (codes " " ++ (decimal arc.head ++ (codes " " ++ decimal arc.limit)))

-- four numbers on a line, feeds before drains
abbrev pub taps_line : Taps ℕ → List ℕ
taps_line t = decimal t.feed1 ++ (codes " " ++ (decimal t.feed2 ++ (codes " " ++ (decimal t.drain1 ++ (codes " " ++ (decimal t.drain2 ++ (10 ∷ [])))))))

-- links are told in order, each on a line of its own
abbrev pub arc_lines : List Arc → List ℕ
arc_lines = flat_map (λ arc. arc_text arc ++ (10 ∷ []))

-- a job is told by its cabinets, its limits and its links, in order
abbrev pub job_text : Job → List ℕ
job_text j = taps_line j.at ++ (taps_line j.most ++ arc_lines (links_of j))
