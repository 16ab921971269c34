use Rattle.std.proofs.Common.{◌≡◌, ℕ, ◌-◌, List, ◌++◌, length, take, drop, ℤ, sym, ap, ◌∙◌, subst}
use native.Mathlib.Nat.{sub-zero}
use Rattle.std.proofs.lemmas.List.{drop_at}
use Rattle.flow.specs.Ranges.{cabinets}
use Rattle.flow.specs.Nets.{members}
use Rattle.flow.specs.Answers.{Answer, Solves}
use Rattle.engine.specs.declared.arc.Arc.{Arc}
use Rattle.engine.specs.declared.job.Job.{Job}
use Rattle.engine.specs.Arcs.{tail_of, head_of, limit_of, AllSound}
use Rattle.engine.specs.Jobs.{links_of}
use Rattle.flow.specs.Trimming.{trimmed, dealt}
use Rattle.flow.proofs.Trims.{length_dealt, trim_solves}
use Rattle.engine.proofs.Arcs.{sound_trimmed}
use Rattle.engine.proofs.trim.TrimEngine.solve.Goals as goal

-- an answer solves a job
abbrev Answers : Job → Answer → Type 0
Answers j r = Solves tail_of head_of limit_of cabinets (links_of j) j.at j.most r

-- the front of the list that was chosen is the links with a limit above 0
front_trimmed : (chosen links all : List Arc) (n : ℕ) → take n chosen ≡ trimmed limit_of links → links ≡ all → take (n - 0) chosen ≡ trimmed limit_of all
front_trimmed chosen links all n e h = ap (λ m. take m chosen) (sub-zero n) ∙ e ∙ ap (trimmed limit_of) h

-- an answer to the job over those links, dealt out, solves the job
dealt_solves : (j small : Job) (ls : List Arc) (r : Answer) (was after : List ℤ) → links_of small ≡ trimmed limit_of (links_of j) → small.at ≡ j.at → small.most ≡ j.most → ls ≡ links_of j → after ≡ dealt limit_of ls r.flow ++ drop (length ls) was → Answers small r → Answers j (record { flow = after; amount = r.amount; side = r.side })
dealt_solves j small ls r was after links at most whole back s =
    subst (λ fs. Answers j (record { flow = fs; amount = r.amount; side = r.side })) (sym (subst (λ k. after ≡ dealt limit_of k r.flow ++ drop (length k) was) whole back))
    (trim_solves tail_of head_of limit_of cabinets (links_of j) j.at j.most r _
    (subst (λ m. Solves tail_of head_of limit_of cabinets (trimmed limit_of (links_of j)) j.at m r) most
    (subst (λ a. Solves tail_of head_of limit_of cabinets (trimmed limit_of (links_of j)) a small.most r) at
    (subst (λ k. Solves tail_of head_of limit_of cabinets k small.at small.most r) links s))))

-- what is beyond the links stays
beyond_dealt : (all ls : List Arc) (part was after : List ℤ) → ls ≡ all → after ≡ dealt limit_of ls part ++ drop (length ls) was → drop (length all) after ≡ drop (length all) was
beyond_dealt all ls part was after e h =
    subst (λ k. drop (length k) after ≡ drop (length k) was) e (ap (drop (length ls)) h ∙ drop_at (dealt limit_of ls part) _ (length ls) (length_dealt limit_of ls part))

pub with_links-small-requires-clause-sound : goal.with_links-small-requires-clause-sound
with_links-small-requires-clause-sound g c =
    let j = c.args.job.now in
    subst AllSound (sym (front_trimmed c.pick-count.new.chosen _ (links_of j) c.pick-count.result c.pick-count.ensures.kept c.links-links.ensures.links)) (sound_trimmed (links_of j) j.sound)

pub returns : goal.returns
returns g c =
    let j = c.args.job.now in
    let a = c.solve-amounts in
    let small = c.with_links-small in
    let part : Answer = record { flow = a.new.flow; amount = a.result; side = members a.new.side } in
    let links = small.ensures.links ∙ front_trimmed c.pick-count.new.chosen _ (links_of j) c.pick-count.result c.pick-count.ensures.kept c.links-links.ensures.links in
    let answer =
    dealt_solves j small.result c.links-links.result.now part c.args.flow.now c.deal.new.flow links small.ensures.at small.ensures.most c.links-links.ensures.links c.deal.ensures (record { within = a.ensures.within; amounts = a.ensures.amounts; balanced = a.ensures.balanced; full = a.ensures.full }) in
    record { within = answer.within; amounts = answer.amounts; balanced = answer.balanced; full = answer.full; beyond = beyond_dealt _ c.links-links.result.now part.flow c.args.flow.now c.deal.new.flow c.links-links.ensures.links c.deal.ensures }
