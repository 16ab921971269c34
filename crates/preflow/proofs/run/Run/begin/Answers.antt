use Rattle.std.proofs.Common.{ℕ, length, refl, ap, subst, arith}
use Rattle.engine.specs.Jobs.{links_of}
use Rattle.preflow.specs.Starts.{begun, filled, Still}
use Rattle.preflow.proofs.Begins.{job_begun}
use Rattle.preflow.proofs.Turns.{become}
use Rattle.preflow.proofs.run.Run.begin.Goals as goal

pub invariant_of-result : goal.invariant_of-result
invariant_of-result c =
    let job = c.args.network.now.job.now in
    let count = ap length c.links.ensures.links in
    let begun-at = job_begun job c.clear.new.flow c.distances.result (omega (arith, count, c.links.ensures.few, c.clear.array_long)) (subst (λ (n : ℕ). Still n c.clear.new.flow) count c.clear.ensures.front) c.distances.ensures.long c.distances.ensures.distances in
    record {
      active = record {
        standing = become (links_of job) job.at job.most (begun job.most) c.full.result c.clear.new.flow c.clear.new.flow (filled job.at job.most) c.fill.result c.distances.result c.distances.result c.full.ensures refl c.fill.ensures refl begun-at;
        queued = c.line_up.ensures.queued;
      };
      roomy = omega (arith, c.line_up.ensures.room, c.requires.room);
    }
