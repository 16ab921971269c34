use Rattle.std.proofs.Common.{refl, sym, subst, arith}
use Rattle.preflow.specs.Waits.{Queued}
use Rattle.preflow.proofs.Turns.{at_front, waits_on, lifted}
use Rattle.preflow.proofs.run.Run.lift.Goals as goal

pub relabel-requires : goal.relabel-requires
relabel-requires c = (at_front c.args.self.now c.args.first c.requires.front).1

pub invariant_of-self : goal.invariant_of-self
invariant_of-self c =
    let r = c.args.self.now in
    record {
      active = record {
        standing = (lifted r c.args.first c.requires.front c.args.height c.requires.up c.requires.least c.relabel.new.heights c.relabel.ensures.tall c.relabel.ensures.relabeled).0;
        queued = subst (Queued r.state.excess) (sym c.requeue.ensures.items) (waits_on r c.args.first c.requires.front);
      };
      roomy = omega (arith, r.roomy, c.requeue.ensures.room);
    }

pub returns : goal.returns
returns c =
    record {
      stays = record { network = refl; lent = refl; beyond = refl };
      falls = (lifted c.args.self.now c.args.first c.requires.front c.args.height c.requires.up c.requires.least c.relabel.new.heights c.relabel.ensures.tall c.relabel.ensures.relabeled).1;
    }
