-- Runs that go on.
use Rattle.std.proofs.Common.{◌≡◌, ℕ, ◌≤◌, Bool, List, length, drop, sym, ◌∙◌, subst, arith}
use Rattle.flow.specs.Nets.{members}
use Rattle.engine.specs.Jobs.{links_of}
use Rattle.augmenting.specs.declared.pairs.Pair.{Pair}
use Rattle.augmenting.specs.declared.pairs.Which.TheVariants.{First, Second}
use Rattle.augmenting.specs.declared.run.Run.{Run}
use Rattle.augmenting.specs.Sending.{Blocked}
use Rattle.augmenting.specs.Sides.{Joined, Full}
use Rattle.augmenting.specs.Runs.{job_in, BlockedIn, Continues}
use Rattle.augmenting.proofs.Blocking.{blocked_at, full_joined}

pub continues_on : (a b c : Run) → Continues a b → Continues b c → Continues a c
continues_on a b c f g = record {
  same = g.same ∙ f.same;
  beyond = subst (λ n. drop (length (links_of n.now.job.now)) c.flow ≡ drop (length (links_of n.now.job.now)) b.flow) f.same g.beyond ∙ f.beyond;
  counted = omega (arith, f.counted, g.counted);
  less = omega (arith, f.less, g.less);
  still = λ e. let x = f.still (omega (arith, f.counted, g.counted)) in let y = g.still (omega (arith, f.counted, g.counted)) in (y.0 ∙ x.0, y.1 ∙ x.1);
}

-- what blocks a pair still does where the flow was not raised since
pub blocked_on : (a b : Run) (p : Pair) (S : ℕ → Bool) → Continues a b → b.raises ≤ a.raises → BlockedIn a p S → BlockedIn b p S
blocked_on a b p S f h k =
    let still = f.still (omega (arith, f.counted)) in
    subst (λ n. Blocked n.now.job.now b.flow b.amounts p S) (sym f.same) (blocked_at (job_in a) a.flow b.flow a.amounts b.amounts p S still.0 still.1 k)

-- four pairs were exhausted in turn and nothing was sent
pub full_round : (a b c d : Run) (p q r s side : List Bool) → d.raises ≤ a.raises → Continues a b → Continues b c → Continues c d → BlockedIn a (record { from = First; to = First }) (members p) → BlockedIn b (record { from = First; to = Second }) (members q) → BlockedIn c (record { from = Second; to = First }) (members r) → BlockedIn d (record { from = Second; to = Second }) (members s) → Joined p q r s side 64 → Full (job_in d) d.amounts side
full_round a b c d p q r s side h f g k wp wq wr ws joined =
    full_joined (job_in d) d.flow d.amounts p q r s side d.feasible
    (blocked_on a d _ _ (continues_on a c d (continues_on a b c f g) k) h wp)
    (blocked_on b d _ _ (continues_on b c d g k) (omega (arith, f.counted)) wq)
    (blocked_on c d _ _ k (omega (arith, f.counted, g.counted)) wr)
    ws joined
