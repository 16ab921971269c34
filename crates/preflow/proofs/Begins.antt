-- The preflow to start from has valid heights, and the queue lines up with it.
use Rattle.std.proofs.Common.{◌≡◌, ℕ, ◌+◌, ◌^◌, ◌<◌, ◌≤◌, Bool, true, false, cond, eqb, ltb, List, [], ◌∷◌, ◌++◌, length, get_or, replicate, ℤ, pos, ◌+ℤ◌, ◌-ℤ◌, nat_abs, sum, sym, ap, ◌∙◌, subst, ⊎_elim, arith}
use Rattle.std.proofs.lemmas.List.{get_or_past, get_or-replicate, length-set}
use Rattle.std.proofs.lemmas.Bool.{cases_eq, cases_lt, eq-eqb, ne_eqb, lt-ltb, le-ltb, cond-true, cond-false}
use Rattle.flow.specs.declared.taps.Taps.{Taps}
use Rattle.flow.specs.Ranges.{cabinets}
use Rattle.flow.specs.Nets.{only, net}
use Rattle.flow.specs.Answers.{Placed}
use Rattle.flow.proofs.Sums.{whole, only_zero}
use Rattle.flow.proofs.Duality.{leaving_none}
use Rattle.engine.specs.declared.arc.Arc.{Arc}
use Rattle.engine.specs.declared.job.Job.{Job}
use Rattle.engine.specs.Jobs.{links_of}
use Rattle.engine.specs.Arcs.{tail_of, head_of, Fits, Limited}
use Rattle.preflow.specs.Heights.{high, Valid}
use Rattle.preflow.specs.Sends.{given}
use Rattle.preflow.specs.Starts.{begun, filled, Still, Lined, Distances}
use Rattle.preflow.specs.States.{Labeled}
use Rattle.preflow.proofs.Parts.{given_at, given_sum}
use Rattle.preflow.proofs.Queues.{times_push, some, none}
use Rattle.preflow.proofs.Spreads.{distances_valid}

-- nothing stands anywhere in a list of zeros
pub zeros : (v : ℕ) → ◌≡◌ {A = ℕ} (get_or (replicate 64 0) v 0) 0
zeros v = ⊎_elim (λ (h : v < 64). get_or-replicate 64 v 0 0 h) (λ (h : 64 ≤ v). get_or_past (replicate 64 0) v 0 (omega arith)) (cases_lt v 64)

module _ (at most : Taps ℕ) (pl : Placed cabinets at) where
  first : List ℕ
  first = given (replicate 64 0) at.feed1 most.feed1

  first_long : length first ≡ 64
  unfolding first
  first_long = length-set (replicate 64 0) at.feed1 (get_or (replicate 64 0) at.feed1 0 + most.feed1)

  filled_long : length (filled at most) ≡ 64
  unfolding first
  filled_long = length-set first at.feed2 (get_or first at.feed2 0 + most.feed2) ∙ first_long

  filled_at : (v : ℕ) → pos (get_or (filled at most) v 0) ≡ only (eqb at.feed1 v) (pos most.feed1) +ℤ only (eqb at.feed2 v) (pos most.feed2)
  unfolding first
  filled_at v =
      omega (arith, whole, given_at first at.feed2 most.feed2 v (omega (arith, first_long, pl.1)), given_at (replicate 64 0) at.feed1 most.feed1 v (omega (arith, pl.0)), zeros v)

  filled_sum : sum (filled at most) ≡ most.feed1 + most.feed2
  unfolding first
  filled_sum = omega (arith, given_sum first at.feed2 most.feed2 (omega (arith, first_long, pl.1)), given_sum (replicate 64 0) at.feed1 most.feed1 (omega (arith, pl.0)))

  -- both feeds fit one cabinet
  pub give_fits : Limited most → get_or (given (replicate 64 0) at.feed1 most.feed1) at.feed2 0 + most.feed2 < 2 ^ 32
  give_fits lim =
      omega (arith, whole, given_at (replicate 64 0) at.feed1 most.feed1 at.feed2 (omega (arith, pl.0)), zeros at.feed2, only_most (eqb at.feed1 at.feed2) most.feed1, lim.0, lim.1)
    where
      only_most : (b : Bool) (n : ℕ) → nat_abs (only b (pos n)) ≤ n
      only_most true n = omega arith
      only_most false n = omega arith

balance : (n e f g : ℤ) → n ≡ pos 0 → e ≡ f +ℤ g → (n +ℤ e) ≡ (f +ℤ g) -ℤ (pos 0 +ℤ pos 0)
balance n e f g z q = omega (arith, whole)

pub begun_labeled : (ls : List Arc) (at most : Taps ℕ) (fs : List ℤ) (hs : List ℕ) → Fits ls at most → length ls ≤ length fs → Still (length ls) fs → length hs ≡ cabinets → Valid ls at most (begun most) fs hs → ((w : ℕ) → w < cabinets → high hs w < 131) → Labeled ls at most (begun most) fs (filled at most) hs
begun_labeled ls at most fs hs fits room still tall valid low =
    let pl = fits.placed in
    record {
      fits = fits;
      room = room;
      wide = filled_long at most pl;
      tall = tall;
      within = λ k d h. subst (λ (z : ℤ). nat_abs z ≤ (get_or ls k d).limit) (sym (still k h)) (omega arith);
      amounts = (omega arith, omega arith, omega arith, omega arith);
      excess = λ v h.
          balance (net tail_of head_of ls fs v) (pos (get_or (filled at most) v 0)) (only (eqb at.feed1 v) (pos most.feed1)) (only (eqb at.feed2 v) (pos most.feed2)) (leaving_none tail_of head_of (λ u. eqb u v) ls fs still) (filled_at at most pl v)
          ∙ ap (λ z. (only (eqb at.feed1 v) (pos most.feed1) +ℤ only (eqb at.feed2 v) (pos most.feed2)) -ℤ (z +ℤ pos 0)) (sym (only_zero (eqb at.drain1 v)))
          ∙ ap (λ z. (only (eqb at.feed1 v) (pos most.feed1) +ℤ only (eqb at.feed2 v) (pos most.feed2)) -ℤ (only (eqb at.drain1 v) (pos 0) +ℤ z)) (sym (only_zero (eqb at.drain2 v)));
      total = omega (arith, filled_sum at most pl);
      valid = valid;
      low = low;
    }

module _ (ex : List ℕ) (n : ℕ) (qs : List ℕ) (lined : Lined ex n qs) where
  under : (v m : ℕ) → v < m → ◌≡◌ {A = ℕ} (cond (ltb v m) (cond (ltb 0 (get_or ex v 0)) 1 0) 0) (cond (ltb 0 (get_or ex v 0)) 1 0)
  under v m h = cond-true (ltb v m) (cond (ltb 0 (get_or ex v 0)) 1 0) 0 (lt-ltb v m h)

  over : (v m : ℕ) → m ≤ v → ◌≡◌ {A = ℕ} (cond (ltb v m) (cond (ltb 0 (get_or ex v 0)) 1 0) 0) 0
  over v m h = cond-false (ltb v m) (cond (ltb 0 (get_or ex v 0)) 1 0) 0 (le-ltb v m h)

  hit : (v : ℕ) → n ≡ v → ◌≡◌ {A = ℕ} (cond (eqb n v) 1 0) 1
  hit v e = ap (λ b. cond {A = ℕ} b 1 0) (eq-eqb n v e)

  miss : (v : ℕ) → (n ≡ v → ⊥) → ◌≡◌ {A = ℕ} (cond (eqb n v) 1 0) 0
  miss v e = ap (λ b. cond {A = ℕ} b 1 0) (ne_eqb n v e)

  pub lined_yes : 0 < get_or ex n 0 → Lined ex (n + 1) (qs ++ n ∷ [])
  lined_yes full v =
      ⊎_elim
      (λ (e : n ≡ v). omega (arith, times_push v qs n, hit v e, lined v, over v n (omega arith), under v (n + 1) (omega arith), some (get_or ex v 0) (subst (λ k. 0 < get_or ex k 0) e full)))
      (λ (ne : n ≡ v → ⊥). ⊎_elim
      (λ (l : v < n). omega (arith, times_push v qs n, miss v ne, lined v, under v n l, under v (n + 1) (omega arith)))
      (λ (l : n ≤ v). omega (arith, times_push v qs n, miss v ne, lined v, over v n l, over v (n + 1) (omega arith)))
      (cases_lt v n))
      (cases_eq n v)

  pub lined_no : get_or ex n 0 ≤ 0 → Lined ex (n + 1) qs
  lined_no dry v =
      ⊎_elim
      (λ (e : n ≡ v). omega (arith, lined v, over v n (omega arith), under v (n + 1) (omega arith), none (get_or ex v 0) (subst (λ k. get_or ex k 0 ≡ 0) e (omega arith))))
      (λ (ne : n ≡ v → ⊥). ⊎_elim
      (λ (l : v < n). omega (arith, lined v, under v n l, under v (n + 1) (omega arith)))
      (λ (l : n ≤ v). omega (arith, lined v, over v n l, over v (n + 1) (omega arith)))
      (cases_lt v n))
      (cases_eq n v)

-- the numbers of a job are in range
pub job_fits : (j : Job) → Fits (links_of j) j.at j.most
job_fits j = record { few = j.few; sound = j.sound; placed = j.placed; limited = j.limited }

pub job_begun : (j : Job) (fs : List ℤ) (hs : List ℕ) → length (links_of j) ≤ length fs → Still (length (links_of j)) fs → length hs ≡ cabinets → Distances (links_of j) j.at j.most hs → Labeled (links_of j) j.at j.most (begun j.most) fs (filled j.at j.most) hs
job_begun j fs hs room still tall d =
    begun_labeled (links_of j) j.at j.most fs hs (job_fits j) room still tall (distances_valid (links_of j) j.at j.most fs hs j.placed.0 j.placed.1 still d) (λ w h. omega (arith, d.top w h))
