-- A push along an admissible way keeps a preflow with valid heights, and takes from the measure.
use Rattle.std.proofs.Common.{◌≡◌, ℕ, ◌+◌, ◌-◌, ◌^◌, ◌<◌, ◌≤◌, Bool, true, false, eqb, List, [], length, get_or, drop, ℤ, pos, ◌+ℤ◌, ◌-ℤ◌, nat_abs, Some, sum, sym, refl, ap, ◌∙◌, arith}
use Rattle.std.proofs.lemmas.List.{length-set}
use Rattle.std.proofs.lemmas.List.Sums.{get_or-le-sum_by}
use Rattle.std.proofs.lemmas.Bool.{leb-true, le-leb}
use Rattle.flow.specs.declared.taps.Taps.{Taps}
use Rattle.flow.specs.Ranges.{cabinets, most_limit}
use Rattle.flow.specs.Nets.{only, net}
use Rattle.flow.specs.Answers.{Each, gain}
use Rattle.flow.proofs.Sums.{whole}
use Rattle.search.specs.Graphs.{Step, across}
use Rattle.engine.specs.declared.arc.Arc.{Arc}
use Rattle.engine.specs.Arcs.{blank, tail_of, head_of}
use Rattle.residual.specs.Meshes.{mesh_of, ahead, toward, free, residual}
use Rattle.residual.specs.Raising.{Moved}
use Rattle.residual.proofs.Raising.{onward_more, raise_fits}
use Rattle.preflow.specs.declared.way.Way.{Way}
use Rattle.preflow.specs.declared.way.Way.TheVariants.{Over, Drain1, Drain2, Feed1, Feed2}
use Rattle.preflow.specs.Heights.{high, Valid}
use Rattle.preflow.specs.Ways.{Open}
use Rattle.preflow.specs.Sends.{carried, sent_flow, sent_amounts, reached, taken, moved, Sendable}
use Rattle.preflow.specs.States.{Labeled, dot}
use Rattle.preflow.proofs.Parts.{given_at, given_sum, given_dot, taken_at, taken_sum, taken_dot, times_more}
use Rattle.preflow.proofs.Labels.{step_ends, pushed_over}
use Rattle.preflow.proofs.Queues.{Far}

-- what one link carries more leaves one of its ends and enters the other
one_link : (ls : List Arc) (fs : List ℤ) (ex hs : List ℕ) (at most amount : Taps ℕ) → Labeled ls at most amount fs ex hs → (v l by : ℕ) → Step (residual ls fs by) v l → Moved ls fs (carried ls fs v l by) by v (across (mesh_of ls) v l)
one_link ls fs ex hs at most amount s v l by step =
    (onward_more ls fs fs by v v (across (mesh_of ls) v l) l [] (carried ls fs v l by) (across (mesh_of ls) v l) s.room
    (record {
      moved = record { within = s.within; nets = λ u. unmoved (net tail_of head_of ls fs u) (only (eqb v u) (pos by)); beyond = refl };
      route = record { steps = (step, tt); once = (tt, tt); arrives = refl };
    }) refl refl).moved
  where
    unmoved : (n a : ℤ) → n ≡ n +ℤ (a -ℤ a)
    unmoved n a = omega (arith, whole)

only_more : (b : Bool) (m n : ℕ) → only b (pos (m + n)) ≡ only b (pos m) +ℤ only b (pos n)
only_more true m n = refl
only_more false m n = refl

less_by : (n by : ℕ) → by ≤ n → n ≡ (n - by) + by
less_by n by h = omega arith

-- all that is at hand is at most what the feeds let in
pub sum_small : (ls : List Arc) (at most amount : Taps ℕ) (fs : List ℤ) (ex hs : List ℕ) → Labeled ls at most amount fs ex hs → sum ex ≤ 2 ^ 30
sum_small ls at most amount fs ex hs s = omega (arith, s.total, s.amounts.0, s.amounts.1, s.fits.limited.0, s.fits.limited.1)

over_sum : (n n' e e' t a b g : ℤ) → n' ≡ n +ℤ (a -ℤ b) → e' ≡ t +ℤ b → t +ℤ a ≡ e → n +ℤ e ≡ g → n' +ℤ e' ≡ g
over_sum n n' e e' t a b g p q r s = omega (arith, whole)

out_sum : (n e t a g g' : ℤ) → t +ℤ a ≡ e → n +ℤ e ≡ g → g' +ℤ a ≡ g → n +ℤ t ≡ g'
out_sum n e t a g g' p q r = omega (arith, whole)

module _ (ls : List Arc) (at most amount : Taps ℕ) (fs : List ℤ) (ex hs : List ℕ) (s : Labeled ls at most amount fs ex hs) where
  module _ (v l by : ℕ) (step : Step (residual ls fs by) v l) (le : by ≤ get_or ex v 0) (down : high hs v ≡ high hs (across (mesh_of ls) v l) + 1) where
    over_labeled : Labeled ls at most amount (carried ls fs v l by) (moved ex v by (Some (across (mesh_of ls) v l))) hs
    over_labeled =
        let w : ℕ = across (mesh_of ls) v l in
        let go = one_link ls fs ex hs at most amount s v l by step in
        let ends = step_ends ls s.fits.sound v l step.listed step.touching in
        let lv : v < length ex = omega (arith, ends.0, s.wide) in
        let long : length (taken ex v by) ≡ length ex = length-set ex v (get_or ex v 0 - by) in
        let lw : across (mesh_of ls) v l < length (taken ex v by) = omega (arith, ends.1, s.wide, long) in
        record {
          fits = s.fits;
          room = omega (arith, length-set fs l (get_or fs l (pos 0) +ℤ toward (ahead ls v l) (pos by)), s.room);
          wide = length-set (taken ex v by) w (get_or (taken ex v by) w 0 + by) ∙ long ∙ s.wide;
          tall = s.tall;
          within = go.within;
          amounts = s.amounts;
          excess = λ u h. over_sum (net tail_of head_of ls fs u) _ (pos (get_or ex u 0)) _ (pos (get_or (taken ex v by) u 0)) (only (eqb v u) (pos by)) (only (eqb w u) (pos by)) (gain at amount (λ x. eqb x u)) (go.nets u) (given_at (taken ex v by) w by u lw) (taken_at ex v by u lv le) (s.excess u h);
          total = omega (arith, s.total, given_sum (taken ex v by) (across (mesh_of ls) v l) by lw, taken_sum ex v by lv le);
          valid = record {
            over = pushed_over ls s.fits.sound fs hs s.valid.over v l (get_or fs l (pos 0) +ℤ toward (ahead ls v l) (pos by)) step.listed step.touching down;
            feed1 = s.valid.feed1;
            feed2 = s.valid.feed2;
            drain1 = s.valid.drain1;
            drain2 = s.valid.drain2;
          };
          low = s.low;
        }

    over_falls : 0 < by → dot (moved ex v by (Some (across (mesh_of ls) v l))) hs < dot ex hs
    over_falls some =
        let w : ℕ = across (mesh_of ls) v l in
        let ends = step_ends ls s.fits.sound v l step.listed step.touching in
        let lv : v < length ex = omega (arith, ends.0, s.wide) in
        let long : length (taken ex v by) ≡ length ex = length-set ex v (get_or ex v 0 - by) in
        omega (arith, given_dot (taken ex v by) hs (across (mesh_of ls) v l) by (omega (arith, ends.1, s.wide, long)) (omega (arith, ends.1, s.tall)), taken_dot ex hs v by lv (omega (arith, ends.0, s.tall)) le, times_more by (high hs v) (high hs (across (mesh_of ls) v l)) down)

  module _ (after : Taps ℕ) (v by : ℕ) (v_in : v < cabinets) (le : by ≤ get_or ex v 0) where
    out_labeled : Each ◌≤◌ after most → Valid ls at most after fs hs → ((u : ℕ) → gain at after (λ x. eqb x u) +ℤ only (eqb v u) (pos by) ≡ gain at amount (λ x. eqb x u)) → (amount.feed1 + amount.feed2) + (after.drain1 + after.drain2) ≡ (after.feed1 + after.feed2) + (amount.drain1 + amount.drain2) + by → Labeled ls at most after fs (taken ex v by) hs
    out_labeled amounts valid even total =
        let lv : v < length ex = omega (arith, s.wide) in
        record {
          fits = s.fits;
          room = s.room;
          wide = length-set ex v (get_or ex v 0 - by) ∙ s.wide;
          tall = s.tall;
          within = s.within;
          amounts = amounts;
          excess = λ u h. out_sum (net tail_of head_of ls fs u) (pos (get_or ex u 0)) (pos (get_or (taken ex v by) u 0)) (only (eqb v u) (pos by)) (gain at amount (λ x. eqb x u)) (gain at after (λ x. eqb x u)) (taken_at ex v by u lv le) (s.excess u h) (even u);
          total = omega (arith, taken_sum ex v by lv le, s.total, total);
          valid = valid;
          low = s.low;
        }

  at_tap : (c v u by : ℕ) → c ≡ v → only (eqb c u) (pos by) ≡ only (eqb v u) (pos by)
  at_tap c v u by e = ap (λ k. only (eqb k u) (pos by)) e

  -- a push along an open way out of v
  module _ (v m n by : ℕ) (v_in : v < cabinets) (level : high hs v ≡ m) (some : 0 < by) (fits : by ≤ n) (le : by ≤ get_or ex v 0) where
    lv : v < length ex
    lv = omega (arith, s.wide)

    lh : v < length hs
    lh = omega (arith, s.tall)

    part : (l : ℕ) → Step (residual ls fs n) v l → Step (residual ls fs by) v l
    part l step = record { listed = step.listed; touching = step.touching; clear = le-leb by (free ls fs v l) (omega (arith, leb-true n (free ls fs v l) step.clear)) }

    pub sent_labeled : (way : Way) → Open ls at most amount fs hs v m n way → Labeled ls at most (sent_amounts amount by way) (sent_flow ls fs v by way) (moved ex v by (reached ls v way)) hs
    sent_labeled (Over l) h = over_labeled v l by (part l h.0) le (level ∙ sym h.1)
    sent_labeled Drain1 h =
        let a = s.amounts in
        let k = s.valid in
        out_labeled (sent_amounts amount by Drain1) v by v_in le (a.0, a.1, omega (arith, h.3), a.3) (record { over = k.over; feed1 = k.feed1; feed2 = k.feed2; drain1 = λ q. k.drain1 (omega arith); drain2 = k.drain2 })
        (λ u. omega (arith, whole, only_more (eqb at.drain1 u) amount.drain1 by, at_tap at.drain1 v u by h.0)) (omega arith)
    sent_labeled Drain2 h =
        let a = s.amounts in
        let k = s.valid in
        out_labeled (sent_amounts amount by Drain2) v by v_in le (a.0, a.1, a.2, omega (arith, h.3)) (record { over = k.over; feed1 = k.feed1; feed2 = k.feed2; drain1 = k.drain1; drain2 = λ q. k.drain2 (omega arith) })
        (λ u. omega (arith, whole, only_more (eqb at.drain2 u) amount.drain2 by, at_tap at.drain2 v u by h.0)) (omega arith)
    sent_labeled Feed1 h =
        let a = s.amounts in
        let k = s.valid in
        let b : by ≤ amount.feed1 = omega (arith, h.3) in
        out_labeled (sent_amounts amount by Feed1) v by v_in le (omega (arith, a.0), a.1, a.2, a.3) (record { over = k.over; feed1 = ((λ q. k.feed1.0 (omega arith)), (λ q. omega (arith, ap (high hs) h.0, h.1))); feed2 = k.feed2; drain1 = k.drain1; drain2 = k.drain2 })
        (λ u. omega (arith, whole, ap (λ x. only (eqb at.feed1 u) (pos x)) (less_by amount.feed1 by b), only_more (eqb at.feed1 u) (amount.feed1 - by) by, at_tap at.feed1 v u by h.0)) (omega arith)
    sent_labeled Feed2 h =
        let a = s.amounts in
        let k = s.valid in
        let b : by ≤ amount.feed2 = omega (arith, h.3) in
        out_labeled (sent_amounts amount by Feed2) v by v_in le (a.0, omega (arith, a.1), a.2, a.3) (record { over = k.over; feed1 = k.feed1; feed2 = ((λ q. k.feed2.0 (omega arith)), (λ q. omega (arith, ap (high hs) h.0, h.1))); drain1 = k.drain1; drain2 = k.drain2 })
        (λ u. omega (arith, whole, ap (λ x. only (eqb at.feed2 u) (pos x)) (less_by amount.feed2 by b), only_more (eqb at.feed2 u) (amount.feed2 - by) by, at_tap at.feed2 v u by h.0)) (omega arith)

    -- to an outer end
    out_falls : (k : ℕ) → k + 1 ≡ m → dot (taken ex v by) hs < dot ex hs
    out_falls k e = omega (arith, taken_dot ex hs v by lv lh le, times_more by (high hs v) k (level ∙ sym e))

    pub sent_falls : (way : Way) → Open ls at most amount fs hs v m n way → dot (moved ex v by (reached ls v way)) hs < dot ex hs
    sent_falls (Over l) h = over_falls v l by (part l h.0) le (level ∙ sym h.1) some
    sent_falls Drain1 h = out_falls 0 h.1
    sent_falls Drain2 h = out_falls 0 h.1
    sent_falls Feed1 h = out_falls 66 h.1
    sent_falls Feed2 h = out_falls 66 h.1

    pub sendable : (way : Way) → Open ls at most amount fs hs v m n way → Sendable ls fs amount ex v by way
    sendable (Over l) h =
        let listed = h.0.listed in
        let ends = step_ends ls s.fits.sound v l listed h.0.touching in
        let w : ℕ = across (mesh_of ls) v l in
        let long : length (taken ex v by) ≡ length ex = length-set ex v (get_or ex v 0 - by) in
        let small : (get_or ls l blank).limit ≤ most_limit = (s.fits.sound l blank listed).3 in
        let was : nat_abs (get_or fs l (pos 0)) ≤ (get_or ls l blank).limit = s.within l blank listed in
        let then : nat_abs (get_or fs l (pos 0) +ℤ toward (ahead ls v l) (pos by)) ≤ (get_or ls l blank).limit = raise_fits (ahead ls v l) (get_or ls l blank).limit by (get_or fs l (pos 0)) was (leb-true by (free ls fs v l) (part l h.0).clear) in
        (listed, omega arith, omega arith, ends.1, omega (arith, get_or-le-sum_by (λ x. x) (taken ex v by) (across (mesh_of ls) v l) 0 (omega (arith, ends.1, s.wide, long)), taken_sum ex v by lv le, sum_small ls at most amount fs ex hs s))
    sendable Drain1 h = omega (arith, h.3, s.fits.limited.2)
    sendable Drain2 h = omega (arith, h.3, s.fits.limited.3)
    sendable Feed1 h = omega (arith, h.3)
    sendable Feed2 h = omega (arith, h.3)

    pub sent_far : (way : Way) → Open ls at most amount fs hs v m n way → Far v (reached ls v way)
    sent_far (Over l) h = let ends = step_ends ls s.fits.sound v l h.0.listed h.0.touching in (ends.1, ends.2)
    sent_far Drain1 h = tt
    sent_far Drain2 h = tt
    sent_far Feed1 h = tt
    sent_far Feed2 h = tt

    pub sent_beyond : (way : Way) → Open ls at most amount fs hs v m n way → drop (length ls) (sent_flow ls fs v by way) ≡ drop (length ls) fs
    sent_beyond (Over l) h = (one_link ls fs ex hs at most amount s v l by (part l h.0)).beyond
    sent_beyond Drain1 h = refl
    sent_beyond Drain2 h = refl
    sent_beyond Feed1 h = refl
    sent_beyond Feed2 h = refl
