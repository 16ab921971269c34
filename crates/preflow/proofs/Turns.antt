-- One turn: what it needs and what it keeps.
use Rattle.std.proofs.Common.{◌≡◌, ℕ, ◌<◌, ◌≤◌, min, List, [], ◌∷◌, ◌++◌, length, get_or, drop, ℤ, IsSome, Some, None, Option, sym, refl, ap, subst, arith}
use Rattle.std.proofs.lemmas.Bool.{leb-true, le-leb}
use Rattle.flow.specs.declared.taps.Taps.{Taps}
use Rattle.flow.specs.Ranges.{cabinets}
use Rattle.engine.specs.declared.arc.Arc.{Arc}
use Rattle.residual.specs.Meshes.{free}
use Rattle.preflow.specs.declared.way.Best.{Best}
use Rattle.preflow.specs.declared.way.Way.{Way}
use Rattle.preflow.specs.declared.way.Way.TheVariants.{Over, Drain1, Drain2, Feed1, Feed2}
use Rattle.preflow.specs.Heights.{high, Relabeled}
use Rattle.preflow.specs.Ways.{Open, UpTo}
use Rattle.preflow.specs.Sends.{sent_flow, sent_amounts, reached, moved, Sendable}
use Rattle.preflow.specs.Waits.{Queued, settled}
use Rattle.preflow.specs.States.{Labeled, measure}
use Rattle.search.specs.Queues.{items}
use Rattle.residual.specs.Networks.{links_in}
use Rattle.preflow.specs.declared.run.Run.{Run}
use Rattle.preflow.specs.Runs.{IsFirst, LeastAt, AdmissibleAt}
use Rattle.preflow.proofs.Queues.{Far, front_some, queued_short, queued_turn, queued_settled}
use Rattle.preflow.proofs.Lifts.{lifted_most, relabeled}
use Rattle.preflow.proofs.Pushes.{sent_labeled, sent_falls, sendable, sent_far, sent_beyond}

-- the state of the program by equations of its parts
pub become : (ls : List Arc) (at most a a' : Taps ℕ) (fs fs' : List ℤ) (ex ex' hs hs' : List ℕ) → a' ≡ a → fs' ≡ fs → ex' ≡ ex → hs' ≡ hs → Labeled ls at most a fs ex hs → Labeled ls at most a' fs' ex' hs'
become ls at most a a' fs fs' ex ex' hs hs' p q r t s =
    subst (λ (x : Taps ℕ). Labeled ls at most x fs' ex' hs') (sym p)
    (subst (λ (x : List ℤ). Labeled ls at most a x ex' hs') (sym q)
    (subst (λ (x : List ℕ). Labeled ls at most a fs x hs') (sym r)
    (subst (λ (x : List ℕ). Labeled ls at most a fs ex x) (sym t) s)))

module _ (ls : List Arc) (at most amount : Taps ℕ) (fs : List ℤ) (hs : List ℕ) (v m n : ℕ) where
  pub open_room : (way : Way) → Open ls at most amount fs hs v m n way → 0 < n
  open_room (Over l) h = h.2
  open_room Drain1 h = h.2
  open_room Drain2 h = h.2
  open_room Feed1 h = h.2
  open_room Feed2 h = h.2

  -- an open way goes down by one at most
  open_down : (ex : List ℕ) → Labeled ls at most amount fs ex hs → (way : Way) → Open ls at most amount fs hs v m n way → high hs v ≤ m
  open_down ex s (Over l) h =
      omega (arith, h.1, s.valid.over v l (record { listed = h.0.listed; touching = h.0.touching; clear = le-leb 1 (free ls fs v l) (omega (arith, h.2, leb-true n (free ls fs v l) h.0.clear)) }))
  open_down ex s Drain1 h = omega (arith, ap (high hs) h.0, h.1, s.valid.drain1 (omega (arith, h.2, h.3)))
  open_down ex s Drain2 h = omega (arith, ap (high hs) h.0, h.1, s.valid.drain2 (omega (arith, h.2, h.3)))
  open_down ex s Feed1 h = omega (arith, ap (high hs) h.0, h.1, s.valid.feed1.0 (omega (arith, h.2, h.3)))
  open_down ex s Feed2 h = omega (arith, ap (high hs) h.0, h.1, s.valid.feed2.0 (omega (arith, h.2, h.3)))

-- what stands first in the line of a run
module _ (r : Run) (v : ℕ) (front : IsFirst r v) where
  abbrev ls : List Arc
  ls = links_in r.network.now

  abbrev at : Taps ℕ
  at = r.network.now.job.now.at

  abbrev most : Taps ℕ
  most = r.network.now.job.now.most

  abbrev amount : Taps ℕ
  amount = r.state.amounts

  abbrev fs : List ℤ
  fs = r.flow.now

  abbrev ex : List ℕ
  ex = r.state.excess

  abbrev hs : List ℕ
  hs = r.state.heights

  abbrev qs : List ℕ
  qs = items r.queue.now

  abbrev s : Labeled (links_in r.network.now) r.network.now.job.now.at r.network.now.job.now.most r.state.amounts r.flow.now r.state.excess r.state.heights
  s = r.active.standing

  abbrev queued : Queued r.state.excess (items r.queue.now)
  queued = r.active.queued

  pub at_front : (0 < get_or ex v 0) × (v < cabinets)
  at_front = front_some ex qs s.wide queued v (drop 1 qs) front

  pub line_short : length qs ≤ cabinets
  line_short = queued_short ex qs s.wide queued

  -- v has a way out
  pub some_way : (best : Option Best) → ((m : ℕ) → UpTo best m → LeastAt r v m) → IsSome best
  some_way None least = absurd (omega (arith, lifted_most ls at most amount fs ex hs s v 131 at_front.1 at_front.0 (s.low v at_front.1) (least 131 tt)))
  some_way (Some b) least = refl

  pub waits_on : Queued ex (drop 1 qs ++ v ∷ [])
  waits_on = queued_turn ex qs s.wide queued v (drop 1 qs) front

  pub lifted : (m : ℕ) → high hs v < m → LeastAt r v m → (after : List ℕ) → length after ≡ cabinets → Relabeled hs v m after → Labeled ls at most amount fs ex after × (measure ex after < measure ex hs)
  lifted m up least = relabeled ls at most amount fs ex hs s v m at_front.1 at_front.0 up least

  module _ (b : Best) (adm : AdmissibleAt r v b) (by : ℕ) (is : by ≡ min b.room (get_or ex v 0)) where
    some : 0 < by
    some = omega (arith, open_room ls at most amount fs hs v b.height b.room b.way adm.1, at_front.0)

    fits : by ≤ b.room
    fits = omega arith

    pub enough : by ≤ get_or ex v 0
    enough = omega arith

    pub push_can : Sendable ls fs amount ex v by b.way
    push_can = sendable ls at most amount fs ex hs s v b.height b.room by at_front.1 adm.0 some fits enough b.way adm.1

    pub push_far : Far v (reached ls v b.way)
    push_far = sent_far ls at most amount fs ex hs s v b.height b.room by at_front.1 adm.0 some fits enough b.way adm.1

    pub push_beyond : drop (length ls) (sent_flow ls fs v by b.way) ≡ drop (length ls) fs
    push_beyond = sent_beyond ls at most amount fs ex hs s v b.height b.room by at_front.1 adm.0 some fits enough b.way adm.1

    pub push_falls : measure (moved ex v by (reached ls v b.way)) hs < measure ex hs
    push_falls = omega (arith, sent_falls ls at most amount fs ex hs s v b.height b.room by at_front.1 adm.0 some fits enough b.way adm.1)

    pub push_labeled : Labeled ls at most (sent_amounts amount by b.way) (sent_flow ls fs v by b.way) (moved ex v by (reached ls v b.way)) hs
    push_labeled = sent_labeled ls at most amount fs ex hs s v b.height b.room by at_front.1 adm.0 some fits enough b.way adm.1

    pub push_queued : Queued (moved ex v by (reached ls v b.way)) (settled (moved ex v by (reached ls v b.way)) v by (reached ls v b.way) qs)
    push_queued = queued_settled ex qs v by (reached ls v b.way) front at_front.0 queued s.wide at_front.1 some push_far
