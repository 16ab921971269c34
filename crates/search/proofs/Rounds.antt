-- One cabinet is taken from the queue, and has been left by each open step.
use Rattle.std.proofs.Common.{◌≡◌, ℕ, true, Option, List, [], ◌∷◌, sym, subst, inl, inr, arith}
use Rattle.std.proofs.lemmas.Bool.{both_ways}
use Rattle.search.specs.Graphs.{Graph, incident}
use Rattle.search.specs.Spreads.{reached, Waits, Taken, Closed, Leaving, Resting, Ended}
use Rattle.search.specs.declared.marks.Mark.{Mark}
use Rattle.search.specs.declared.marks.Arrival.{Arrival}
use Rattle.search.proofs.Meshes.{incident_complete}

module _ (g : Graph) (start : ℕ) (ms : List (Option Mark)) where
  picked : (a : Arrival) (rs : List Arrival) → Resting g start ms (a ∷ rs) → Leaving g start ms rs a.cabinet []
  picked a rs r =
      let q = r.spread.waiting in
      record {
        inside = q.0.0;
        known = q.0.1;
        spread = record { tree = r.spread.tree; waiting = q.1; places = omega (arith, r.spread.places) };
        settled = λ c lt h. elim (r.settled c lt h) [
          | inl t ↦ elim t [ inl e ↦ inr (sym e) | inr t ↦ inl (inl t) ]
          | inr d ↦ inl (inr d)
        ];
        taken = tt;
      }

  pub rested : (qs : List Arrival) (at : ℕ) → Leaving g start ms qs at (incident g.mesh at) → Resting g start ms qs
  rested qs at s = record {
    spread = s.spread;
    settled = λ c lt h. elim (s.settled c lt h) [
      | inl d ↦ d
      | inr e ↦ inr (subst (Closed g ms) (sym e) (λ l st. incident_complete g.mesh at (Taken g ms at) s.taken l st.listed st.touching st))
    ];
  }

  -- the goal was reached
  pub ended_reached : (goal : ℕ) (qs : List Arrival) → Resting g start ms qs → reached ms goal ≡ true → Ended g start goal ms
  ended_reached goal qs r h = record { tree = r.spread.tree; closed = λ n. absurd (both_ways (reached ms goal) n h) }

  -- none waits
  pub ended_empty : (goal : ℕ) (qs : List Arrival) → Resting g start ms qs → qs ≡ [] → Ended g start goal ms
  ended_empty goal qs r e = record {
    tree = r.spread.tree;
    closed = λ _ c lt h. elim (r.settled c lt h) [
      | inl t ↦ absurd (subst (λ (q : List Arrival). Waits q c) e t)
      | inr d ↦ d
    ];
  }
