-- What a push along a way does to the flow, the amounts and the excess.
use Rattle.std.specs.Prelude.{ℕ, ◌+◌, ◌-◌, ◌^◌, ◌<◌, ◌≤◌, List, length, ℤ, pos, ◌+ℤ◌, Some, None, Option, slice_index, slice_index_or, slice_set, unsigned_abs}
use Rattle.flow.specs.declared.taps.Taps.{Taps}
use Rattle.flow.specs.Ranges.{cabinets, most_limit}
use Rattle.search.specs.Graphs.{across}
use Rattle.engine.specs.declared.arc.Arc.{Arc}
use Rattle.residual.specs.Meshes.{mesh_of, ahead, toward}
use Rattle.preflow.specs.declared.way.Way.{Way}
use Rattle.preflow.specs.declared.way.Way.TheVariants.{Over, Drain1, Drain2, Feed1, Feed2}

-- the flow with `by` more from v over the link l
abbrev pub carried : List Arc → List ℤ → (v l by : ℕ) → List ℤ
carried ls fs v l by = slice_set fs l (slice_index_or fs l (pos 0) +ℤ toward (ahead ls v l) (pos by))

-- the flow with `by` more along a way out of v: only a way over a link changes it
abbrev pub sent_flow : List Arc → List ℤ → (v by : ℕ) → Way → List ℤ
sent_flow ls fs v by (Over l) = carried ls fs v l by
sent_flow ls fs v by Drain1 = fs
sent_flow ls fs v by Drain2 = fs
sent_flow ls fs v by Feed1 = fs
sent_flow ls fs v by Feed2 = fs

-- the amounts with `by` more along a way: a drain takes more, a feed takes back
abbrev pub sent_amounts : Taps ℕ → ℕ → Way → Taps ℕ
sent_amounts a by (Over l) = a
sent_amounts a by Drain1 = record { feed1 = a.feed1; feed2 = a.feed2; drain1 = a.drain1 + by; drain2 = a.drain2 }
sent_amounts a by Drain2 = record { feed1 = a.feed1; feed2 = a.feed2; drain1 = a.drain1; drain2 = a.drain2 + by }
sent_amounts a by Feed1 = record { feed1 = a.feed1 - by; feed2 = a.feed2; drain1 = a.drain1; drain2 = a.drain2 }
sent_amounts a by Feed2 = record { feed1 = a.feed1; feed2 = a.feed2 - by; drain1 = a.drain1; drain2 = a.drain2 }

-- the cabinet that a way out of v leads to, if it is not an outer end
abbrev pub reached : List Arc → ℕ → Way → Option ℕ
reached ls v (Over l) = Some (across (mesh_of ls) v l)
reached ls v Drain1 = None
reached ls v Drain2 = None
reached ls v Feed1 = None
reached ls v Feed2 = None

-- the excess with `by` less at v
abbrev pub taken : List ℕ → (v by : ℕ) → List ℕ
taken ex v by = slice_set ex v (slice_index ex v - by)

-- the excess with `by` more at w
abbrev pub given : List ℕ → (w by : ℕ) → List ℕ
given ex w by = slice_set ex w (slice_index ex w + by)

-- what is sent leaves v, and comes to the cabinet that is reached
abbrev pub moved : List ℕ → (v by : ℕ) → Option ℕ → List ℕ
moved ex v by (Some w) = given (taken ex v by) w by
moved ex v by None = taken ex v by

-- `by` can be sent along the way: all sums stay in range
abbrev pub Sendable : List Arc → List ℤ → Taps ℕ → List ℕ → (v by : ℕ) → Way → Type 0
Sendable ls fs a ex v by (Over l) = (l < length ls) × (unsigned_abs (slice_index_or fs l (pos 0)) ≤ most_limit) × (unsigned_abs (slice_index_or fs l (pos 0) +ℤ toward (ahead ls v l) (pos by)) ≤ most_limit) × (across (mesh_of ls) v l < cabinets) × (slice_index (taken ex v by) (across (mesh_of ls) v l) + by < 2 ^ 32)
Sendable ls fs a ex v by Drain1 = a.drain1 + by < 2 ^ 32
Sendable ls fs a ex v by Drain2 = a.drain2 + by < 2 ^ 32
Sendable ls fs a ex v by Feed1 = by ≤ a.feed1
Sendable ls fs a ex v by Feed2 = by ≤ a.feed2
