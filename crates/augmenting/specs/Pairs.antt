-- One of the feeds and one of the drains.
use Rattle.std.specs.Prelude.{ℕ, ◌+◌}
use Rattle.flow.specs.declared.taps.Taps.{Taps}
use Rattle.augmenting.specs.declared.pairs.Which.{Which}
use Rattle.augmenting.specs.declared.pairs.Which.TheVariants.{First, Second}

-- what a job has for one of its feeds
abbrev pub feed_of : {T : Type 0} → Taps T → Which → T
feed_of t First = t.feed1
feed_of t Second = t.feed2

-- what it has for one of its drains
abbrev pub drain_of : {T : Type 0} → Taps T → Which → T
drain_of t First = t.drain1
drain_of t Second = t.drain2

-- the amounts with x more from the feed i to the drain j
abbrev pub sent : Taps ℕ → Which → Which → ℕ → Taps ℕ
sent r First First x = record { feed1 = r.feed1 + x; feed2 = r.feed2; drain1 = r.drain1 + x; drain2 = r.drain2 }
sent r First Second x = record { feed1 = r.feed1 + x; feed2 = r.feed2; drain1 = r.drain1; drain2 = r.drain2 + x }
sent r Second First x = record { feed1 = r.feed1; feed2 = r.feed2 + x; drain1 = r.drain1 + x; drain2 = r.drain2 }
sent r Second Second x = record { feed1 = r.feed1; feed2 = r.feed2 + x; drain1 = r.drain1; drain2 = r.drain2 + x }
