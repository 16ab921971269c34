-- Open ways out of a cabinet.
use Rattle.std.specs.Prelude.{◌≡◌, ℕ, ◌+◌, ◌-◌, ◌<◌, ◌≤◌, Bool, true, if◌then◌else◌, List, ℤ, IfSome, Some, None, Option, nat_eq, nat_lt}
use Rattle.flow.specs.declared.taps.Taps.{Taps}
use Rattle.search.specs.Graphs.{Step, across}
use Rattle.engine.specs.declared.arc.Arc.{Arc}
use Rattle.residual.specs.Meshes.{mesh_of, residual}
use Rattle.preflow.specs.declared.way.Best.{Best}
use Rattle.preflow.specs.declared.way.Way.{Way}
use Rattle.preflow.specs.declared.way.Way.TheVariants.{Over, Drain1, Drain2, Feed1, Feed2}
use Rattle.preflow.specs.Heights.{high}

-- the step from v over the link l, if it is open, leads to m - 1 at least
abbrev pub Bounds : List Arc → List ℤ → List ℕ → (v m l : ℕ) → Type 0
Bounds ls fs hs v m l = Step (residual ls fs 1) v l → m ≤ high hs (across (mesh_of ls) v l) + 1

-- no open way out of v leads to below m - 1
pub record Least (ls : List Arc) (at most amount : Taps ℕ) (fs : List ℤ) (hs : List ℕ) (v m : ℕ) : Type 0 where
  pub over : (l : ℕ) → Bounds ls fs hs v m l
  pub drain1 : at.drain1 ≡ v → amount.drain1 < most.drain1 → m ≤ 1
  pub drain2 : at.drain2 ≡ v → amount.drain2 < most.drain2 → m ≤ 1
  pub feed1 : at.feed1 ≡ v → 0 < amount.feed1 → m ≤ 67
  pub feed2 : at.feed2 ≡ v → 0 < amount.feed2 → m ≤ 67

-- the way is open out of v, goes down by one from the height m, and n more can go there
abbrev pub Open : List Arc → (at most amount : Taps ℕ) → List ℤ → List ℕ → (v m n : ℕ) → Way → Type 0
Open ls at most amount fs hs v m n (Over l) = Step (residual ls fs n) v l × (high hs (across (mesh_of ls) v l) + 1 ≡ m) × (0 < n)
Open ls at most amount fs hs v m n Drain1 = (at.drain1 ≡ v) × (1 ≡ m) × (0 < n) × (amount.drain1 + n ≤ most.drain1)
Open ls at most amount fs hs v m n Drain2 = (at.drain2 ≡ v) × (1 ≡ m) × (0 < n) × (amount.drain2 + n ≤ most.drain2)
Open ls at most amount fs hs v m n Feed1 = (at.feed1 ≡ v) × (67 ≡ m) × (0 < n) × (n ≤ amount.feed1)
Open ls at most amount fs hs v m n Feed2 = (at.feed2 ≡ v) × (67 ≡ m) × (0 < n) × (n ≤ amount.feed2)

-- the way, if there is one, is open out of v
abbrev pub Leads : List Arc → (at most amount : Taps ℕ) → List ℤ → List ℕ → ℕ → Option Best → Type 0
Leads ls at most amount fs hs v best = IfSome best (λ b. Open ls at most amount fs hs v b.height b.room b.way)

-- the way, if there is one, goes down from the height m at least
abbrev pub UpTo : Option Best → ℕ → Type 0
UpTo best m = IfSome best (λ b. m ≤ b.height)

-- the height m is below that of `best`, or there is no way yet
abbrev pub is_lower : ℕ → Option Best → Bool
is_lower m None = true
is_lower m (Some best) = nat_lt m best.height

-- the better of `best` and a way from the height m over which n more can go
abbrev pub lowered : Option Best → (m n : ℕ) → Way → Option Best
lowered best m n way = (if nat_lt 0 n then (if is_lower m best then Some (record { height = m; room = n; way = way }) else best) else best)

-- what can go along a way that starts at c, seen from v
abbrev pub here : (c v n : ℕ) → ℕ
here c v n = (if nat_eq c v then n else 0)

-- the better of the ways out of v into the drains
abbrev pub drain_way : (at most amount : Taps ℕ) → ℕ → Option Best
drain_way at most amount v = lowered (lowered None 1 (here at.drain1 v (most.drain1 - amount.drain1)) Drain1) 1 (here at.drain2 v (most.drain2 - amount.drain2)) Drain2

-- the better of `best` and the ways out of v back into the feeds
abbrev pub feed_way : (at amount : Taps ℕ) → ℕ → Option Best → Option Best
feed_way at amount v best = lowered (lowered best 67 (here at.feed1 v amount.feed1) Feed1) 67 (here at.feed2 v amount.feed2) Feed2

-- the way is admissible: it goes down by one from where v stands
abbrev pub Admissible : List Arc → (at most amount : Taps ℕ) → List ℤ → List ℕ → ℕ → Best → Type 0
Admissible ls at most amount fs hs v best = (high hs v ≡ best.height) × Open ls at most amount fs hs v best.height best.room best.way
