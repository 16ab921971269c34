-- Plans for two streams over links of any type, with their sides.
use Rattle.std.specs.Prelude.{◌≡◌, ℕ, ◌+◌, ◌*◌, ◌<◌, ◌≤◌, Bool, true, false, List, length, ℤ, pos, ◌+ℤ◌, ◌*ℤ◌, ◌≤ℤ◌, ◌≢◌, slice_index_or, unsigned_abs}
use Rattle.flow.specs.declared.pairs.Pairs.{Pairs}
use Rattle.flow.specs.Nets.{xor, net, side_slots}

-- every source and goal is a cabinet below n, and each source differs from its goal
pub record Proper (n : ℕ) (p : Pairs) : Type 0 where
  pub source1_in : p.source1 < n
  pub goal1_in : p.goal1 < n
  pub source2_in : p.source2 < n
  pub goal2_in : p.goal2 < n
  pub apart1 : p.source1 ≡ p.goal1 → ⊥
  pub apart2 : p.source2 ≡ p.goal2 → ⊥

-- a first side holds source 1 and not goal 1
pub record FirstSide (p : Pairs) (S : ℕ → Bool) : Type 0 where
  pub holds : S p.source1 ≡ true
  pub lacks : S p.goal1 ≡ false

-- a sum side holds source 1, not goal 1, and exactly one of source 2 and goal 2
pub record SumSide (p : Pairs) (S : ℕ → Bool) : Type 0 where
  pub holds : S p.source1 ≡ true
  pub lacks : S p.goal1 ≡ false
  pub parts : xor (S p.source2) (S p.goal2) ≡ true

-- on every link the two shares without sign add up to at most its slots
abbrev pub Shared : {X : Type 0} → (X → ℕ) → List X → List ℤ → List ℤ → Type 0
Shared {X} capacity ls fs gs = (k : ℕ) (d : X) → k < length ls → unsigned_abs (slice_index_or fs k (pos 0)) + unsigned_abs (slice_index_or gs k (pos 0)) ≤ capacity (slice_index_or ls k d)

-- a stream is absent if all its shares are 0
abbrev pub Absent : {X : Type 0} → List X → List ℤ → Type 0
Absent ls fs = (k : ℕ) → k < length ls → slice_index_or fs k (pos 0) ≡ pos 0

module _ {X : Type 0} (low high : X → ℕ) where
  -- as much enters each cabinet as leaves it, except at s and t
  abbrev pub Conserved : ℕ → ℕ → ℕ → List X → List ℤ → Type 0
  Conserved n s t ls fs = (v : ℕ) → v < n → (v ≢ s) → (v ≢ t) → net low high ls fs v ≡ pos 0

  -- stream 1's total is what leaves its source minus what enters it
  abbrev pub total_one : Pairs → List X → List ℤ → ℤ
  total_one p ls fs = net low high ls fs p.source1

  -- stream 2's total
  abbrev pub total_two : Pairs → List X → List ℤ → ℤ
  total_two p ls gs = net low high ls gs p.source2

  -- the sum is both totals added
  abbrev pub sum_of : Pairs → List X → List ℤ → List ℤ → ℤ
  sum_of p ls fs gs = total_one p ls fs +ℤ total_two p ls gs

-- a feasible plan: the shares fit every link, and each stream is conserved but at its source and goal
pub record Feasible {X : Type 0} (low high capacity : X → ℕ) (n : ℕ) (p : Pairs) (ls : List X) (fs gs : List ℤ) : Type 0 where
  pub shared : Shared capacity ls fs gs
  pub conserved1 : Conserved low high n p.source1 p.goal1 ls fs
  pub conserved2 : Conserved low high n p.source2 p.goal2 ls gs

-- a plan in fractions: whole shares that are feasible after all slots are multiplied by q, which is 1 or more; they count as one q-th
pub record Fractional {X : Type 0} (low high capacity : X → ℕ) (n q : ℕ) (p : Pairs) (ls : List X) (fs gs : List ℤ) : Type 0 where
  pub some : 1 ≤ q
  pub feasible : Feasible low high (λ l. q * capacity l) n p ls fs gs

-- a plan held with a sum side, which is its cut, and a first side
pub record Held {X : Type 0} (low high capacity : X → ℕ) (n : ℕ) (p : Pairs) (ls : List X) (fs gs : List ℤ) (cut first : ℕ → Bool) : Type 0 where
  pub feasible : Feasible low high capacity n p ls fs gs
  pub sum_side : SumSide p cut
  pub first_side : FirstSide p first
  pub sum_is : sum_of low high p ls fs gs ≡ pos (side_slots low high capacity cut ls)
  pub first_is : total_one low high p ls fs ≡ pos (side_slots low high capacity first ls)

-- no plan for the same mesh and pairs, whole or in fractions, does better
pub record Best {X : Type 0} (low high capacity : X → ℕ) (n : ℕ) (p : Pairs) (ls : List X) (fs gs : List ℤ) : Type 0 where
  -- none has a greater sum
  pub most : (hs ks : List ℤ) → Feasible low high capacity n p ls hs ks → sum_of low high p ls hs ks ≤ℤ sum_of low high p ls fs gs
  pub most_in_fractions : (q : ℕ) (hs ks : List ℤ) → Fractional low high capacity n q p ls hs ks → sum_of low high p ls hs ks ≤ℤ (pos q *ℤ sum_of low high p ls fs gs)
  -- none has a greater total 1
  pub most_one : (hs ks : List ℤ) → Feasible low high capacity n p ls hs ks → total_one low high p ls hs ≤ℤ total_one low high p ls fs
  pub most_one_in_fractions : (q : ℕ) (hs ks : List ℤ) → Fractional low high capacity n q p ls hs ks → total_one low high p ls hs ≤ℤ (pos q *ℤ total_one low high p ls fs)
  -- with stream two taken away the plan stays feasible, with the same total 1, and no plan of stream one alone has more
  pub alone : (none : List ℤ) → Absent ls none → Feasible low high capacity n p ls fs none
  pub most_alone : (q : ℕ) (hs none : List ℤ) → Absent ls none → Fractional low high capacity n q p ls hs none → total_one low high p ls hs ≤ℤ (pos q *ℤ total_one low high p ls fs)
