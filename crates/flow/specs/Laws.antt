-- The theorems, over links of any type X with two ends and a number of slots.
use Rattle.std.specs.Prelude.{◌≡◌, ℕ, ◌+◌, ◌-◌, ◌*◌, ◌<◌, ◌≤◌, max, Bool, true, not, ◌&&◌, ◌||◌, ◌⊎◌, List, [], ◌∷◌, ◌++◌, length, ℤ, pos, ◌+ℤ◌, ◌≤ℤ◌, Decides, slice_index_or, slice_set, unsigned_abs}
use Rattle.std.specs.List.{remove}
use Rattle.std.specs.List.Sorted.{IsPermutation}
use Rattle.flow.specs.declared.pairs.Pairs.{Pairs}
use Rattle.flow.specs.declared.taps.Taps.{Taps}
use Rattle.flow.specs.Ranges.{cabinets, most_fed}
use Rattle.flow.specs.Nets.{only, xor, sum_below, total, leaving, net, crosses, side_slots, Inside}
use Rattle.flow.specs.Plans.{Proper, FirstSide, SumSide, total_one, total_two, sum_of, Feasible, Fractional, Held, Best}
use Rattle.flow.specs.Answers.{Within, Answer, Solves, fed}
use Rattle.flow.specs.Drawings.{Doubled, Halved, turned, Carries, SameSide, Drawn}
use Rattle.flow.specs.Nearness.{Near}
use Rattle.flow.specs.Trimming.{trimmed, dealt}
use Rattle.flow.specs.Tests.{is_first_side, is_sum_side, is_feasible, is_held}

module _ {X : Type 0} (low high capacity : X → ℕ) where
  -- the nets of a side's cabinets add up to what leaves the side
  abbrev pub DoubleCounting : Type 0
  DoubleCounting = (S : ℕ → Bool) (ls : List X) (fs : List ℤ) → Inside low high cabinets ls → sum_below (λ v. only (S v) (net low high ls fs v)) cabinets ≡ leaving low high S ls fs

  -- k times its slots bound total 1 at every first side, and the sum at every sum side
  abbrev pub Bounded : ℕ → Pairs → List X → List ℤ → List ℤ → Type 0
  Bounded k p ls fs gs = ((S : ℕ → Bool) → FirstSide p S → total_one low high p ls fs ≤ℤ pos (k * side_slots low high capacity S ls)) × ((S : ℕ → Bool) → SumSide p S → sum_of low high p ls fs gs ≤ℤ pos (k * side_slots low high capacity S ls))

  -- so it is for every feasible plan, and in fractions with q for 1
  abbrev pub WeakDuality : Type 0
  WeakDuality = (p : Pairs) (ls : List X) (fs gs : List ℤ) → Inside low high cabinets ls → Proper cabinets p → (Feasible low high capacity cabinets p ls fs gs → Bounded 1 p ls fs gs) × ((q : ℕ) → Fractional low high capacity cabinets q p ls fs gs → Bounded q p ls fs gs)

  -- a plan whose sum is a sum side's slots and whose total 1 is a first side's is best
  abbrev pub HeldIsBest : Type 0
  HeldIsBest = (p : Pairs) (ls : List X) (fs gs : List ℤ) (cut first : ℕ → Bool) → Inside low high cabinets ls → Proper cabinets p → Held low high capacity cabinets p ls fs gs cut first → Best low high capacity cabinets p ls fs gs

  -- a plan is held with every two sides that have the same cabinets
  abbrev pub HeldByCabinets : Type 0
  HeldByCabinets = (p : Pairs) (ls : List X) (fs gs : List ℤ) (cut first cut' first' : ℕ → Bool) → Inside low high cabinets ls → Proper cabinets p → SameSide cut cut' → SameSide first first' → Held low high capacity cabinets p ls fs gs cut first → Held low high capacity cabinets p ls fs gs cut' first'

  -- two flows within half the slots, the second with stream 2 turned, make shares with twice their totals; on each link the shares without sign add up to twice the greater flow, so that nothing is set off
  abbrev pub Halving : Type 0
  Halving = (limit : X → ℕ) (p : Pairs) (A B : ℕ) (ls : List X) (y z fs gs : List ℤ) → Proper cabinets p → Doubled limit capacity ls → Within limit ls y → Within limit ls z → Carries low high cabinets p A B ls y → Carries low high cabinets (turned p) A B ls z → Halved (length ls) y z fs gs → Feasible low high capacity cabinets p ls fs gs × (total_one low high p ls fs ≡ pos (2 * A)) × (total_two low high p ls gs ≡ pos (2 * B)) × ((k : ℕ) → k < length ls → unsigned_abs (slice_index_or fs k (pos 0)) + unsigned_abs (slice_index_or gs k (pos 0)) ≡ 2 * max (unsigned_abs (slice_index_or y k (pos 0))) (unsigned_abs (slice_index_or z k (pos 0))))

  -- a link that crosses the exclusive-or of two sides crosses one of them, so its slots are at most theirs added
  abbrev pub EitherSide : Type 0
  EitherSide = (S R : ℕ → Bool) → ((l : X) → crosses low high (λ v. xor (S v) (R v)) l ≡ true → (crosses low high S l ≡ true) ⊎ (crosses low high R l ≡ true)) × ((ls : List X) → side_slots low high capacity (λ v. xor (S v) (R v)) ls ≤ side_slots low high capacity S ls + side_slots low high capacity R ls)

  -- union and intersection have no more slots than the two sides, and neither have the two differences
  abbrev pub Submodular : Type 0
  Submodular = (S R : ℕ → Bool) (ls : List X) → (side_slots low high capacity (λ v. S v || R v) ls + side_slots low high capacity (λ v. S v && R v) ls ≤ side_slots low high capacity S ls + side_slots low high capacity R ls) × (side_slots low high capacity (λ v. S v && not (R v)) ls + side_slots low high capacity (λ v. R v && not (S v)) ls ≤ side_slots low high capacity S ls + side_slots low high capacity R ls)

  -- no flow within the limits carries more of stream 1 than A; and no two carry more of stream 2 than B beside it, one each way
  abbrev pub Greatest : (X → ℕ) → Pairs → List X → ℕ → ℕ → Type 0
  Greatest limit p ls A B = ((x : ℕ) (y : List ℤ) → Within limit ls y → Carries low high cabinets p x 0 ls y → x ≤ A) × ((x : ℕ) (y z : List ℤ) → Within limit ls y → Within limit ls z → Carries low high cabinets p A x ls y → Carries low high cabinets (turned p) A x ls z → x ≤ B)

  -- a drawn plan is held with its two sides, whatever the engines answered and however ends coincide, and its halves are the greatest
  abbrev pub Drawing : Type 0
  Drawing = (limit : X → ℕ) (p : Pairs) (ls : List X) (fs gs : List ℤ) (cut first : ℕ → Bool) → Inside low high cabinets ls → Proper cabinets p → Doubled limit capacity ls → total limit ls < most_fed → (d : Drawn low high limit p ls fs gs cut first) → Held low high capacity cabinets p ls fs gs cut first × (total_one low high p ls fs ≡ pos (2 * fed d.one)) × (total_two low high p ls gs ≡ pos (2 * d.second)) × Greatest limit p ls (fed d.one) d.second

  -- what one change of the links does to the slots of a side
  pub record Changes (S : ℕ → Bool) : Type 0 where
    pub added : (ls : List X) (l : X) → Near (side_slots low high capacity S ls) (side_slots low high capacity S (ls ++ l ∷ [])) (capacity l) 0
    pub resized : (ls : List X) (k : ℕ) (l d : X) → low l ≡ low (slice_index_or ls k d) → high l ≡ high (slice_index_or ls k d) → Near (side_slots low high capacity S ls) (side_slots low high capacity S (slice_set ls k l)) (capacity l - capacity (slice_index_or ls k d)) (capacity (slice_index_or ls k d) - capacity l)
    pub dropped : (ls : List X) (k : ℕ) (d : X) → k < length ls → Near (side_slots low high capacity S ls) (side_slots low high capacity S (remove ls k)) 0 (capacity (slice_index_or ls k d))
    pub renumbered : (ls ms : List X) → IsPermutation ls ms → Near (side_slots low high capacity S ls) (side_slots low high capacity S ms) 0 0

  -- each change moves the slots of every side by at most what it adds and takes, and what changes in turn add and take adds up
  abbrev pub SlotsChange : Type 0
  SlotsChange = ((S : ℕ → Bool) → Changes S) × ((x : ℕ) → Near x x 0 0) × ((x y z a k b l : ℕ) → Near x y a k → Near y z b l → Near x z (a + b) (k + l))

  -- so do the sums and the totals 1 of plans that are held for the same pairs, where the slots of every side do
  abbrev pub SumsNear : Type 0
  SumsNear = (p : Pairs) (ls ms : List X) (fs gs hs ks : List ℤ) (cut first cut' first' : ℕ → Bool) (added taken : ℕ) → Inside low high cabinets ls → Inside low high cabinets ms → Proper cabinets p → ((S : ℕ → Bool) → Near (side_slots low high capacity S ls) (side_slots low high capacity S ms) added taken) → Held low high capacity cabinets p ls fs gs cut first → Held low high capacity cabinets p ms hs ks cut' first' → (sum_of low high p ms hs ks ≤ℤ (sum_of low high p ls fs gs +ℤ pos added)) × (sum_of low high p ls fs gs ≤ℤ (sum_of low high p ms hs ks +ℤ pos taken)) × (total_one low high p ms hs ≤ℤ (total_one low high p ls fs +ℤ pos added)) × (total_one low high p ls fs ≤ℤ (total_one low high p ms hs +ℤ pos taken))

  -- each computed test decides its definition
  abbrev pub TestsDecide : Type 0
  TestsDecide = (p : Pairs) (ls : List X) (fs gs : List ℤ) (cut first : ℕ → Bool) → Decides (is_feasible low high capacity cabinets p ls fs gs) (Feasible low high capacity cabinets p ls fs gs) × Decides (is_sum_side p cut) (SumSide p cut) × Decides (is_first_side p first) (FirstSide p first) × Decides (is_held low high capacity cabinets p ls fs gs cut first) (Held low high capacity cabinets p ls fs gs cut first)

  -- an answer for the links with a limit above 0, with flow 0 for the others, is an answer for all links
  abbrev pub TrimAnswers : Type 0
  TrimAnswers = (ls : List X) (at most : Taps ℕ) (r : Answer) (more : List ℤ) → Solves low high capacity cabinets (trimmed capacity ls) at most r → Solves low high capacity cabinets ls at most (record { flow = dealt capacity ls r.flow ++ more; amount = r.amount; side = r.side })
