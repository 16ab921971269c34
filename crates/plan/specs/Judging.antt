-- The first flaw of a proposed plan: shares `fs` of stream 1 and `gs` of stream 2, with a cut and a first side.
use Rattle.std.specs.Prelude.{ℕ, zero, suc, Bool, not, ◌&&◌, List, length, position, ℤ, pos, Some, None, Ok, Err, Option, Result, ◌==◌, if◌then◌else◌}
use Rattle.std.specs.List.{zip}
use Rattle.std.specs.Option.{option_or}
use Rattle.flow.specs.declared.pairs.Pairs.{Pairs}
use Rattle.flow.specs.declared.stream.Stream.{Stream}
use Rattle.flow.specs.Streams.{pair_of}
use Rattle.flow.specs.Ranges.{cabinets}
use Rattle.flow.specs.Nets.{members, side_slots}
use Rattle.flow.specs.Plans.{total_one, sum_of}
use Rattle.flow.specs.Tests.{equal, shares_fit, is_first_side, is_sum_side, is_kept}
use Rattle.plan.specs.Listed.{shares_of}
use Rattle.plan.specs.declared.flaw.Flaw.{Flaw}
use Rattle.plan.specs.declared.flaw.Flaw.TheVariants.{Lengths, Over, Broken, SumSide, FirstSide, Sum, First}

-- the flaw unless the test passes, and then what comes after
abbrev pub unless : Bool → Flaw → Option Flaw → Option Flaw
unless test flaw rest = (if test then rest else Some flaw)

-- the flaw at a place, if one was found, else what comes after
abbrev pub flaw_at : (ℕ → Flaw) → Option ℕ → Option Flaw → Option Flaw
flaw_at flaw None rest = rest
flaw_at flaw (Some k) rest = Some (flaw k)

-- the lowest number below n that fails the test, if any
unfoldable pub lowest_failing : ℕ → (ℕ → Bool) → Option ℕ
lowest_failing zero test = None
lowest_failing (suc n) test = option_or (lowest_failing n test) (if test n then None else Some n)

-- the share lists are as long as the links, and the side lists have a place for every cabinet
abbrev pub are_fitting : {X : Type 0} → List X → (fs gs : List ℤ) (cut first : List Bool) → Bool
are_fitting ls fs gs cut first = length fs == length ls && length gs == length ls && length cut == cabinets && length first == cabinets

-- the lowest link whose shares without sign add up to more than its slots, if any
abbrev pub lowest_over : {X : Type 0} → (X → ℕ) → List X → (fs gs : List ℤ) → Option ℕ
lowest_over capacity ls fs gs = position (λ p. not (shares_fit capacity p.0.0 p.0.1 p.1)) (zip (zip ls fs) gs)

module _ {X : Type 0} (low high : X → ℕ) (p : Pairs) (ls : List X) (fs gs : List ℤ) where
  -- the net of the cabinet v in the stream is 0, or v is one of its ends
  abbrev pub keeps_in : Stream → ℕ → Bool
  keeps_in stream v = is_kept low high (pair_of p stream).source (pair_of p stream).goal ls (shares_of stream fs gs) v

  -- the lowest cabinet whose net is not 0, in stream 1 first
  abbrev pub lowest_broken : Option ℕ
  lowest_broken = option_or (lowest_failing cabinets (is_kept low high p.source1 p.goal1 ls fs)) (lowest_failing cabinets (is_kept low high p.source2 p.goal2 ls gs))

module _ {X : Type 0} (low high capacity : X → ℕ) (p : Pairs) (ls : List X) (fs gs : List ℤ) (cut first : List Bool) where
  -- the first flaw of the two sides, of the sum and of total 1
  abbrev pub weighed : Option Flaw
  weighed =
      unless (is_sum_side p (members cut)) SumSide
      (unless (is_first_side p (members first)) FirstSide
      (unless (equal (sum_of low high p ls fs gs) (pos (side_slots low high capacity (members cut) ls))) Sum
      (unless (equal (total_one low high p ls fs) (pos (side_slots low high capacity (members first) ls))) First None)))

  -- the first flaw of all: the lists' lengths, the links, the cabinets, and the rest
  abbrev pub judged : Option Flaw
  judged =
      unless (are_fitting ls fs gs cut first) Lengths
      (flaw_at Over (lowest_over capacity ls fs gs)
      (flaw_at Broken (lowest_broken low high p ls fs gs)
      weighed))

-- what a proposal is answered: a refusal with the first flaw, if there is one
abbrev pub verdict : Option Flaw → Result (Unit {0}) Flaw
verdict None = Ok tt
verdict (Some flaw) = Err flaw
