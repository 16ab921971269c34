-- The theorems about drawing and judging, over links of any type X with two ends and a number of slots.
use Rattle.std.specs.Prelude.{◌≡◌, ℕ, Bool, List, length, ℤ, None}
use Rattle.flow.specs.declared.pairs.Pairs.{Pairs}
use Rattle.flow.specs.Ranges.{cabinets}
use Rattle.flow.specs.Nets.{members}
use Rattle.flow.specs.Plans.{Proper, Held}
use Rattle.flow.specs.Drawings.{Drawn}
use Rattle.plan.specs.Links.{LawfulLinks}
use Rattle.plan.specs.Halves.{half}
use Rattle.plan.specs.Judging.{judged}

-- what the test of the lists' lengths tells
pub record Fitting {X : Type 0} (ls : List X) (fs gs : List ℤ) (cut first : List Bool) : Type 0 where
  pub ones : length fs ≡ length ls
  pub twos : length gs ≡ length ls
  pub cuts : length cut ≡ cabinets
  pub firsts : length first ≡ cabinets

module _ {X : Type 0} (low high capacity : X → ℕ) where
  -- a plan drawn over lawful links is held with its two sides, whatever the engines answered
  abbrev pub DrawnIsHeld : Type 0
  DrawnIsHeld = (p : Pairs) (ls : List X) (fs gs : List ℤ) (cut first : ℕ → Bool) → LawfulLinks low high capacity ls → Proper cabinets p → Drawn low high (half capacity) p ls fs gs cut first → Held low high capacity cabinets p ls fs gs cut first

  -- a proposal has no flaw if and only if its lists fit and it is held with its two sides
  abbrev pub AdmitsExactly : Type 0
  AdmitsExactly = (p : Pairs) (ls : List X) (fs gs : List ℤ) (cut first : List Bool) → (judged low high capacity p ls fs gs cut first ≡ None → Fitting ls fs gs cut first × Held low high capacity cabinets p ls fs gs (members cut) (members first)) × (Fitting ls fs gs cut first × Held low high capacity cabinets p ls fs gs (members cut) (members first) → judged low high capacity p ls fs gs cut first ≡ None)
