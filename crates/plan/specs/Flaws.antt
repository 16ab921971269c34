-- What a flaw is reported as.
use Rattle.std.specs.Prelude.{ℕ}
use Rattle.plan.specs.declared.flaw.Flaw.{Flaw}
use Rattle.plan.specs.declared.flaw.Flaw.TheVariants.{Lengths, Over, Broken, SumSide, FirstSide, Sum, First}

-- the number of a flaw
abbrev pub number : Flaw → ℕ
number Lengths = 41
number (Over link) = 42
number (Broken cabinet) = 43
number SumSide = 44
number FirstSide = 44
number Sum = 45
number First = 46

-- where in the proposal a flaw lies: the link, the cabinet, or which of the two sides
abbrev pub place : Flaw → ℕ
place Lengths = 0
place (Over link) = link
place (Broken cabinet) = cabinet
place SumSide = 1
place FirstSide = 2
place Sum = 0
place First = 0
