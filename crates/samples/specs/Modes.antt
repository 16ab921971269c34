-- The words that name what a benchmark prints.
use Rattle.std.specs.Prelude.{◌≡◌, ℕ, List, Result, MatchResult, ◌≢◌, ◌⊎◌, codes}
use Rattle.samples.specs.declared.mode.Mode.{Mode}
use Rattle.samples.specs.declared.mode.Mode.TheVariants.{Times, Jobs}
use Rattle.samples.specs.declared.mode.NoMode.{NoMode}

-- the result is the mode that the word names, or an error where it names none
abbrev pub Named : List ℕ → Result Mode NoMode → Type 0
Named word r = MatchResult r (λ mode. ((word ≡ codes "times") × (mode ≡ Times)) ⊎ ((word ≡ codes "jobs") × (mode ≡ Jobs))) (λ _. (word ≢ codes "times") × (word ≢ codes "jobs"))
