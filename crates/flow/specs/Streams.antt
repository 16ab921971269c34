-- The two streams: their numbers and their ends.
use Rattle.std.specs.Prelude.{◌≡◌, ℕ, Result, MatchResult, ◌≢◌}
use Rattle.flow.specs.declared.pairs.Pair.{Pair}
use Rattle.flow.specs.declared.pairs.Pairs.{Pairs}
use Rattle.flow.specs.declared.stream.NoStream.{NoStream}
use Rattle.flow.specs.declared.stream.Stream.{Stream}
use Rattle.flow.specs.declared.stream.Stream.TheVariants.{One, Two}

-- the number by which a stream is asked for
abbrev pub number_of : Stream → ℕ
number_of One = 1
number_of Two = 2

-- the result is the stream with this number, or an error that tells the number, which no stream has
abbrev pub Named : ℕ → Result Stream NoStream → Type 0
Named n r = MatchResult r (λ s. number_of s ≡ n) (λ e. (e.0 ≡ n) × ((s : Stream) → number_of s ≢ n))

-- the source and the goal of a stream
abbrev pub pair_of : Pairs → Stream → Pair
pair_of p One = record { source = p.source1; goal = p.goal1 }
pair_of p Two = record { source = p.source2; goal = p.goal2 }
