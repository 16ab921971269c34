-- The numbers of the generator.
use Rattle.std.specs.Prelude.{ℕ, ◌+◌, ◌*◌, ◌%◌, ◌^◌}

-- the state that follows a state
abbrev pub following : ℕ → ℕ
following s = ((s * 6364136223846793005) % 2 ^ 64 + 1442695040888963407) % 2 ^ 64
