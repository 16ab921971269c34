-- How far a number moves when slots are added and taken.
use Rattle.std.specs.Prelude.{ℕ, ◌+◌, ◌≤◌}

-- the later number is at most the earlier with what was added, and the earlier at most the later with what was taken
pub record Near (before later added taken : ℕ) : Type 0 where
  pub rise : later ≤ before + added
  pub fall : before ≤ later + taken
