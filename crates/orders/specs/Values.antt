-- Numbers as bytes.
use Rattle.std.specs.Prelude.{ℕ, ◌+◌, ◌*◌, List, take, drop, fold}

-- The number that bytes stand for, the high byte first.
abbrev pub value : List ℕ → ℕ
value = fold (λ high byte. 256 * high + byte) 0

-- The number in so many bytes from this place of a body on.
abbrev pub field : ℕ → ℕ → List ℕ → ℕ
field at width body = value (take width (drop at body))
