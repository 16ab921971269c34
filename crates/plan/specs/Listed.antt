-- The shares of a plan by their stream.
use Rattle.std.specs.Prelude.{List, ℤ}
use Rattle.flow.specs.declared.stream.Stream.{Stream}
use Rattle.flow.specs.declared.stream.Stream.TheVariants.{One, Two}

-- the shares of one stream, where `fs` are those of stream 1 and `gs` those of stream 2
abbrev pub shares_of : Stream → (fs gs : List ℤ) → List ℤ
shares_of One fs gs = fs
shares_of Two fs gs = gs
