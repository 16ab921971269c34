-- What has been read, carried out and told so far, and how much is left.
use Rattle.std.proofs.Common.{◌≡◌, ◌-◌, length, string_bytes}
use Rattle.book.specs.Books.{view}
use Rattle.orders.proofs.Telling.{ToldSoFar}
use Rattle.orders.proofs.run.run_through.Given as goal

abbrev pub invariant-loop-order : goal.invariant-loop-order
invariant-loop-order g l =
    (l.reader.file.now ≡ l.file) × ToldSoFar (view l.initial.book) l.file l.reader.place l.orders (string_bytes l.text) (view l.book)

abbrev pub decreases-loop-order : goal.decreases-loop-order
decreases-loop-order g l = length l.file - l.reader.place
