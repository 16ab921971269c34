-- None of the calls so far has begun or closed a trial.
use Rattle.std.proofs.Common.{◌≡◌}
use Rattle.book.specs.Books.{view}
use Rattle.histories.proofs.telling.play.Given as goal

abbrev pub invariant-loop-call : goal.invariant-loop-call
invariant-loop-call l = (view l.book).trial ≡ (view l.initial.book).trial
