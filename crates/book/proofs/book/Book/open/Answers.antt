use Rattle.std.proofs.Common.{sym, subst}
use Rattle.book.specs.History.{Past, State}
use Rattle.book.specs.History.Run.{still}
use Rattle.book.proofs.book.Book.open.Goals as goal

pub invariant_of-result : goal.invariant_of-result
invariant_of-result c = record { reached = subst (λ (s : State). ∥ Past s ∥₁) (sym c.in_ok-ledger.ensures) ∣ (0, (0, still)) ∣₁ }
