-- Receipts, and what begin and close answer.
use Rattle.std.specs.Prelude.{◌≡◌, ℕ, Ok, Err, Result}
use Rattle.mesh.specs.declared.fault.Fault.{Fault}
use Rattle.book.specs.declared.trial.Trial.{Trial}
use Rattle.book.specs.declared.trial.Receipt.{Receipt}
use Rattle.book.specs.declared.trial.Refused.{Refused}
use Rattle.book.specs.History.{State, slots_of}

-- the trial that a receipt tells of
abbrev pub trial_of : Receipt → Trial
trial_of r = r.trial

-- begin's answer as that of a call
abbrev pub begun : Result Receipt Fault → Result (Unit {0}) Fault
begun (Ok receipt) = Ok tt
begun (Err fault) = Err fault

-- close's answer as that of a call
abbrev pub closed : Result (Unit {0}) Refused → Result (Unit {0}) Fault
closed (Ok _) = Ok tt
closed (Err refused) = Err refused.fault

-- the receipt of an accepted begin has the link and its former slots
abbrev pub Received : ℕ → State → Result Receipt Fault → Type 0
Received l s (Ok receipt) = trial_of receipt ≡ record { link = l; slots = slots_of s.rows l }
Received l s (Err fault) = Unit {0}

-- a refused close hands the receipt back
abbrev pub HandedBack : Receipt → Result (Unit {0}) Refused → Type 0
HandedBack receipt (Ok _) = Unit {0}
HandedBack receipt (Err refused) = refused.receipt ≡ receipt
