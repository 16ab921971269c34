-- The state that a book shows, and what holds of it in every past.
use Rattle.std.specs.Prelude.{◌≡◌, ℕ, ◌%◌, ◌<◌, ◌≤◌, List, length, get_or, Some, ◌≢◌, slice_index_or}
use Rattle.flow.specs.declared.pairs.Pairs.{Pairs}
use Rattle.flow.specs.Plans.{Proper}
use Rattle.flow.specs.Ranges.{cabinets, most_links, most_slots}
use Rattle.book.specs.declared.trial.Trial.{Trial}
use Rattle.mesh.specs.declared.row.Row.{Row}
use Rattle.book.specs.declared.book.Book.{Book}
use Rattle.mesh.specs.Links.{KeepsRule}
use Rattle.book.specs.History.{State, slots_of}
use Rattle.book.specs.Ledgers.{seen}

-- what a book holds, as a state
abbrev pub view : Book → State
view b = seen b.ledger

-- every link keeps the rule of a link
abbrev pub AllRuled : List Row → Type 0
AllRuled rows = (k : ℕ) (d : Row) → k < length rows → KeepsRule (slice_index_or rows k d)

-- no two links join the same two cabinets
abbrev pub NoPairTwice : List Row → Type 0
NoPairTwice rows = (j k : ℕ) (d : Row) → j < k → k < length rows → (get_or rows j d).low ≡ (get_or rows k d).low → (get_or rows j d).high ≢ (get_or rows k d).high

-- while a trial stands, its link is there and has no slots, and the former slots are such as a link can have
abbrev pub Standing : State → Type 0
Standing s = (t : Trial) → s.trial ≡ Some t → (t.link < length s.rows) × (slots_of s.rows t.link ≡ 0) × (t.slots % 2 ≡ 0) × (t.slots ≤ most_slots)

-- what holds of a book after any calls
pub record Sound (s : State) : Type 0 where
  pub ruled : AllRuled s.rows
  pub single : NoPairTwice s.rows
  pub few : length s.rows ≤ most_links
  pub proper : (p : Pairs) → s.pairs ≡ Some p → Proper cabinets p
  pub standing : Standing s
