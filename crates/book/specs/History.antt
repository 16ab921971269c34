-- What follows from the calls alone: the state after each, what a call is refused for, and what it does.
use Rattle.std.specs.Prelude.{◌≡◌, ℕ, ◌+◌, ◌-◌, ◌<◌, min, max, Bool, true, not, ◌&&◌, ◌||◌, List, [], ◌∷◌, ◌++◌, length, is_some, Some, None, Ok, Err, Option, Result, ◌==◌, nat_le, nat_lt, slice_index_or, slice_set}
use Rattle.std.specs.List.{list_any, remove}
use Rattle.std.specs.Option.{option_map}
use Rattle.flow.specs.declared.pairs.Pairs.{Pairs}
use Rattle.mesh.specs.declared.row.Row.{Row}
use Rattle.book.specs.declared.trial.Trial.{Trial}
use Rattle.mesh.specs.declared.fault.Fault.{Fault}
use Rattle.mesh.specs.declared.fault.Fault.TheVariants.{TrialStands, Cabinet, Ends, Slots, Linked, Full, NoLink, Unnamed, NoTrial, Proposal}
use Rattle.mesh.specs.Faults.{refuse_if}
use Rattle.mesh.specs.Links.{between, blank, bad_slots}
use Rattle.book.specs.Plans.{Plan, DrawnPlan, flaw_of}

-- what a book is at one moment: its links in order, the streams' pairs if named, the trial that stands and the plan that is held, if any
pub record State : Type 0 where
  pub rows : List Row
  pub pairs : Option Pairs
  pub trial : Option Trial
  pub plan : Option Plan

-- a state of these four parts
abbrev pub state : List Row → Option Pairs → Option Trial → Option Plan → State
state rows pairs trial plan = record { rows = rows; pairs = pairs; trial = trial; plan = plan }

-- a book as it is opened: no links, no streams, no trial, no plan
abbrev pub opened : State
opened = state [] None None None

-- the calls on a book, with what the caller asks for
pub data Call : Type 0 where
  Add : ℕ → ℕ → ℕ → Call
  Resize : ℕ → ℕ → Call
  Drop : ℕ → Call
  Name : Pairs → Call
  Begin : ℕ → Call
  Close : Trial → Call
  Draw : Call
  Admit : Plan → Call

-- the slots of a link
abbrev pub slots_of : List Row → ℕ → ℕ
slots_of rows l = (slice_index_or rows l blank).slots

-- the links with other slots on one of them
abbrev pub resized : List Row → ℕ → ℕ → List Row
resized rows l n = slice_set rows l (record { low = (slice_index_or rows l blank).low; high = (slice_index_or rows l blank).high; slots = n })

-- whether some link joins these two cabinets
abbrev pub linked : List Row → ℕ → ℕ → Bool
linked rows low high = list_any (λ r. r.low == low && r.high == high) rows

-- whether an end of a stream is no cabinet
abbrev pub off_mesh : Pairs → Bool
off_mesh p = nat_lt 63 p.source1 || (nat_lt 63 p.goal1 || (nat_lt 63 p.source2 || nat_lt 63 p.goal2))

-- whether a stream's source is its goal
abbrev pub closed_pair : Pairs → Bool
closed_pair p = p.source1 == p.goal1 || p.source2 == p.goal2

-- whether two trials have the same numbers
abbrev pub same_trial : Trial → Trial → Bool
same_trial t u = t.link == u.link && t.slots == u.slots

-- whether this trial does not stand
abbrev pub not_standing : Option Trial → Trial → Bool
not_standing None u = true
not_standing (Some t) u = not (same_trial t u)

-- the refusal of a proposed plan: the streams are not named, or its first flaw
abbrev pub admission : List Row → Option Pairs → Plan → Option Fault
admission rows None h = Some Unnamed
admission rows (Some p) h = option_map Proposal (flaw_of rows p h)

-- the table of refusals: for each call its conditions in order, and the fault of the first that holds
abbrev pub refusal : State → Call → Option Fault
refusal s (Add a b n) =
    refuse_if (nat_lt 63 a || nat_lt 63 b) Cabinet (
    refuse_if (a == b) Ends (
    refuse_if (bad_slots n) Slots (
    refuse_if (is_some s.trial) TrialStands (
    refuse_if (linked s.rows (min a b) (max a b)) Linked (
    refuse_if (nat_le 512 (length s.rows)) Full None)))))
refusal s (Resize l n) =
    refuse_if (bad_slots n) Slots (
    refuse_if (is_some s.trial) TrialStands (
    refuse_if (nat_le (length s.rows) l) NoLink None))
refusal s (Drop l) =
    refuse_if (is_some s.trial) TrialStands (
    refuse_if (nat_le (length s.rows) l) NoLink None)
refusal s (Name p) =
    refuse_if (off_mesh p) Cabinet (
    refuse_if (closed_pair p) Ends None)
refusal s (Begin l) =
    refuse_if (is_some s.trial) TrialStands (
    refuse_if (nat_le (length s.rows) l) NoLink None)
refusal s (Close u) = refuse_if (not_standing s.trial u) NoTrial None
refusal s Draw = refuse_if (not (is_some s.pairs)) Unnamed None
refusal s (Admit h) = admission s.rows s.pairs h

-- what an accepted call does: one that changes the mesh or the pairs withdraws the plan, and a drawn plan is any that engines' answers make
abbrev pub Goes : State → Call → State → Type 0
Goes s (Add a b n) t = t ≡ state (s.rows ++ (between a b n ∷ [])) s.pairs s.trial None
Goes s (Resize l n) t = t ≡ state (resized s.rows l n) s.pairs s.trial None
Goes s (Drop l) t = t ≡ state (remove s.rows l) s.pairs s.trial None
Goes s (Name p) t = t ≡ state s.rows (Some p) s.trial None
Goes s (Begin l) t = t ≡ state (resized s.rows l 0) s.pairs (Some (record { link = l; slots = slots_of s.rows l })) None
Goes s (Close u) t = t ≡ state (resized s.rows u.link u.slots) s.pairs None None
Goes s Draw t = (p : Pairs) × (h : Plan) × (s.pairs ≡ Some p) × DrawnPlan s.rows p h × (t ≡ state s.rows s.pairs s.trial (Some h))
Goes s (Admit h) t = t ≡ state s.rows s.pairs s.trial (Some h)

-- one call: accepted where the table has no refusal, else refused with the table's first, and nothing is altered
abbrev pub Step : State → Call → Result (Unit {0}) Fault → State → Type 0
Step s c (Ok _) t = (refusal s c ≡ None) × Goes s c t
Step s c (Err fault) t = (refusal s c ≡ Some fault) × (t ≡ s)

-- a refused call leaves the whole of what it was called on as it was
abbrev pub Stays : {X : Type 0} → Result (Unit {0}) Fault → X → X → Type 0
Stays (Ok _) before after = Unit {0}
Stays (Err fault) before after = after ≡ before

-- while a trial stands, its link is there
abbrev pub TrialThere : State → Type 0
TrialThere s = (t : Trial) → s.trial ≡ Some t → t.link < length s.rows

-- the slots that an accepted call adds to the mesh
abbrev pub added : State → Call → ℕ
added s (Add a b n) = n
added s (Resize l n) = n - slots_of s.rows l
added s (Drop l) = 0
added s (Name p) = 0
added s (Begin l) = 0
added s (Close u) = u.slots
added s Draw = 0
added s (Admit h) = 0

-- the slots that an accepted call takes from the mesh
abbrev pub taken : State → Call → ℕ
taken s (Add a b n) = 0
taken s (Resize l n) = slots_of s.rows l - n
taken s (Drop l) = slots_of s.rows l
taken s (Name p) = 0
taken s (Begin l) = slots_of s.rows l
taken s (Close u) = 0
taken s Draw = 0
taken s (Admit h) = 0

-- a refused call adds and takes nothing
abbrev pub counted : Result (Unit {0}) Fault → ℕ → ℕ
counted (Ok _) n = n
counted (Err fault) n = 0

-- the calls from one moment to a later one, with the slots that they added and took in all
pub data Run (s : State) : ℕ → ℕ → State → Type 0 where
  still : Run s 0 0 s
  more : {a k : ℕ} {t u : State} (c : Call) (r : Result (Unit {0}) Fault) → Run s a k t → Step t c r u → Run s (a + counted r (added t c)) (k + counted r (taken t c)) u

-- the state is reached from an opened book by some calls, accepted or refused, in some order
abbrev pub Past : State → Type 0
Past s = (added : ℕ) × ((taken : ℕ) × Run opened added taken s)
