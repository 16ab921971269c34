-- What a run of an order file on a book does and tells.
use Rattle.std.specs.Prelude.{◌≡◌, ℕ, ◌+◌, List, [], ◌∷◌, ◌++◌, length, Some, None, Ok, Err, MatchBool, Result, nat_lt}
use Rattle.std.specs.List.{flat_map}
use Rattle.mesh.specs.declared.fault.Fault.{Fault}
use Rattle.book.specs.History.{State, Call, Step}
use Rattle.book.specs.History.Call.{Add as add_call, Resize as resize_call, Drop as drop_call, Name as name_call, Draw as draw_call}
use Rattle.book.specs.Sheets.{reading}
use Rattle.sheet.specs.declared.answers.Totals.{Totals}
use Rattle.sheet.specs.Readings.{Answers, Totalled}
use Rattle.sheet.specs.Readings.Request.{Total}
use Rattle.orders.specs.declared.kind.Kind.{Kind}
use Rattle.orders.specs.declared.line.Line.{Line}
use Rattle.orders.specs.declared.line.Line.TheVariants as lines
use Rattle.orders.specs.declared.order.Order.{Order}
use Rattle.orders.specs.declared.order.Order.TheVariants.{Add, Resize, Drop, Name, Draw}
use Rattle.orders.specs.Lines.{ended, most_bytes}
use Rattle.orders.specs.Meanings.{order, asked}
use Rattle.orders.specs.Records.{Item, Stop, bytes, orders, ReadAs}

-- The line of an order that the book accepted or refused: its place among the orders, its kind, and the first byte of its record.
abbrev pub answer_line : ℕ → Kind → ℕ → Result (Unit {0}) Fault → Line
answer_line n kind at (Ok _) = lines.Done n kind
answer_line n kind at (Err fault) = lines.Refused n kind fault at

-- A call of the book took it from one state to another, and the line tells how.
abbrev pub Called : ℕ → Kind → ℕ → State → Call → Line → State → Type 0
Called n kind at s call line t = (r : Result (Unit {0}) Fault) × Step s call r t × (line ≡ answer_line n kind at r)

-- A plan was drawn on the book, with whatever engine, and these are the totals of the plan that is now held; or the draw was refused.
abbrev pub Drew : State → Result Totals Fault → State → Type 0
Drew s (Ok totals) t = Step s draw_call (Ok tt) t × Answers (reading t) Total Totalled (Ok totals)
Drew s (Err fault) t = Step s draw_call (Err fault) t

-- The line of a draw: the plan's totals, or the refusal.
abbrev pub draw_line : ℕ → ℕ → Result Totals Fault → Line
draw_line n at (Ok totals) = lines.Planned n totals
draw_line n at (Err fault) = lines.Refused n (asked Draw) fault at

-- A plan was drawn on the book or refused, and the line tells it.
abbrev pub Planned : ℕ → ℕ → State → Line → State → Type 0
Planned n at s line t = (r : Result Totals Fault) × Drew s r t × (line ≡ draw_line n at r)

-- An order was carried out: each makes its call on the book.
abbrev pub Carried : ℕ → ℕ → State → Order → Line → State → Type 0
Carried n at s (Add a b slots) line t = Called n (asked (Add a b slots)) at s (add_call a b slots) line t
Carried n at s (Resize link slots) line t = Called n (asked (Resize link slots)) at s (resize_call link slots) line t
Carried n at s (Drop link) line t = Called n (asked (Drop link)) at s (drop_call link) line t
Carried n at s (Name pairs) line t = Called n (asked (Name pairs)) at s (name_call pairs) line t
Carried n at s Draw line t = Planned n at s line t

-- The records of a file carried out in turn, a line for each: orders count from 1, and a record's place is where the ones before it end.
pub data Tells (s : State) : List (Item Kind) → List Line → State → Type 0 where
  none : Tells s [] [] s
  next : {items : List (Item Kind)} {told : List Line} {t u : State} (i : Item Kind) (line : Line) → Tells s items told t → Carried (length items + 1) (length (flat_map bytes items)) t (order i) line u → Tells s (items ++ i ∷ []) (told ++ line ∷ []) u

-- The last line: how many orders there were, or the fault with its place.
abbrev pub last_line : ℕ → ℕ → Stop → Line
last_line n at None = lines.End n
last_line n at (Some fault) = lines.Unread fault at

-- A whole run: the file was read to where reading stops, its records were carried out in turn, and the text is their lines and the last.
pub record Ran (s : State) (file text : List ℕ) (t : State) : Type 0 where
  pub items : List (Item Kind)
  pub stop : Stop
  pub read : ReadAs orders file items stop
  pub told : List Line
  pub tells : Tells s items told t
  pub text_is : text ≡ flat_map ended (told ++ last_line (length items) (length (flat_map bytes items)) stop ∷ [])

-- What is printed for a file: a file that is too long gives one line and changes nothing, any other is run.
abbrev pub Printed : State → List ℕ → List ℕ → State → Type 0
Printed s file text t = MatchBool (nat_lt most_bytes (length file)) ((text ≡ ended lines.TooLong) × (t ≡ s)) (Ran s file text t)
