-- What a sheet of a book shows.
use Rattle.std.specs.Prelude.{Some, None, Option}
use Rattle.flow.specs.declared.pairs.Pairs.{Pairs}
use Rattle.sheet.specs.Readings as sheets
use Rattle.book.specs.History.{State}
use Rattle.book.specs.Plans.{Plan}

-- the held plan with the pairs that it belongs to
abbrev pub paired : Option Pairs → Option Plan → Option sheets.Plan
paired None h = None
paired (Some p) None = None
paired (Some p) (Some h) = Some (record { pairs = p; one = h.one; two = h.two; cut = h.cut; first = h.first })

-- what a sheet of a book in this state shows: its links and its held plan
abbrev pub reading : State → sheets.Reading
reading s = record { links = s.rows; plan = paired s.pairs s.plan }
