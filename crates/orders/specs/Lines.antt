-- The lines that a run tells, as bytes.
use Rattle.std.specs.Prelude.{ℕ, List, [], ◌∷◌, ◌++◌, codes, decimal}
use Rattle.mesh.specs.Faults.{number, layer, layer_text}
use Rattle.orders.specs.declared.kind.Kind.{Kind}
use Rattle.orders.specs.declared.line.Line.{Line}
use Rattle.orders.specs.declared.line.Line.TheVariants.{Done, Refused, Planned, End, Unread, TooLong}
use Rattle.orders.specs.Faults as record_faults
use Rattle.orders.specs.Records.{entry}
use Rattle.sheet.specs.Tellings.{totals_text}

-- A kind is told by its mark.
abbrev pub mark_text : Kind → List ℕ
mark_text kind = (entry kind).first ∷ (entry kind).second ∷ []

-- The most bytes that an order file may have.
abbrev pub most_bytes : ℕ
most_bytes = 65536

-- A line's words: an order is told by its place among the orders, a plan by its sum and its two totals, a fault by its number, its place in the file and its layer.
abbrev pub spelled : Line → List ℕ
spelled (Done n kind) = decimal n ++ (codes " " ++ (mark_text kind ++ codes " ok"))
spelled (Refused n kind fault at) = decimal n ++ (codes " " ++ (mark_text kind ++ (codes " " ++ (decimal (number fault) ++ (codes " at " ++ (decimal at ++ (codes " " ++ layer_text (layer fault))))))))
spelled (Planned n totals) = decimal n ++ (codes " PL ok " ++ totals_text totals)
spelled (End n) = codes "end " ++ decimal n
spelled (Unread fault at) = codes "fault " ++ (decimal (record_faults.number fault) ++ (codes " at " ++ (decimal at ++ codes " record")))
spelled TooLong = codes "fault 13 at " ++ (decimal most_bytes ++ codes " program")

-- A line ends with a line feed.
abbrev pub ended : Line → List ℕ
ended line = spelled line ++ (10 ∷ [])
