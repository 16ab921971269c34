-- What a fault is reported as.
use Rattle.std.specs.Prelude.{ℕ, Bool, List, ◌++◌, codes, decimal, Some, Option, if◌then◌else◌}
use Rattle.mesh.specs.declared.fault.Fault.{Fault}
use Rattle.mesh.specs.declared.fault.Fault.TheVariants.{TrialStands, Cabinet, Ends, Slots, Linked, Full, NoLink, Unnamed, NoTrial, Proposal, Sheet}
use Rattle.plan.specs.Flaws as flaws
use Rattle.mesh.specs.declared.fault.Missing.{Missing}
use Rattle.mesh.specs.declared.fault.Missing.TheVariants as missing
use Rattle.mesh.specs.declared.fault.Layer.{Layer}
use Rattle.mesh.specs.declared.fault.Layer.TheVariants as layers

-- the number of what a sheet lacks
abbrev pub missing_number : Missing → ℕ
missing_number missing.Plan = 30
missing_number missing.Link = 27
missing_number missing.Cabinet = 22
missing_number missing.Stream = 32
missing_number missing.Room = 31

-- the number of a fault
abbrev pub number : Fault → ℕ
number TrialStands = 21
number Cabinet = 22
number Ends = 23
number Slots = 24
number Linked = 25
number Full = 26
number NoLink = 27
number Unnamed = 28
number NoTrial = 29
number (Proposal flaw) = flaws.number flaw
number (Sheet m) = missing_number m

-- where in the caller's request a fault lies: a flaw of a proposal has its place, and the others name none
abbrev pub place : Fault → ℕ
place TrialStands = 0
place Cabinet = 0
place Ends = 0
place Slots = 0
place Linked = 0
place Full = 0
place NoLink = 0
place Unnamed = 0
place NoTrial = 0
place (Proposal flaw) = flaws.place flaw
place (Sheet m) = 0

-- the layer that finds a fault: the order's own numbers, the book that it meets, the proposal, or the sheet that is read
abbrev pub layer : Fault → Layer
layer TrialStands = layers.Book
layer Cabinet = layers.Order
layer Ends = layers.Order
layer Slots = layers.Order
layer Linked = layers.Book
layer Full = layers.Book
layer NoLink = layers.Book
layer Unnamed = layers.Book
layer NoTrial = layers.Book
layer (Proposal flaw) = layers.Proposal
layer (Sheet m) = layers.Sheet

-- a layer is told by its name
abbrev pub layer_text : Layer → List ℕ
layer_text layers.Order = codes "order"
layer_text layers.Book = codes "book"
layer_text layers.Proposal = codes "proposal"
layer_text layers.Sheet = codes "sheet"

-- a fault is told by its number, its place and its layer
abbrev pub fault_text : Fault → List ℕ
fault_text fault = decimal (number fault) ++ (codes " at " ++ (decimal (place fault) ++ (codes " " ++ layer_text (layer fault))))

-- a line of the table of refusals: this fault if the test holds, else what the rest of the table says
abbrev pub refuse_if : Bool → Fault → Option Fault → Option Fault
refuse_if test fault rest = (if test then Some fault else rest)
