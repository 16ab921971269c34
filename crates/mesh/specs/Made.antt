-- What making a link from a row answers.
use Rattle.std.specs.Prelude.{◌≡◌, Some, None, Ok, Err, Option, Result, nat_le, nat_lt}
use Rattle.mesh.specs.declared.row.Row.{Row}
use Rattle.mesh.specs.declared.link.Link.{Link}
use Rattle.mesh.specs.declared.fault.Fault.{Fault}
use Rattle.mesh.specs.declared.fault.Fault.TheVariants.{Cabinet, Ends, Slots}
use Rattle.mesh.specs.Faults.{refuse_if}
use Rattle.mesh.specs.Links.{bad_slots}

-- the numbers of a link
abbrev pub as_row : Link → Row
as_row l = record { low = l.low; high = l.high; slots = l.slots }

-- the first part of the link's rule that a row breaks
abbrev pub breach : Row → Option Fault
breach r =
    refuse_if (nat_lt 63 r.high) Cabinet (
    refuse_if (nat_le r.high r.low) Ends (
    refuse_if (bad_slots r.slots) Slots None))

-- a row that keeps the rule gives the link of the same numbers, any other the first breach
abbrev pub Makes : Row → Result Link Fault → Type 0
Makes row (Ok l) = (breach row ≡ None) × (as_row l ≡ row)
Makes row (Err fault) = breach row ≡ Some fault
