-- The numbers of the faults that end a reading.
use Rattle.std.specs.Prelude.{ℕ}
use Rattle.orders.specs.declared.record.RecordFault.{RecordFault}
use Rattle.orders.specs.declared.record.RecordFault.TheVariants.{Short, Unknown}

-- A short record is reported as 11, an unknown mark as 12.
abbrev pub number : RecordFault → ℕ
number Short = 11
number Unknown = 12
