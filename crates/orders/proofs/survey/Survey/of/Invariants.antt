-- What has been read so far, and how much is left.
use Rattle.std.proofs.Common.{◌≡◌, ◌-◌, List, length}
use Rattle.orders.specs.declared.kind.Kind.{Kind}
use Rattle.orders.specs.Records.{Item, orders, ReadUpTo}
use Rattle.orders.proofs.survey.Survey.of.Given as goal

abbrev pub invariant-loop-records : goal.invariant-loop-records
invariant-loop-records l =
    (l.reader.file.now ≡ l.file) × ((items : List (Item Kind)) × ReadUpTo orders l.file items l.reader.place × (l.records ≡ length items))

abbrev pub decreases-loop-records : goal.decreases-loop-records
decreases-loop-records l = length l.file - l.reader.place
