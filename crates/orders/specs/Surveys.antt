-- What a survey of a file tells.
use Rattle.std.specs.Prelude.{◌≡◌, ℕ, List, length}
use Rattle.std.specs.List.{flat_map}
use Rattle.orders.specs.declared.kind.Kind.{Kind}
use Rattle.orders.specs.declared.survey.Survey.{Survey}
use Rattle.orders.specs.Records.{Item, bytes, orders, ReadAs}

-- The file reads as so many records up to this place, where reading stops as told.
abbrev pub Surveyed : List ℕ → Survey → Type 0
Surveyed file s = (items : List (Item Kind)) × ReadAs orders file items s.fault × (s.records ≡ length items) × (s.place ≡ length (flat_map bytes items))
