-- What a layer hands down that leaves out the links with limit 0, and what it hands back.
use Rattle.std.specs.Prelude.{ℕ, Bool, List, [], ◌∷◌, ℤ, pos, filter, nat_lt, if◌then◌else◌}
use Rattle.flow.specs.Nets.{here, after}

module _ {X : Type 0} (limit : X → ℕ) where
  -- the link has a limit above 0
  abbrev pub can_carry : X → Bool
  can_carry l = nat_lt 0 (limit l)

  -- the links with a limit above 0, in order
  abbrev pub trimmed : List X → List X
  trimmed ls = filter can_carry ls

  -- the flows dealt out to the links with a limit above 0, in order, and 0 to the others
  abbrev pub dealt : List X → List ℤ → List ℤ
  dealt [] fs = []
  dealt (l ∷ ls) fs = if can_carry l then here fs ∷ dealt ls (after fs) else pos 0 ∷ dealt ls fs
