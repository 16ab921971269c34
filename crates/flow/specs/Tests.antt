-- Computed tests on lists, cheap enough to evaluate over all cabinets; each decides its definition.
use Rattle.std.specs.Prelude.{ℕ, zero, suc, ◌+◌, Bool, true, false, not, ◌&&◌, ◌||◌, List, [], ◌∷◌, ℤ, pos, negsuc, ◌==◌, nat_le, unsigned_abs}
use Rattle.flow.specs.declared.pairs.Pairs.{Pairs}
use Rattle.flow.specs.Nets.{xor, here, after, net, side_slots}
use Rattle.flow.specs.Plans.{total_one, sum_of}

-- the test passes for every number below n
unfoldable pub all_below : ℕ → (ℕ → Bool) → Bool
all_below zero f = true
all_below (suc n) f = f n && all_below n f

-- two whole numbers are equal
abbrev pub equal : ℤ → ℤ → Bool
equal (pos m) (pos n) = m == n
equal (pos m) (negsuc n) = false
equal (negsuc m) (pos n) = false
equal (negsuc m) (negsuc n) = m == n

-- the two shares without sign add up to at most the link's slots
abbrev pub shares_fit : {X : Type 0} → (X → ℕ) → X → ℤ → ℤ → Bool
shares_fit capacity l f g = nat_le (unsigned_abs f + unsigned_abs g) (capacity l)

-- they do so on every link
unfoldable pub is_shared : {X : Type 0} → (X → ℕ) → List X → List ℤ → List ℤ → Bool
is_shared capacity [] fs gs = true
is_shared capacity (l ∷ ls) fs gs = shares_fit capacity l (here fs) (here gs) && is_shared capacity ls (after fs) (after gs)

-- the side holds source 1 and not goal 1
abbrev pub is_first_side : Pairs → (ℕ → Bool) → Bool
is_first_side p S = S p.source1 && not (S p.goal1)

-- the side holds source 1, not goal 1, and exactly one of source 2 and goal 2
abbrev pub is_sum_side : Pairs → (ℕ → Bool) → Bool
is_sum_side p S = is_first_side p S && xor (S p.source2) (S p.goal2)

module _ {X : Type 0} (low high : X → ℕ) where
  -- the net of the cabinet v is 0, or v is one of the stream's ends
  abbrev pub is_kept : ℕ → ℕ → List X → List ℤ → ℕ → Bool
  is_kept s t ls fs v = v == s || v == t || equal (net low high ls fs v) (pos 0)

  -- so it is in every cabinet
  unfoldable pub is_conserved : ℕ → ℕ → ℕ → List X → List ℤ → Bool
  is_conserved n s t ls fs = all_below n (is_kept s t ls fs)

  -- the plan is feasible
  abbrev pub is_feasible : (X → ℕ) → ℕ → Pairs → List X → List ℤ → List ℤ → Bool
  is_feasible capacity n p ls fs gs = is_shared capacity ls fs gs && is_conserved n p.source1 p.goal1 ls fs && is_conserved n p.source2 p.goal2 ls gs

  -- the plan is held with the two sides
  abbrev pub is_held : (X → ℕ) → ℕ → Pairs → List X → List ℤ → List ℤ → (cut first : ℕ → Bool) → Bool
  is_held capacity n p ls fs gs cut first = is_feasible capacity n p ls fs gs && is_sum_side p cut && is_first_side p first && equal (sum_of low high p ls fs gs) (pos (side_slots low high capacity cut ls)) && equal (total_one low high p ls fs) (pos (side_slots low high capacity first ls))
