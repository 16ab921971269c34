-- What lawful links give: ends that are cabinets, halves that double, and limits that a job may have.
use Rattle.std.proofs.Common.{◌≡◌, ℕ, suc, ◌+◌, ◌*◌, ◌/◌, ◌%◌, ◌<◌, ◌≤◌, List, [], ◌∷◌, map, length, get_or, sym, subst, mul-suc, arith}
use Rattle.std.proofs.lemmas.List.{length-map, get_or-map}
use Rattle.flow.specs.Ranges.{cabinets, most_slots, most_limit, most_fed}
use Rattle.flow.specs.Nets.{total, Inside}
use Rattle.flow.specs.Drawings.{Doubled}
use Rattle.engine.specs.declared.arc.Arc.{Arc}
use Rattle.engine.specs.Arcs.{Sound, AllSound}
use Rattle.plan.specs.Links.{LawfulLinks}
use Rattle.plan.specs.Halves.{half, half_arc}

-- a total of limits is at most as many times the greatest
total_most : {X : Type 0} (limit : X → ℕ) (m : ℕ) (ls : List X) → ((k : ℕ) (d : X) → k < length ls → limit (get_or ls k d) ≤ m) → total limit ls ≤ m * length ls
total_most limit m [] h = omega arith
total_most limit m (l ∷ ls) h = times m (length ls) (limit l) (total limit ls) (h 0 l (omega arith)) (total_most limit m ls (λ k d q. h (suc k) d (omega arith)))
  where
    times : (m n x t : ℕ) → x ≤ m → t ≤ m * n → x + t ≤ m * suc n
    times m n x t a b = omega (arith, mul-suc m n)

doubled : (n : ℕ) → n % 2 ≡ 0 → 2 * (n / 2) ≡ n
doubled n e = omega arith

halved_most : (n : ℕ) → n ≤ most_slots → n / 2 ≤ most_limit
halved_most n h = omega arith

module _ {X : Type 0} (low high capacity : X → ℕ) (ls : List X) (w : LawfulLinks low high capacity ls) where
  pub lawful_inside : Inside low high cabinets ls
  lawful_inside k d h = let l = w.each k d h in (l.low_in, l.high_in)

  pub lawful_doubled : Doubled (half capacity) capacity ls
  lawful_doubled k d h = doubled (capacity (get_or ls k d)) (w.each k d h).even

  pub lawful_few : total (half capacity) ls < most_fed
  lawful_few = omega (arith, total_most (half capacity) most_limit ls (λ k d h. halved_most (capacity (get_or ls k d)) (w.each k d h).bound), w.few)

  pub lawful_sound : AllSound (map (half_arc low high capacity) ls)
  lawful_sound k d h = by ls w k d h
    where
      by : (ls : List X) → LawfulLinks low high capacity ls → (k : ℕ) (d : Arc) → k < length (map (half_arc low high capacity) ls) → Sound (get_or (map (half_arc low high capacity) ls) k d)
      by [] w k d h = absurd (omega arith)
      by (l ∷ ls) w k d h =
          let q : k < length (l ∷ ls) = omega (arith, length-map (l ∷ ls) (half_arc low high capacity)) in
          let f = w.each k l q in
          subst Sound (sym (get_or-map (half_arc low high capacity) (l ∷ ls) k l d q)) (f.low_in, f.high_in, f.apart, halved_most (capacity (get_or (l ∷ ls) k l)) f.bound)
