-- A drawn plan is held with its two sides, whatever the engines answered, and its halves are the greatest.
use Rattle.std.proofs.Common.{◌≡◌, ℕ, ◌+◌, ◌-◌, ◌*◌, ◌<◌, ◌≤◌, min, Bool, true, false, ◌⊎◌, List, ℤ, pos, ◌+ℤ◌, ◌≤ℤ◌, sym, refl, ◌∙◌, subst, inl, inr, arith}
use Rattle.std.proofs.lemmas.Bool.{cases_eq, false≢true}
use Rattle.flow.specs.declared.pairs.Pairs.{Pairs}
use Rattle.flow.specs.Ranges.{cabinets, most_fed}
use Rattle.flow.specs.Nets.{xor, total, side_slots, Inside}
use Rattle.flow.specs.Plans.{Proper, SumSide, Feasible, Held, total_one, total_two}
use Rattle.flow.specs.Answers.{Within, fed}
use Rattle.flow.specs.Drawings.{Doubled, Carries, turned, made_side, SameSide, Drawn}
use Rattle.flow.specs.Laws.{Greatest}
use Rattle.flow.proofs.Sums.{whole}
use Rattle.flow.proofs.Duality.{sum_bound}
use Rattle.flow.proofs.Cuts.{slots_doubled, held_same}
use Rattle.flow.proofs.Halves.{halved_one, halved_two, halved_feasible}
use Rattle.flow.proofs.Planning.{turned_proper, unturned, carried_within, carried_one, all_carried, Floor, floor_fed, first_floor, none_cheaper, first_job, second_few, made_sum}

left_both : (a b c : ℕ) → a ≤ b → a ≤ c → (a + (min b c - a) ≤ b) × (a + (min b c - a) ≤ c)
left_both a b c h k = omega arith

filled : (x y : ℤ) (A B k h : ℕ) → x ≡ pos (2 * A) → y ≡ pos (2 * B) → h ≡ 2 * k → k ≤ A + B → (x +ℤ y) ≤ℤ pos h → x +ℤ y ≡ pos h
filled x y A B k h e f g l w = omega (arith, whole)

filled_one : (x : ℤ) (A k h : ℕ) → x ≡ pos (2 * A) → h ≡ 2 * k → k ≡ A → x ≡ pos h
filled_one x A k h e f g = omega (arith, whole)

full_half : (x y : ℤ) (A B k h : ℕ) → x ≡ pos (2 * A) → y ≡ pos (2 * B) → h ≡ 2 * k → x +ℤ y ≡ pos h → k ≡ A + B
full_half x y A B k h e f g w = omega (arith, whole)

module _ {X : Type 0} (low high capacity limit : X → ℕ) (p : Pairs) (ls : List X) (fs gs : List ℤ) (cut first : ℕ → Bool) (i : Inside low high cabinets ls) (pr : Proper cabinets p) (two : Doubled limit capacity ls) (few : total limit ls < most_fed) (d : Drawn low high limit p ls fs gs cut first) where
  floor : Floor low high limit cabinets ls i p (fed d.one)
  floor = first_floor low high limit cabinets ls i most_fed p d.one pr d.one_solved

  -- no job feeds less than the first, so what is left for stream 2 fits both ways
  fits : (fed d.one + d.second ≤ fed d.ahead) × (fed d.one + d.second ≤ fed d.behind)
  fits =
      subst (λ k. (fed d.one + k ≤ fed d.ahead) × (fed d.one + k ≤ fed d.behind)) (sym d.second_is)
      (left_both (fed d.one) (fed d.ahead) (fed d.behind) (floor_fed low high limit cabinets ls i p (fed d.one) most_fed d.ahead floor d.ahead_solved) (floor_fed low high limit cabinets ls i (turned p) (fed d.one) most_fed d.behind floor d.behind_solved))

  plus_carries : Carries low high cabinets p (fed d.one) d.second ls d.plus.flow
  plus_carries = all_carried low high limit cabinets ls i p (fed d.one) d.second d.plus pr (none_cheaper low high limit cabinets ls i most_fed p (fed d.one) d.second d.ahead pr floor d.ahead_solved fits.0) d.plus_solved

  minus_carries : Carries low high cabinets (turned p) (fed d.one) d.second ls d.minus.flow
  minus_carries = all_carried low high limit cabinets ls i (turned p) (fed d.one) d.second d.minus (turned_proper cabinets p pr) (none_cheaper low high limit cabinets ls i most_fed (turned p) (fed d.one) d.second d.behind (turned_proper cabinets p pr) floor d.behind_solved fits.1) d.minus_solved

  drawn_feasible : Feasible low high capacity cabinets p ls fs gs
  drawn_feasible = halved_feasible low high cabinets ls p pr (fed d.one) d.second d.plus.flow d.minus.flow fs gs d.shares plus_carries minus_carries limit capacity two d.plus_solved.within d.minus_solved.within

  pub drawn_one : total_one low high p ls fs ≡ pos (2 * fed d.one)
  drawn_one = halved_one low high cabinets ls p pr (fed d.one) d.second d.plus.flow d.minus.flow fs gs d.shares plus_carries minus_carries

  pub drawn_two : total_two low high p ls gs ≡ pos (2 * d.second)
  drawn_two = halved_two low high cabinets ls p pr (fed d.one) d.second d.plus.flow d.minus.flow fs gs d.shares plus_carries minus_carries

  first_side : (d.one.side p.source1 ≡ true) × (d.one.side p.goal1 ≡ false) × (side_slots low high limit d.one.side ls ≡ fed d.one)
  first_side = first_job low high limit cabinets ls i most_fed few p d.one pr d.one_solved

  -- one of the two ways round has a goal 1 apart from its source 2
  small : d.second < most_fed
  small = by (cases_eq p.goal1 p.source2)
    where
      by : (p.goal1 ≡ p.source2) ⊎ (p.goal1 ≡ p.source2 → ⊥) → d.second < most_fed
      by (inl e) = second_few low high limit cabinets ls i most_fed few (turned p) (fed d.one) d.second d.behind (turned_proper cabinets p pr) (λ q. pr.apart2 (sym e ∙ q)) d.behind_solved fits.1
      by (inr ne) = second_few low high limit cabinets ls i most_fed few p (fed d.one) d.second d.ahead pr ne d.ahead_solved fits.0

  -- held with any sum side that has at most the sum
  held_by : (G : ℕ → Bool) → SumSide p G → side_slots low high limit G ls ≤ fed d.one + d.second → Held low high capacity cabinets p ls fs gs G d.one.side
  held_by G c k =
      record {
        feasible = drawn_feasible;
        sum_side = c;
        first_side = record { holds = first_side.0; lacks = first_side.1 };
        sum_is = filled (total_one low high p ls fs) (total_two low high p ls gs) (fed d.one) d.second (side_slots low high limit G ls) (side_slots low high capacity G ls) drawn_one drawn_two (slots_doubled low high capacity limit G ls two) k (sum_bound low high capacity cabinets p ls fs gs i pr drawn_feasible G c);
        first_is = filled_one (total_one low high p ls fs) (fed d.one) (side_slots low high limit d.one.side ls) (side_slots low high capacity d.one.side ls) drawn_one (slots_doubled low high capacity limit d.one.side ls two) first_side.2;
      }

  held_ahead : fed d.one + d.second ≡ fed d.ahead → Held low high capacity cabinets p ls fs gs (made_side d.one.side d.ahead.side p) d.one.side
  held_ahead e =
      let g = made_sum low high limit cabinets ls i most_fed p (fed d.one) d.second d.one.side d.ahead.side small first_side.0 first_side.1 first_side.2 (floor d.ahead.side) (e ∙ d.ahead_solved.full) in
      held_by (made_side d.one.side d.ahead.side p) g.0 g.1

  held_behind : fed d.one + d.second ≡ fed d.behind → Held low high capacity cabinets p ls fs gs (made_side d.one.side d.behind.side (turned p)) d.one.side
  held_behind e =
      let g = made_sum low high limit cabinets ls i most_fed (turned p) (fed d.one) d.second d.one.side d.behind.side small first_side.0 first_side.1 first_side.2 (floor d.behind.side) (e ∙ d.behind_solved.full) in
      held_by (made_side d.one.side d.behind.side (turned p)) (unturned p (made_side d.one.side d.behind.side (turned p)) g.0) g.1

  pub drawn_held : Held low high capacity cabinets p ls fs gs cut first
  drawn_held = by d.cut_is
    where
      keep : (G : ℕ → Bool) → SameSide cut G → Held low high capacity cabinets p ls fs gs G d.one.side → Held low high capacity cabinets p ls fs gs cut first
      keep G s h = held_same low high capacity cabinets p ls fs gs G d.one.side cut first i pr (λ v l. sym (s v l)) (λ v l. sym (d.first_is v l)) h

      by : ((fed d.one + d.second ≡ fed d.ahead) × SameSide cut (made_side d.one.side d.ahead.side p)) ⊎ ((fed d.one + d.second ≡ fed d.behind) × SameSide cut (made_side d.one.side d.behind.side (turned p))) → Held low high capacity cabinets p ls fs gs cut first
      by (inl c) = keep (made_side d.one.side d.ahead.side p) c.1 (held_ahead c.0)
      by (inr c) = keep (made_side d.one.side d.behind.side (turned p)) c.1 (held_behind c.0)

  pub drawn_greatest : Greatest low high capacity limit p ls (fed d.one) d.second
  drawn_greatest = (λ x y w c. subst (λ k. x ≤ k) first_side.2 (carried_one low high limit cabinets ls i p x y pr w c d.one.side first_side.0 first_side.1), λ x y z wy wz cy cz. by x y z wy wz cy cz (cut p.source2) (cut p.goal2) refl refl drawn_held.sum_side.parts)
    where
      half : side_slots low high limit cut ls ≡ fed d.one + d.second
      half = full_half (total_one low high p ls fs) (total_two low high p ls gs) (fed d.one) d.second (side_slots low high limit cut ls) (side_slots low high capacity cut ls) drawn_one drawn_two (slots_doubled low high capacity limit cut ls two) drawn_held.sum_is

      more : (x k : ℕ) → k ≡ fed d.one + d.second → fed d.one + x ≤ k → x ≤ d.second
      more x k e h = omega (arith, e, h)

      by : (x : ℕ) (y z : List ℤ) → Within limit ls y → Within limit ls z → Carries low high cabinets p (fed d.one) x ls y → Carries low high cabinets (turned p) (fed d.one) x ls z → (a b : Bool) → cut p.source2 ≡ a → cut p.goal2 ≡ b → xor a b ≡ true → x ≤ d.second
      by x y z wy wz cy cz true true ea eb t = absurd (false≢true t)
      by x y z wy wz cy cz true false ea eb t = more x (side_slots low high limit cut ls) half (carried_within low high limit cabinets ls i p (fed d.one) x y pr wy cy cut drawn_held.sum_side.holds ea drawn_held.sum_side.lacks eb)
      by x y z wy wz cy cz false true ea eb t = more x (side_slots low high limit cut ls) half (carried_within low high limit cabinets ls i (turned p) (fed d.one) x z (turned_proper cabinets p pr) wz cz cut drawn_held.sum_side.holds eb drawn_held.sum_side.lacks ea)
      by x y z wy wz cy cz false false ea eb t = absurd (false≢true t)
