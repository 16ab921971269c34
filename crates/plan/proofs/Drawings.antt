-- A drawing over the links of its jobs is one over the links of the mesh; and the three jobs and two flows that make one.
use Rattle.std.proofs.Common.{◌≡◌, ℕ, ◌+◌, ◌-◌, ◌≤◌, min, Bool, ◌⊎◌, List, map, length, take, ℤ, pos, sym, ap, ◌∙◌, subst, ap₂, inl, inr, arith}
use Rattle.std.proofs.lemmas.List.{length-map, get_or-take}
use Rattle.flow.specs.declared.pairs.Pairs.{Pairs}
use Rattle.flow.specs.Ranges.{cabinets, most_fed}
use Rattle.flow.specs.Nets.{members, Inside}
use Rattle.flow.specs.Plans.{Proper, Held}
use Rattle.flow.specs.Answers.{Answer, fed}
use Rattle.flow.specs.Drawings.{turned, ends_of, both_of, Answered, made_side, SameSide, Halved, Drawn}
use Rattle.flow.proofs.Maps.{solves_mapped}
use Rattle.flow.proofs.Planning.{Floor, first_floor, floor_fed}
use Rattle.flow.proofs.Drawing.{drawn_held}
use Rattle.engine.specs.declared.arc.Arc.{Arc}
use Rattle.engine.specs.Arcs.{tail_of, head_of, limit_of, AllSound}
use Rattle.engine.proofs.Arcs.{sound_inside}
use Rattle.plan.specs.Links.{LawfulLinks}
use Rattle.plan.specs.Halves.{half, half_arc, Bounds, MadeOf, Flows, DrawnFlows}
use Rattle.plan.proofs.Lawful.{lawful_inside, lawful_doubled, lawful_few}

-- ---- what was drawn over the links of the jobs
module _ (p : Pairs) (ls : List Arc) (sound : AllSound ls) (pr : Proper cabinets p) (x : ℕ) (first : List Bool) (one : Bounds p most_fed 0 ls x first) where
  inside : Inside tail_of head_of cabinets ls
  inside = sound_inside ls sound

  floor : Floor tail_of head_of limit_of cabinets ls inside p (fed one.solution)
  floor = first_floor tail_of head_of limit_of cabinets ls inside most_fed p one.solution pr one.solved

  at_x : (q : Pairs) (y : ℕ) (r : Answer) → Answered tail_of head_of limit_of cabinets q x y ls r → Answered tail_of head_of limit_of cabinets q (fed one.solution) y ls r
  at_x q y r s = subst (λ (n : ℕ). Answered tail_of head_of limit_of cabinets q n y ls r) (sym one.total_is) s

  level : (a b c d : ℕ) → a ≡ b → c ≡ d → a ≤ c → b ≤ d
  level a b c d e f h = omega arith

  -- beside stream 2, either way round, no less is fed than with stream 1 alone
  pub no_less_ahead : (v : ℕ) (S : List Bool) → Bounds p x most_fed ls v S → x ≤ v
  no_less_ahead v S b = level _ _ _ _ one.total_is b.total_is (floor_fed tail_of head_of limit_of cabinets ls inside p (fed one.solution) most_fed b.solution floor (at_x p most_fed b.solution b.solved))

  pub no_less_behind : (v : ℕ) (S : List Bool) → Bounds (turned p) x most_fed ls v S → x ≤ v
  no_less_behind v S b = level _ _ _ _ one.total_is b.total_is (floor_fed tail_of head_of limit_of cabinets ls inside (turned p) (fed one.solution) most_fed b.solution floor (at_x (turned p) most_fed b.solution b.solved))

  full_low : (a v w z s : ℕ) → a ≡ x → z ≡ v → x ≤ v → v ≤ w → s ≡ min v w - x → a + s ≡ z
  full_low a v w z s ea ez h k e = omega arith

  full_high : (a v w z s : ℕ) → a ≡ x → z ≡ w → x ≤ w → w ≤ v → s ≡ min v w - x → a + s ≡ z
  full_high a v w z s ea ez h k e = omega arith

  module _ (v w y : ℕ) (full turned_full cut : List Bool) (ahead : Bounds p x most_fed ls v full) (behind : Bounds (turned p) x most_fed ls w turned_full) (rest : y ≡ min v w - x) where
    made : (q : Pairs) (F S : ℕ → Bool) (R : List Bool) → F ≡ members first → S ≡ members R → SameSide (members cut) (made_side (members first) (members R) q) → SameSide (members cut) (made_side F S q)
    made q F S R ef es s k h = s k h ∙ sym (ap₂ (λ (A B : ℕ → Bool). made_side A B q k) ef es)

    chosen : MadeOf p v w first full turned_full cut → ((fed one.solution + y ≡ fed ahead.solution) × SameSide (members cut) (made_side one.solution.side ahead.solution.side p)) ⊎ ((fed one.solution + y ≡ fed behind.solution) × SameSide (members cut) (made_side one.solution.side behind.solution.side (turned p)))
    chosen (inl c) = inl (full_low _ v w _ y one.total_is ahead.total_is (no_less_ahead v full ahead) c.0 rest, made p one.solution.side ahead.solution.side full one.side_is ahead.side_is c.1)
    chosen (inr c) = inr (full_high _ v w _ y one.total_is behind.total_is (no_less_behind w turned_full behind) c.0 rest, made (turned p) one.solution.side behind.solution.side turned_full one.side_is behind.side_is c.1)

    pub drawn_by : (ys zs : List ℤ) → Flows p x y ls ys → Flows (turned p) x y ls zs → MadeOf p v w first full turned_full cut → DrawnFlows p ls ys zs cut first
    drawn_by ys zs plus minus c fs gs shares =
        record {
          one = one.solution;
          one_solved = one.solved;
          ahead = ahead.solution;
          ahead_solved = at_x p most_fed ahead.solution ahead.solved;
          behind = behind.solution;
          behind_solved = at_x (turned p) most_fed behind.solution behind.solved;
          second = y;
          second_is = rest ∙ ap₂ ◌-◌ (ap₂ min (sym ahead.total_is) (sym behind.total_is)) (sym one.total_is);
          plus = plus.solution;
          plus_solved = at_x p y plus.solution plus.solved;
          minus = minus.solution;
          minus_solved = at_x (turned p) y minus.solution minus.solved;
          shares = subst (λ (f : List ℤ). Halved (length ls) f minus.solution.flow fs gs) (sym plus.flow_is) (subst (λ (g : List ℤ). Halved (length ls) ys g fs gs) (sym minus.flow_is) shares);
          first_is = λ k l. sym (ap (λ (S : ℕ → Bool). S k) one.side_is);
          cut_is = chosen c;
        }

-- ---- the same over the links of the mesh
module _ {X : Type 0} (low high capacity : X → ℕ) (p : Pairs) (ls : List X) where
  on_links : (q : Pairs) (x y : ℕ) (r : Answer) → Answered tail_of head_of limit_of cabinets q x y (map (half_arc low high capacity) ls) r → Answered low high (half capacity) cabinets q x y ls r
  on_links q x y r s = solves_mapped (half_arc low high capacity) tail_of head_of limit_of cabinets ls (ends_of q) (both_of x y) r s

  -- the shares stand at the front of two lists
  pub drawn_over : (fs gs : List ℤ) (cut first : ℕ → Bool) → Drawn tail_of head_of limit_of p (map (half_arc low high capacity) ls) fs gs cut first → Drawn low high (half capacity) p ls (take (length ls) fs) (take (length ls) gs) cut first
  drawn_over fs gs cut first d =
      record {
        one = d.one;
        one_solved = on_links p most_fed 0 d.one d.one_solved;
        ahead = d.ahead;
        ahead_solved = on_links p (fed d.one) most_fed d.ahead d.ahead_solved;
        behind = d.behind;
        behind_solved = on_links (turned p) (fed d.one) most_fed d.behind d.behind_solved;
        second = d.second;
        second_is = d.second_is;
        plus = d.plus;
        plus_solved = on_links p (fed d.one) d.second d.plus d.plus_solved;
        minus = d.minus;
        minus_solved = on_links (turned p) (fed d.one) d.second d.minus d.minus_solved;
        shares = λ k h.
            let s = d.shares k (omega (arith, length-map ls (half_arc low high capacity))) in
            (get_or-take (length ls) fs k (pos 0) h ∙ s.0, get_or-take (length ls) gs k (pos 0) h ∙ s.1);
        first_is = d.first_is;
        cut_is = d.cut_is;
      }

  pub lawful_held : (fs gs : List ℤ) (cut first : ℕ → Bool) → LawfulLinks low high capacity ls → Proper cabinets p → Drawn low high (half capacity) p ls fs gs cut first → Held low high capacity cabinets p ls fs gs cut first
  lawful_held fs gs cut first w pr d =
      drawn_held low high capacity (half capacity) p ls fs gs cut first (lawful_inside low high capacity ls w) pr (lawful_doubled low high capacity ls w) (lawful_few low high capacity ls w) d
