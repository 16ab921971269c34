-- A relabel keeps a preflow with valid heights, stays below the bound, and takes from the measure.
use Rattle.std.proofs.Common.{◌≡◌, ℕ, suc, ◌<◌, ◌≤◌, List, [], ◌∷◌, length, get_or, set, ℤ, sum, sym, refl, ◌∙◌, subst, inl, inr, ⊎_elim, arith}
use Rattle.std.specs.List.{AllByRecursion}
use Rattle.std.proofs.lemmas.List.{length-set}
use Rattle.std.proofs.lemmas.List.Sums.{sum_by-cons, sum_by-set}
use Rattle.std.proofs.ByRecursion.{sum_by_le, All-from_get_or}
use Rattle.std.proofs.lemmas.Bool.{cases_eq}
use Rattle.flow.specs.declared.taps.Taps.{Taps}
use Rattle.flow.specs.Ranges.{cabinets}
use Rattle.engine.specs.declared.arc.Arc.{Arc}
use Rattle.preflow.specs.Heights.{high, Low, Empty, Raised, Relabeled, Valid}
use Rattle.preflow.specs.Ways.{Least}
use Rattle.preflow.specs.States.{Labeled, measure}
use Rattle.preflow.proofs.Gaps.{not_high}
use Rattle.preflow.proofs.Labels.{valid_lifted, lifted_here, lifted_there, over_top_least, valid_raised, raised_most}
use Rattle.preflow.proofs.Parts.{dot_most}
use Rattle.preflow.proofs.Pushes.{sum_small}

sum_rises : (xs ys : List ℕ) → length xs ≡ length ys → ((i : ℕ) → i < length xs → get_or xs i 0 ≤ get_or ys i 0) → sum xs ≤ sum ys
sum_rises [] ys e h = omega arith
sum_rises (x ∷ xs) [] e h = absurd (omega arith)
sum_rises (x ∷ xs) (y ∷ ys) e h =
    omega (arith, sum_by-cons (λ n. n) x xs, sum_by-cons (λ n. n) y ys, h 0 (omega arith), sum_rises xs ys (omega arith) (λ i l. h (suc i) (omega arith)))

-- the same preflow with other heights
other_heights : (ls : List Arc) (at most amount : Taps ℕ) (fs : List ℤ) (ex hs after : List ℕ) → Labeled ls at most amount fs ex hs → length after ≡ cabinets → Valid ls at most amount fs after → Low after → Labeled ls at most amount fs ex after
other_heights ls at most amount fs ex hs after s tall valid low =
    record {
      fits = s.fits;
      room = s.room;
      wide = s.wide;
      tall = tall;
      within = s.within;
      amounts = s.amounts;
      excess = s.excess;
      total = s.total;
      valid = valid;
      low = low;
    }

-- where the heights rise, the measure falls
heights_fall : (ls : List Arc) (at most amount : Taps ℕ) (fs : List ℤ) (ex hs after : List ℕ) → Labeled ls at most amount fs ex after → sum hs < sum after → measure ex after < measure ex hs
heights_fall ls at most amount fs ex hs after s up =
    let all : AllByRecursion (λ h. h ≤ 130) after = All-from_get_or (λ h. h ≤ 130) after 0 (λ i l. omega (arith, s.low i (omega (arith, s.tall)))) in
    omega (arith, up, sum_by_le (λ x. x) 130 after all, s.tall, dot_most 130 ex after all, sum_small ls at most amount fs ex after s)

module _ (ls : List Arc) (at most amount : Taps ℕ) (fs : List ℤ) (ex hs : List ℕ) (s : Labeled ls at most amount fs ex hs) (v m : ℕ) (v_in : v < cabinets) (active : 0 < get_or ex v 0) (up : high hs v < m) (least : Least ls at most amount fs hs v m) where
  long : v < length hs
  long = omega (arith, s.tall)

  le : high hs v ≤ m
  le = omega arith

  valid : Valid ls at most amount fs (set hs v m)
  valid = valid_lifted hs v m long le ls at most amount fs s.fits.sound least s.valid

  tall : length (set hs v m) ≡ cabinets
  tall = length-set hs v m ∙ s.tall

  low_m : m ≤ 130
  low_m = omega (arith, lifted_here hs v m long le v refl, not_high ls at most amount s.fits fs ex (set hs v m) s.excess valid v v_in tall active)

  lifted : Labeled ls at most amount fs ex (set hs v m)
  lifted =
      other_heights ls at most amount fs ex hs (set hs v m) s tall valid
      (λ w l. ⊎_elim (λ (e : w ≡ v). omega (arith, lifted_here hs v m long le w e, low_m)) (λ (ne : w ≡ v → ⊥). omega (arith, lifted_there hs v m long le w ne, s.low w l)) (cases_eq w v))

  -- a way out of v goes down from 130 at most
  pub lifted_most : m ≤ 130
  lifted_most = low_m

  sum_up : sum hs < sum (set hs v m)
  sum_up = omega (arith, sum_by-set (λ x. x) hs v m 0 long)

  module _ (k : ℕ) (after : List ℕ) (lo : 1 ≤ k) (gap : Empty (set hs v m) k) (raised : Raised k (set hs v m) after) (long' : length after ≡ cabinets) where
    raised_labeled : Labeled ls at most amount fs ex after
    raised_labeled =
        other_heights ls at most amount fs ex (set hs v m) after lifted long' (valid_raised k (set hs v m) after lo gap raised ls at most amount fs s.fits.sound s.fits.placed valid)
        (λ w l. omega (arith, raised_most k (set hs v m) after lo gap raised 130 (omega arith) (λ u h. omega (arith, lifted.low u h)) w l))

    raised_up : sum hs < sum after
    raised_up =
        omega (arith, sum_up, sum_rises (set hs v m) after (tall ∙ sym long') (λ i l. omega (arith, raised i (omega (arith, tall)), over_top_least k (high (set hs v m) i))))

  pub relabeled : (after : List ℕ) → length after ≡ cabinets → Relabeled hs v m after → Labeled ls at most amount fs ex after × (measure ex after < measure ex hs)
  relabeled after long' (inl e) = subst (λ (xs : List ℕ). Labeled ls at most amount fs ex xs × (measure ex xs < measure ex hs)) (sym e) (lifted, heights_fall ls at most amount fs ex hs (set hs v m) lifted sum_up)
  relabeled after long' (inr r) =
      let new = raised_labeled r.0 after r.1 r.2 r.3 long' in
      (new, heights_fall ls at most amount fs ex hs after new (raised_up r.0 after r.1 r.2 r.3 long'))
