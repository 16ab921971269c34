-- Heights stay valid under a push along an admissible way, under a lift to just above the lowest open way, and where all above a gap are raised.
use Rattle.std.proofs.Common.{◌≡◌, ℕ, ◌+◌, ◌<◌, ◌≤◌, max, true, ltb, leb, List, length, get_or, set, ℤ, pos, sym, ap, ◌∙◌, subst, inl, inr, ⊎_elim, arith}
use Rattle.std.proofs.lemmas.List.{get_or-set_same, get_or-set_other}
use Rattle.std.proofs.lemmas.Bool.{cond_both, ltb-true, ltb-false, cases_eq}
use Rattle.flow.specs.declared.taps.Taps.{Taps}
use Rattle.flow.specs.Ranges.{cabinets}
use Rattle.flow.specs.Answers.{Placed}
use Rattle.search.specs.Graphs.{Step, touches, across}
use Rattle.search.proofs.Meshes.{across_first, across_second, touch_cases}
use Rattle.engine.specs.declared.arc.Arc.{Arc}
use Rattle.engine.specs.Arcs.{blank, AllSound}
use Rattle.residual.specs.Meshes.{mesh_of, ahead, room_on, residual}
use Rattle.preflow.specs.Heights.{high, Empty, over_top, Raised, Valid, ValidFeed, ValidDrain}
use Rattle.preflow.specs.Ways.{Least}

-- a step leads from one cabinet to another
module _ (ls : List Arc) (sound : AllSound ls) (u l : ℕ) (h : l < length ls) (t : touches (mesh_of ls) u l ≡ true) where
  pub step_ends : (u < cabinets) × (across (mesh_of ls) u l < cabinets) × (u ≡ across (mesh_of ls) u l → ⊥)
  step_ends =
      let s = sound l blank h in
      elim (touch_cases (mesh_of ls) u l t) [
        | inl e ↦
            let far = across_first (mesh_of ls) u l e in
            (subst (λ x. x < cabinets) e s.0, subst (λ x. x < cabinets) (sym far) s.1, λ q. s.2 (e ∙ q ∙ far))
        | inr e ↦
            let far = across_second (mesh_of ls) u l (λ q. s.2 (q ∙ sym e)) in
            (subst (λ x. x < cabinets) e s.1, subst (λ x. x < cabinets) (sym far) s.0, λ q. s.2 (sym far ∙ sym q ∙ sym e))
      ]

-- the ends of a link stand at most one apart
abbrev Near : List Arc → List ℕ → ℕ → Type 0
Near ls hs l = (high hs (get_or ls l blank).tail ≤ high hs (get_or ls l blank).head + 1) × (high hs (get_or ls l blank).head ≤ high hs (get_or ls l blank).tail + 1)

module _ (ls : List Arc) (sound : AllSound ls) (hs : List ℕ) (l : ℕ) (h : l < length ls) where
  apart : (get_or ls l blank).tail ≡ (get_or ls l blank).head → ⊥
  apart = (sound l blank h).2

  near_of : (v : ℕ) → touches (mesh_of ls) v l ≡ true → high hs v ≡ high hs (across (mesh_of ls) v l) + 1 → Near ls hs l
  near_of v t e = elim (touch_cases (mesh_of ls) v l t) [
    | inl q ↦ let far = ap (high hs) (across_first (mesh_of ls) v l q) in let own = ap (high hs) q in (omega arith, omega arith)
    | inr q ↦ let far = ap (high hs) (across_second (mesh_of ls) v l (λ p. apart (p ∙ sym q))) in let own = ap (high hs) q in (omega arith, omega arith)
  ]

  of_near : (u : ℕ) → touches (mesh_of ls) u l ≡ true → Near ls hs l → high hs u ≤ high hs (across (mesh_of ls) u l) + 1
  of_near u t n =
      let a = n.0 in
      let b = n.1 in
      elim (touch_cases (mesh_of ls) u l t) [
        | inl q ↦ let far = ap (high hs) (across_first (mesh_of ls) u l q) in let own = ap (high hs) q in omega arith
        | inr q ↦ let far = ap (high hs) (across_second (mesh_of ls) u l (λ p. apart (p ∙ sym q))) in let own = ap (high hs) q in omega arith
      ]

-- whatever the flow on a link becomes whose ends stand one apart
pub pushed_over : (ls : List Arc) (sound : AllSound ls) (fs : List ℤ) (hs : List ℕ) → ((u l : ℕ) → Step (residual ls fs 1) u l → high hs u ≤ high hs (across (mesh_of ls) u l) + 1) → (v l : ℕ) (y : ℤ) → l < length ls → touches (mesh_of ls) v l ≡ true → high hs v ≡ high hs (across (mesh_of ls) v l) + 1 → (u k : ℕ) → Step (residual ls (set fs l y) 1) u k → high hs u ≤ high hs (across (mesh_of ls) u k) + 1
pushed_over ls sound fs hs valid v l y h t down u k step =
    ⊎_elim
    (λ (e : k ≡ l).
    subst (λ j. high hs u ≤ high hs (across (mesh_of ls) u j) + 1) (sym e)
    (of_near ls sound hs l h u (subst (λ j. touches (mesh_of ls) u j ≡ true) e step.touching) (near_of ls sound hs l h v t down)))
    (λ (ne : k ≡ l → ⊥).
    valid u k (record {
      listed = step.listed;
      touching = step.touching;
      clear = ap (λ f. leb 1 (room_on (get_or ls k blank).limit f (ahead ls u k))) (sym (get_or-set_other fs l k y (pos 0) ne)) ∙ step.clear;
    }))
    (cases_eq k l)

module _ (hs : List ℕ) (v m : ℕ) (long : v < length hs) (up : high hs v ≤ m) where
  pub lifted_here : (w : ℕ) → w ≡ v → high (set hs v m) w ≡ m
  lifted_here w e = ap (λ j. high (set hs v m) j) e ∙ get_or-set_same hs v m 0 long

  pub lifted_there : (w : ℕ) → (w ≡ v → ⊥) → high (set hs v m) w ≡ high hs w
  lifted_there w ne = get_or-set_other hs v w m 0 ne

  -- from u to w, where the step out of v is no deeper than m
  one_way : (u w : ℕ) → (u ≡ w → ⊥) → high hs u ≤ high hs w + 1 → (u ≡ v → m ≤ high hs w + 1) → high (set hs v m) u ≤ high (set hs v m) w + 1
  one_way u w apart valid lift =
      ⊎_elim
      (λ (e : u ≡ v). omega (arith, lifted_here u e, lifted_there w (λ q. apart (e ∙ sym q)), lift e))
      (λ (ne : u ≡ v → ⊥).
      ⊎_elim
      (λ (q : w ≡ v). let same : high hs w ≡ high hs v = ap (high hs) q in omega (arith, lifted_there u ne, lifted_here w q))
      (λ (nq : w ≡ v → ⊥). omega (arith, lifted_there u ne, lifted_there w nq))
      (cases_eq w v))
      (cases_eq u v)

  lifted_feed : (c most amount : ℕ) → (c ≡ v → 0 < amount → m ≤ 67) → ValidFeed c most amount hs → ValidFeed c most amount (set hs v m)
  lifted_feed c most amount least valid =
      ⊎_elim
      (λ (e : c ≡ v).
      let was : high hs c ≡ high hs v = ap (high hs) e in
      ((λ h. omega (arith, lifted_here c e, least e h)), (λ h. omega (arith, lifted_here c e, valid.1 h))))
      (λ (ne : c ≡ v → ⊥). ((λ h. omega (arith, lifted_there c ne, valid.0 h)), (λ h. omega (arith, lifted_there c ne, valid.1 h))))
      (cases_eq c v)

  lifted_drain : (c most amount : ℕ) → (c ≡ v → amount < most → m ≤ 1) → ValidDrain c most amount hs → ValidDrain c most amount (set hs v m)
  lifted_drain c most amount least valid h =
      ⊎_elim
      (λ (e : c ≡ v). omega (arith, lifted_here c e, least e h))
      (λ (ne : c ≡ v → ⊥). omega (arith, lifted_there c ne, valid h))
      (cases_eq c v)

  pub valid_lifted : (ls : List Arc) (at most amount : Taps ℕ) (fs : List ℤ) → AllSound ls → Least ls at most amount fs hs v m → Valid ls at most amount fs hs → Valid ls at most amount fs (set hs v m)
  valid_lifted ls at most amount fs sound least valid =
      record {
        over = λ u l step.
            one_way u (across (mesh_of ls) u l) (step_ends ls sound u l step.listed step.touching).2 (valid.over u l step)
            (λ e. subst (λ x. Step (residual ls fs 1) x l → m ≤ high hs (across (mesh_of ls) x l) + 1) (sym e) (least.over l) step);
        feed1 = lifted_feed at.feed1 most.feed1 amount.feed1 least.feed1 valid.feed1;
        feed2 = lifted_feed at.feed2 most.feed2 amount.feed2 least.feed2 valid.feed2;
        drain1 = lifted_drain at.drain1 most.drain1 amount.drain1 least.drain1 valid.drain1;
        drain2 = lifted_drain at.drain2 most.drain2 amount.drain2 least.drain2 valid.drain2;
      }

-- a height past the gap is at least 67, and the others stay
over_top_most : (k h m : ℕ) → h ≤ m → 67 ≤ m → over_top k h ≤ m
over_top_most k h m le top = cond_both (ltb k h) (max h 67) h (λ x. x ≤ m) (λ _. omega arith) (λ _. le)

pub over_top_least : (k h : ℕ) → h ≤ over_top k h
over_top_least k h = cond_both (ltb k h) (max h 67) h (λ x. h ≤ x) (λ _. omega arith) (λ _. omega arith)

over_top_low : (k h m : ℕ) → h ≤ m → m ≤ k → over_top k h ≤ m
over_top_low k h m le lo = cond_both (ltb k h) (max h 67) h (λ x. x ≤ m) (λ e. absurd (omega (arith, ltb-true k h e))) (λ _. le)

over_top_step : (k a b : ℕ) → a ≤ b + 1 → (b ≡ k → ⊥) → over_top k a ≤ over_top k b + 1
over_top_step k a b le ne =
    cond_both (ltb k a) (max a 67) a (λ x. x ≤ over_top k b + 1)
    (λ e. cond_both (ltb k b) (max b 67) b (λ y. max a 67 ≤ y + 1) (λ _. omega arith) (λ f. absurd (omega (arith, ltb-true k a e, ltb-false k b f))))
    (λ _. omega (arith, over_top_least k b))

module _ (k : ℕ) (hs after : List ℕ) (lo : 1 ≤ k) (gap : Empty hs k) (raised : Raised k hs after) where
  raised_feed : (c most amount : ℕ) → c < cabinets → ValidFeed c most amount hs → ValidFeed c most amount after
  raised_feed c most amount c_in valid = (
    (λ h. omega (arith, raised c c_in, over_top_most k (high hs c) 67 (valid.0 h) (omega arith))),
    (λ h. omega (arith, raised c c_in, over_top_least k (high hs c), valid.1 h)),
  )

  raised_drain : (c most amount : ℕ) → c < cabinets → ValidDrain c most amount hs → ValidDrain c most amount after
  raised_drain c most amount c_in valid h = omega (arith, raised c c_in, over_top_low k (high hs c) 1 (valid h) lo)

  pub valid_raised : (ls : List Arc) (at most amount : Taps ℕ) (fs : List ℤ) → AllSound ls → Placed cabinets at → Valid ls at most amount fs hs → Valid ls at most amount fs after
  valid_raised ls at most amount fs sound placed valid =
      record {
        over = λ u l step.
            let ends = step_ends ls sound u l step.listed step.touching in
            omega (arith, raised u ends.0, raised (across (mesh_of ls) u l) ends.1, over_top_step k (high hs u) (high hs (across (mesh_of ls) u l)) (valid.over u l step) (gap (across (mesh_of ls) u l) ends.1));
        feed1 = raised_feed at.feed1 most.feed1 amount.feed1 placed.0 valid.feed1;
        feed2 = raised_feed at.feed2 most.feed2 amount.feed2 placed.1 valid.feed2;
        drain1 = raised_drain at.drain1 most.drain1 amount.drain1 placed.2 valid.drain1;
        drain2 = raised_drain at.drain2 most.drain2 amount.drain2 placed.3 valid.drain2;
      }

  pub raised_most : (m : ℕ) → 67 ≤ m → ((w : ℕ) → w < cabinets → high hs w ≤ m) → (w : ℕ) → w < cabinets → high after w ≤ m
  raised_most m top low w h = omega (arith, raised w h, over_top_most k (high hs w) m (low w h) top)
