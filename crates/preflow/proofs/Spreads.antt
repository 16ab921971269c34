-- The backward search from the drains, level by level, before anything flows.
use Rattle.std.proofs.Common.{◌≡◌, ℕ, ◌+◌, ◌<◌, ◌≤◌, Bool, true, false, eqb, leb, List, [], length, get_or, take, replicate, ℤ, pos, sym, refl, ap, ◌∙◌, subst, inl, inr, arith}
use Rattle.std.specs.List.{AllByRecursion}
use Rattle.std.proofs.lemmas.List.{get_or-replicate}
use Rattle.std.proofs.ByRecursion.{All-more, All-weaker}
use Rattle.std.proofs.lemmas.Bool.{leb-true, eq-eqb, or_left, or_right}
use Rattle.flow.specs.declared.taps.Taps.{Taps}
use Rattle.flow.specs.Ranges.{cabinets}
use Rattle.flow.proofs.Sums.{whole}
use Rattle.search.specs.Graphs.{Step, touches, across, incident}
use Rattle.search.proofs.Meshes.{across_first, across_second, touch_cases, incident_complete}
use Rattle.engine.specs.declared.arc.Arc.{Arc}
use Rattle.engine.specs.Arcs.{blank, AllSound}
use Rattle.residual.specs.Meshes.{mesh_of, ahead, room_on, free, residual}
use Rattle.preflow.specs.Heights.{high, Valid}
use Rattle.preflow.specs.Starts.{begun, Still, Into, Lowered, Settled, Distances}

module _ (k : ℕ) where
  pub lowered_le : (hs after : List ℕ) → Lowered k hs after → (w : ℕ) → w < cabinets → high after w ≤ high hs w
  lowered_le hs after h w l = elim (h w l) [
    | inl e ↦ omega arith
    | inr e ↦ omega (arith, e.0, e.1)
  ]

  pub lowered_then : (hs mid after : List ℕ) → Lowered k hs mid → Lowered k mid after → Lowered k hs after
  lowered_then hs mid after h g w l = elim (g w l) [
    | inl e ↦ elim (h w l) [
      | inl f ↦ inl (e ∙ f)
      | inr f ↦ inr (e ∙ f.0, f.1)
    ]
    | inr e ↦ inr (e.0, omega (arith, e.1, lowered_le hs mid h w l))
  ]

-- the other end of a link is an end of it, and its other end is the first
across_back : (ls : List Arc) → AllSound ls → (u l : ℕ) → l < length ls → touches (mesh_of ls) u l ≡ true → (touches (mesh_of ls) (across (mesh_of ls) u l) l ≡ true) × (across (mesh_of ls) (across (mesh_of ls) u l) l ≡ u)
across_back ls sound u l h t =
    let x : ℕ = (get_or ls l blank).tail in
    let y : ℕ = (get_or ls l blank).head in
    let apart : (get_or ls l blank).tail ≡ (get_or ls l blank).head → ⊥ = (sound l blank h).2 in
    let Both : ℕ → Type 0 = λ w. (touches (mesh_of ls) w l ≡ true) × (across (mesh_of ls) w l ≡ u) in
    elim (touch_cases (mesh_of ls) u l t) [
      | inl e ↦ subst Both (sym (across_first (mesh_of ls) u l e)) (or_right (eqb x y) (eqb y y) (eq-eqb y y refl), across_second (mesh_of ls) y l apart ∙ e)
      | inr e ↦ subst Both (sym (across_second (mesh_of ls) u l (λ q. apart (q ∙ sym e)))) (or_left (eqb x x) (eqb y x) (eq-eqb x x refl), across_first (mesh_of ls) x l refl ∙ e)
    ]

-- before anything flows a link has its limit free
free_none : (n : ℕ) (b : Bool) → room_on n (pos 0) b ≡ n
free_none n true = omega (arith, whole)
free_none n false = omega (arith, whole)

module _ (ls : List Arc) (sound : AllSound ls) where
  -- what holds of the links of a row holds of all steps into its cabinet
  pub into_row : (hs : List ℕ) (v m : ℕ) → AllByRecursion (λ l. 0 < (get_or ls l blank).limit → high hs (across (mesh_of ls) v l) ≤ m) (incident (mesh_of ls) v) → Into ls hs v m
  into_row hs v m all u l step e =
      let back = across_back ls sound u l step.listed step.touching in
      let near = incident_complete (mesh_of ls) v (λ k. 0 < (get_or ls k blank).limit → high hs (across (mesh_of ls) v k) ≤ m) all l step.listed (subst (λ w. touches (mesh_of ls) w l ≡ true) e back.0) (omega (arith, leb-true 1 (free ls [] u l) step.clear, free_none (get_or ls l blank).limit (ahead ls u l))) in
      omega (arith, near, ap (high hs) (subst (λ w. across (mesh_of ls) w l ≡ u) e back.1))

  -- one link more of a row
  pub row_more : (hs after row : List ℕ) (v m i : ℕ) → i < length row → Lowered m hs after → AllByRecursion (λ l. (l < length ls) × (0 < (get_or ls l blank).limit → high hs (across (mesh_of ls) v l) ≤ m)) (take i row) → get_or row i 0 < length ls → touches (mesh_of ls) v (get_or row i 0) ≡ true → ((l : ℕ) → l < length ls → across (mesh_of ls) v l < cabinets) → (0 < (get_or ls (get_or row i 0) blank).limit → high after (across (mesh_of ls) v (get_or row i 0)) ≤ m) → AllByRecursion (λ l. (l < length ls) × (0 < (get_or ls l blank).limit → high after (across (mesh_of ls) v l) ≤ m)) (take (i + 1) row)
  row_more hs after row v m i h low seen listed t in_range here =
      All-more (λ l. (l < length ls) × (0 < (get_or ls l blank).limit → high after (across (mesh_of ls) v l) ≤ m)) row i 0 h
      (All-weaker (λ l. (l < length ls) × (0 < (get_or ls l blank).limit → high hs (across (mesh_of ls) v l) ≤ m)) (λ l. (l < length ls) × (0 < (get_or ls l blank).limit → high after (across (mesh_of ls) v l) ≤ m)) (λ l p. (p.0, λ some. omega (arith, p.1 some, lowered_le m hs after low (across (mesh_of ls) v l) (in_range l p.0)))) (take i row) seen)
      (listed, here)

  module _ (at most : Taps ℕ) (placed_1 : at.drain1 < cabinets) (placed_2 : at.drain2 < cabinets) where
    -- the drains at 1, all others at 67
    pub settled_none : (hs : List ℕ) → Lowered 1 (replicate 64 67) hs → (0 < most.drain1 → high hs at.drain1 ≤ 1) → (0 < most.drain2 → high hs at.drain2 ≤ 1) → Settled ls at most hs 1
    settled_none hs low d1 d2 =
        record {
          top = λ w h. omega (arith, lowered_le 1 (replicate 64 67) hs low w h, get_or-replicate {A = ℕ} 64 w 67 0 h);
          far = λ w h more. elim (low w h) [
            | inl e ↦ e ∙ get_or-replicate {A = ℕ} 64 w 67 0 h
            | inr e ↦ absurd (omega (arith, e.0))
          ];
          into = λ x h less. absurd (elim (low x h) [
            | inl e ↦ omega (arith, e, get_or-replicate {A = ℕ} 64 x 67 0 h)
            | inr e ↦ omega (arith, e.0)
          ]);
          drain1 = d1;
          drain2 = d2;
        }

-- where nothing flows, the steps are those before anything flows
still_step : (ls : List Arc) (fs : List ℤ) → Still (length ls) fs → (u l : ℕ) → Step (residual ls fs 1) u l → Step (residual ls [] 1) u l
still_step ls fs still u l step =
    record {
      listed = step.listed;
      touching = step.touching;
      clear = ap (λ f. leb 1 (room_on (get_or ls l blank).limit f (ahead ls u l))) (sym (still l step.listed)) ∙ step.clear;
    }

pub distances_valid : (ls : List Arc) (at most : Taps ℕ) (fs : List ℤ) (hs : List ℕ) → at.feed1 < cabinets → at.feed2 < cabinets → Still (length ls) fs → Distances ls at most hs → Valid ls at most (begun most) fs hs
distances_valid ls at most fs hs f1 f2 still d =
    record {
      over = λ u l step. d.over u l (still_step ls fs still u l step);
      feed1 = ((λ _. d.top at.feed1 f1), (λ h. absurd (omega arith)));
      feed2 = ((λ _. d.top at.feed2 f2), (λ h. absurd (omega arith)));
      drain1 = d.drain1;
      drain2 = d.drain2;
    }
