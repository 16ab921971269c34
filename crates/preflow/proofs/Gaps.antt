-- A level that holds no cabinet is left downward by no open step: so a cabinet with an excess does not stand above one that is above the outer source, and at the end the cabinets above one are a side that is full.
use Rattle.std.proofs.Common.{◌≡◌, ℕ, ◌+◌, ◌<◌, ◌≤◌, Bool, true, false, cond, eqb, ltb, List, length, get_or, ℤ, pos, ◌-ℤ◌, neg_ℤ, sym, refl, ap, ◌∙◌, ⊎_elim, arith}
use Rattle.std.proofs.lemmas.Bool.{ltb-true, ltb-false, lt-ltb, le-ltb, le-leb, eq-eqb, ne_eqb, or_left, or_right, cases_eq, cases_lt}
use Rattle.flow.specs.declared.taps.Taps.{Taps}
use Rattle.flow.specs.Ranges.{cabinets}
use Rattle.flow.specs.Nets.{only, xor, leaving, crosses, side_slots}
use Rattle.flow.specs.Answers.{Each, Balanced, cost}
use Rattle.flow.proofs.Sums.{whole, only_false, only_zero}
use Rattle.flow.proofs.Steps.{leaving_full}
use Rattle.flow.proofs.Jobs.{fed_full}
use Rattle.search.specs.Graphs.{touches, across}
use Rattle.search.proofs.Meshes.{across_first, across_second}
use Rattle.engine.specs.declared.arc.Arc.{Arc}
use Rattle.engine.specs.Arcs.{blank, tail_of, head_of, limit_of, Fits}
use Rattle.engine.proofs.Arcs.{sound_inside}
use Rattle.residual.specs.Meshes.{mesh_of, room_on, free}
use Rattle.preflow.specs.Heights.{high, Empty, Valid, ValidFeed, ValidDrain}
use Rattle.preflow.specs.States.{Excess}
use Rattle.preflow.proofs.Levels.{level, row_of_levels, level_has, empty_of_none}
use Rattle.preflow.proofs.Gathered.{gathered, only_up, sum_part}

-- a link is full outward where it crosses, by cases of its two ends
link_full : (a b : Bool) (f : ℤ) (n : ℕ) → (a ≡ true → b ≡ false → f ≡ pos n) → (a ≡ false → b ≡ true → f ≡ neg_ℤ (pos n)) → only a f -ℤ only b f ≡ pos (cond (xor a b) n 0)
link_full true true f n out into = omega (arith, whole)
link_full true false f n out into = let e = out refl refl in omega (arith, whole)
link_full false true f n out into = let e = into refl refl in omega (arith, whole)
link_full false false f n out into = omega (arith, whole)

none_ahead : (f : ℤ) (n : ℕ) → room_on n f true ≡ 0 → f ≡ pos n
none_ahead f n e = omega (arith, whole)

none_behind : (f : ℤ) (n : ℕ) → room_on n f false ≡ 0 → f ≡ neg_ℤ (pos n)
none_behind f n e = omega (arith, whole)

module _ (ls : List Arc) (at most amount : Taps ℕ) (fits : Fits ls at most) (fs : List ℤ) (hs : List ℕ) (valid : Valid ls at most amount fs hs) (k : ℕ) (gap : Empty hs k) (S : ℕ → Bool) (tells : (w : ℕ) → w < cabinets → S w ≡ ltb k (high hs w)) where
  above : (w : ℕ) → w < cabinets → S w ≡ true → k < high hs w
  above w h e = ltb-true k (high hs w) (sym (tells w h) ∙ e)

  below : (w : ℕ) → w < cabinets → S w ≡ false → high hs w < k
  below w h e =
      let le : high hs w ≤ k = ltb-false k (high hs w) (sym (tells w h) ∙ e) in
      let ne : high hs w ≡ k → ⊥ = gap w h in
      omega arith

  -- nothing is free over a step from above the gap to below it
  shut : (u l w : ℕ) → l < length ls → touches (mesh_of ls) u l ≡ true → across (mesh_of ls) u l ≡ w → u < cabinets → w < cabinets → S u ≡ true → S w ≡ false → free ls fs u l ≡ 0
  shut u l w h t e u_in w_in up down =
      ⊎_elim
      (λ (some : 0 < free ls fs u l).
      absurd (omega (arith, above u u_in up, below w w_in down, ap (high hs) e, valid.over u l (record { listed = h; touching = t; clear = le-leb 1 (free ls fs u l) some }))))
      (λ (none : free ls fs u l ≤ 0). omega arith)
      (cases_lt 0 (free ls fs u l))

  link_at : (l : ℕ) → l < length ls → only (S (get_or ls l blank).tail) (get_or fs l (pos 0)) -ℤ only (S (get_or ls l blank).head) (get_or fs l (pos 0)) ≡ pos (cond (crosses tail_of head_of S (get_or ls l blank)) (limit_of (get_or ls l blank)) 0)
  link_at l h =
      let t : ℕ = (get_or ls l blank).tail in
      let d : ℕ = (get_or ls l blank).head in
      let s = fits.sound l blank h in
      let first : touches (mesh_of ls) t l ≡ true = or_left (eqb t t) (eqb d t) (eq-eqb t t refl) in
      let second : touches (mesh_of ls) d l ≡ true = or_right (eqb t d) (eqb d d) (eq-eqb d d refl) in
      link_full (S t) (S d) (get_or fs l (pos 0)) (get_or ls l blank).limit
      (λ up down. none_ahead (get_or fs l (pos 0)) (get_or ls l blank).limit
      (ap (room_on (get_or ls l blank).limit (get_or fs l (pos 0))) (sym (eq-eqb t t refl)) ∙ shut t l d h first (across_first (mesh_of ls) t l refl) s.0 s.1 up down))
      (λ down up. none_behind (get_or fs l (pos 0)) (get_or ls l blank).limit
      (ap (room_on (get_or ls l blank).limit (get_or fs l (pos 0))) (sym (ne_eqb t d s.2)) ∙ shut d l t h second (across_second (mesh_of ls) d l s.2) s.1 s.0 up down))

  -- as much as its slots leaves the side above the gap
  pub gap_full : leaving tail_of head_of S ls fs ≡ pos (side_slots tail_of head_of limit_of S ls)
  gap_full = leaving_full tail_of head_of limit_of S blank ls fs link_at

  -- a feed outside gives all it can, and a drain inside takes all it can, where the gap is between the outer ends
  pub feed_outside : (c most_c amount_c : ℕ) → k ≤ 65 → c < cabinets → amount_c ≤ most_c → ValidFeed c most_c amount_c hs → S c ≡ false → amount_c ≡ most_c
  feed_outside c m a hi c_in le v e =
      ⊎_elim
      (λ (less : a < m). absurd (omega (arith, v.1 less, below c c_in e)))
      (λ (more : m ≤ a). omega arith)
      (cases_lt a m)

  pub drain_inside : (c most_c amount_c : ℕ) → 1 ≤ k → c < cabinets → amount_c ≤ most_c → ValidDrain c most_c amount_c hs → S c ≡ true → amount_c ≡ most_c
  drain_inside c m a lo c_in le v e =
      ⊎_elim
      (λ (less : a < m). absurd (omega (arith, v less, above c c_in e)))
      (λ (more : m ≤ a). omega arith)
      (cases_lt a m)

module _ (ls : List Arc) (at most amount : Taps ℕ) (fits : Fits ls at most) (fs : List ℤ) (ex hs : List ℕ) (excess : Excess ls at amount fs ex) (valid : Valid ls at most amount fs hs) where
  -- a feed above a level from 67 on has no amount
  dry_feed : (c m a k : ℕ) → 67 ≤ k → ValidFeed c m a hs → only (ltb k (high hs c)) (pos a) ≡ pos 0
  dry_feed c m a k h v =
      ⊎_elim
      (λ (z : a ≡ 0). ap (λ n. only (ltb k (high hs c)) (pos n)) z ∙ only_zero (ltb k (high hs c)))
      (λ (nz : a ≡ 0 → ⊥). only_false (ltb k (high hs c)) (pos a) (le-ltb k (high hs c) (omega (arith, v.0 (omega arith)))))
      (cases_eq a 0)

  gap_dry : (k : ℕ) → 67 ≤ k → Empty hs k → (v : ℕ) → v < cabinets → k < high hs v → get_or ex v 0 ≡ 0
  gap_dry k lo gap v h up =
      let S : ℕ → Bool = λ w. ltb k (high hs w) in
      let all = gathered tail_of head_of cabinets ls at amount fs (λ w. get_or ex w 0) (sound_inside ls fits.sound) fits.placed excess (λ w. ltb k (high hs w)) in
      let out = gap_full ls at most amount fits fs hs valid k gap (λ w. ltb k (high hs w)) (λ w l. refl) in
      omega (arith, whole, all, out, sum_part (λ w. ltb k (high hs w)) (λ w. get_or ex w 0) cabinets v h (lt-ltb k (high hs v) up), dry_feed at.feed1 most.feed1 amount.feed1 k lo valid.feed1, dry_feed at.feed2 most.feed2 amount.feed2 k lo valid.feed2, only_up (ltb k (high hs at.drain1)) amount.drain1, only_up (ltb k (high hs at.drain2)) amount.drain2)

  -- a cabinet with an excess stands at 130 at most: the levels from 67 up to it all hold one of the 64 cabinets
  pub not_high : (v : ℕ) → v < cabinets → length hs ≡ cabinets → 0 < get_or ex v 0 → high hs v ≤ 130
  not_high v h long active =
      ⊎_elim
      (λ (tall : 130 < high hs v).
      absurd (omega (
        arith,
        row_of_levels 67 65 hs (λ k lo hi. ⊎_elim
            (λ (none : level k hs < 1). ⊎_elim
            (λ (e : high hs v ≡ k). level_has hs v k (omega arith) e)
            (λ (ne : high hs v ≡ k → ⊥).
            let dry : get_or ex v 0 ≡ 0 = gap_dry k lo (empty_of_none hs k long none) v h (omega arith) in
            absurd (omega arith))
            (cases_eq (high hs v) k))
            (λ (some : 1 ≤ level k hs). some)
            (cases_lt (level k hs) 1)),
      )))
      (λ (low : high hs v ≤ 130). low)
      (cases_lt 130 (high hs v))

  -- where no excess is left, the cabinets above an empty level make a side that costs just what is fed
  pub gap_cost : Each ◌≤◌ amount most → ((w : ℕ) → w < cabinets → get_or ex w 0 ≡ 0) → (k : ℕ) → 1 ≤ k → k ≤ 65 → Empty hs k → (S : ℕ → Bool) → ((w : ℕ) → w < cabinets → S w ≡ ltb k (high hs w)) → amount.feed1 + amount.feed2 ≡ cost tail_of head_of limit_of at most ls S
  gap_cost le dry k lo hi gap S tells =
      let balanced : Balanced tail_of head_of cabinets ls at amount fs = λ v h. let e = excess v h in let z = dry v h in omega (arith, whole) in
      let p = fits.placed in
      fed_full tail_of head_of cabinets ls at amount fs (sound_inside ls fits.sound) p balanced limit_of most S (gap_full ls at most amount fits fs hs valid k gap S tells)
      (feed_outside ls at most amount fits fs hs valid k gap S tells at.feed1 most.feed1 amount.feed1 hi p.0 le.0 valid.feed1)
      (feed_outside ls at most amount fits fs hs valid k gap S tells at.feed2 most.feed2 amount.feed2 hi p.1 le.1 valid.feed2)
      (drain_inside ls at most amount fits fs hs valid k gap S tells at.drain1 most.drain1 amount.drain1 lo p.2 le.2 valid.drain1)
      (drain_inside ls at most amount fits fs hs valid k gap S tells at.drain2 most.drain2 amount.drain2 lo p.3 le.3 valid.drain2)
