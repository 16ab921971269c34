-- Sides that block a feed from a drain, and the full side that four of them make.
use Rattle.std.proofs.Common.{◌≡◌, ℕ, ◌-◌, ◌<◌, ◌≤◌, min, Bool, true, false, cond, ◌&&◌, ◌||◌, ltb, ◌⊎◌, List, length, get_or, replicate, ℤ, pos, ◌-ℤ◌, neg_ℤ, sym, refl, ap, ◌∙◌, subst, inl, inr, ⊎_elim, arith}
use Rattle.std.proofs.lemmas.List.{get_or-replicate, get_or_past, length-replicate}
use Rattle.std.proofs.lemmas.Bool.{true≢false, false≢true, both_ways, le-leb, ltb-true, ltb-false, eq-eqb, ne_eqb, cases_lt, and_parts, and_from, and_left, and_right, or_cases, or_from, or_left, or_right}
use Rattle.flow.specs.declared.taps.Taps.{Taps}
use Rattle.flow.specs.Ranges.{cabinets}
use Rattle.flow.specs.Nets.{only, xor, members}
use Rattle.flow.specs.Answers.{Placed}
use Rattle.flow.proofs.Sums.{whole}
use Rattle.flow.proofs.Steps.{leaving_full}
use Rattle.flow.proofs.Jobs.{fed_full}
use Rattle.search.specs.Graphs.{touches, across}
use Rattle.search.proofs.Meshes.{across_in}
use Rattle.engine.specs.declared.arc.Arc.{Arc}
use Rattle.engine.specs.declared.job.Job.{Job}
use Rattle.engine.specs.Arcs.{blank, tail_of, head_of, limit_of, AllSound}
use Rattle.engine.specs.Jobs.{links_of}
use Rattle.engine.specs.Totals.{FeasibleFlow}
use Rattle.engine.proofs.Arcs.{sound_inside}
use Rattle.residual.specs.Grounds.{job_lawful}
use Rattle.residual.specs.Meshes.{mesh_of, ahead, room_on, free}
use Rattle.augmenting.specs.declared.pairs.Pair.{Pair}
use Rattle.augmenting.specs.declared.pairs.Which.{Which}
use Rattle.augmenting.specs.declared.pairs.Which.TheVariants.{First, Second}
use Rattle.augmenting.specs.Pairs.{feed_of, drain_of}
use Rattle.augmenting.specs.Sending.{Closed, Blocked}
use Rattle.augmenting.specs.Sides.{Joined, Full}

none_in : (n v : ℕ) → get_or (replicate n false) v false ≡ false
none_in n v = ⊎_elim (λ h. get_or-replicate n v false false h) (λ h. past n v h) (cases_lt v n)
  where
    past : (n v : ℕ) → n ≤ v → get_or (replicate n false) v false ≡ false
    past n v h = get_or_past (replicate n false) v false (omega (arith, length-replicate n false))

feed_placed : (at : Taps ℕ) (i : Which) → Placed cabinets at → feed_of at i < cabinets
feed_placed at First p = p.0
feed_placed at Second p = p.1

-- a feed that is full is blocked by the empty side, and a drain that is full by the whole
blocked_none : (j : Job) (fs : List ℤ) (r : Taps ℕ) (p : Pair) → feed_of j.most p.from ≤ feed_of r p.from → Blocked j fs r p (members (replicate 64 false))
blocked_none j fs r p h = record { holds = λ k. absurd (omega arith); lacks = λ _. none_in 64 (drain_of j.at p.to); closed = λ u l _ e _. absurd (both_ways _ (none_in 64 u) e) }

blocked_all : (j : Job) (fs : List ℤ) (r : Taps ℕ) (p : Pair) → drain_of j.most p.to ≤ drain_of r p.to → Blocked j fs r p (members (replicate 64 true))
blocked_all j fs r p h = record {
  holds = λ _. get_or-replicate 64 (feed_of j.at p.from) true false (feed_placed j.at p.from j.placed);
  lacks = λ k. absurd (omega arith);
  closed = λ u l _ _ s. get_or-replicate 64 (across (mesh_of (links_of j)) u l) true false (across_in (mesh_of (links_of j)) u l (job_lawful j) s.listed);
}

-- with no room between them, everything blocks the pair if the feed can give more, and else nothing does
pub blocked_full : (j : Job) (fs : List ℤ) (r : Taps ℕ) (p : Pair) (b : Bool) → min (feed_of j.most p.from - feed_of r p.from) (drain_of j.most p.to - drain_of r p.to) ≡ 0 → b ≡ ltb (feed_of r p.from) (feed_of j.most p.from) → Blocked j fs r p (members (replicate 64 b))
blocked_full j fs r p true h e = let gives = ltb-true (feed_of r p.from) (feed_of j.most p.from) (sym e) in blocked_all j fs r p (omega arith)
blocked_full j fs r p false h e = blocked_none j fs r p (ltb-false (feed_of r p.from) (feed_of j.most p.from) (sym e))

-- a link from inside to outside with nothing free is full
full_ahead : (b : Bool) (k : ℕ) (f : ℤ) → b ≡ true → room_on k f b ≤ 0 → f ≡ pos k
full_ahead true k f e h = omega (arith, whole)
full_ahead false k f e h = absurd (false≢true e)

full_back : (b : Bool) (k : ℕ) (f : ℤ) → b ≡ false → room_on k f b ≤ 0 → f ≡ neg_ℤ (pos k)
full_back false k f e h = omega (arith, whole)
full_back true k f e h = absurd (true≢false e)

rim : (p q : Bool) (f : ℤ) (k : ℕ) → (p ≡ true → q ≡ false → f ≡ pos k) → (p ≡ false → q ≡ true → f ≡ neg_ℤ (pos k)) → only p f -ℤ only q f ≡ pos (cond (xor p q) k 0)
rim true true f k a b = omega (arith, whole)
rim true false f k a b = let e = a refl refl in omega (arith, whole)
rim false true f k a b = let e = b refl refl in omega (arith, whole)
rim false false f k a b = refl

module _ (ls : List Arc) (fs : List ℤ) (S : ℕ → Bool) (sound : AllSound ls) (closed : Closed ls fs S) (k : ℕ) (h : k < length ls) where
  -- from inside to outside nothing is free
  shut : (u : ℕ) → u < cabinets → touches (mesh_of ls) u k ≡ true → S u ≡ true → S (across (mesh_of ls) u k) ≡ false → free ls fs u k ≤ 0
  shut u l t p q =
      ⊎_elim
      (λ some. absurd (both_ways _ q (closed u k l p (record { listed = h; touching = t; clear = le-leb 1 (free ls fs u k) some }))))
      (λ none. none)
      (cases_lt 0 (free ls fs u k))

  rim_at : only (S (get_or ls k blank).tail) (get_or fs k (pos 0)) -ℤ only (S (get_or ls k blank).head) (get_or fs k (pos 0)) ≡ pos (cond (xor (S (get_or ls k blank).tail) (S (get_or ls k blank).head)) (get_or ls k blank).limit 0)
  rim_at =
      rim (S (get_or ls k blank).tail) (S (get_or ls k blank).head) (get_or fs k (pos 0)) (get_or ls k blank).limit
      (λ p q. let e : ahead ls (get_or ls k blank).tail k ≡ true = eq-eqb (get_or ls k blank).tail (get_or ls k blank).tail refl in
      full_ahead (ahead ls (get_or ls k blank).tail k) (get_or ls k blank).limit (get_or fs k (pos 0)) e
      (shut (get_or ls k blank).tail (sound k blank h).0 (or_left _ _ (eq-eqb (get_or ls k blank).tail (get_or ls k blank).tail refl)) p (ap (λ b. S (cond b (get_or ls k blank).head (get_or ls k blank).tail)) e ∙ q)))
      (λ p q. let e : ahead ls (get_or ls k blank).head k ≡ false = ne_eqb (get_or ls k blank).tail (get_or ls k blank).head (sound k blank h).2 in
      full_back (ahead ls (get_or ls k blank).head k) (get_or ls k blank).limit (get_or fs k (pos 0)) e
      (shut (get_or ls k blank).head (sound k blank h).1 (or_right _ _ (eq-eqb (get_or ls k blank).head (get_or ls k blank).head refl)) q (ap (λ b. S (cond b (get_or ls k blank).head (get_or ls k blank).tail)) e ∙ p)))

-- a closed side with the feeds that can give more inside and the drains that can take more outside is full
pub full_side : (j : Job) (fs : List ℤ) (r : Taps ℕ) (side : List Bool) → FeasibleFlow j fs r → Closed (links_of j) fs (members side) → (members side j.at.feed1 ≡ false → r.feed1 ≡ j.most.feed1) → (members side j.at.feed2 ≡ false → r.feed2 ≡ j.most.feed2) → (members side j.at.drain1 ≡ true → r.drain1 ≡ j.most.drain1) → (members side j.at.drain2 ≡ true → r.drain2 ≡ j.most.drain2) → Full j r side
full_side j fs r side f closed =
    fed_full tail_of head_of cabinets (links_of j) j.at r fs (sound_inside (links_of j) j.sound) j.placed f.balanced limit_of j.most (members side) (leaving_full tail_of head_of limit_of (members side) blank (links_of j) fs (λ k h. rim_at (links_of j) fs (members side) j.sound closed k h))

module _ (S a b c d : ℕ → Bool) (v : ℕ) (m : S v ≡ ((a v && b v) || (c v && d v))) where
  join_first : a v ≡ true → b v ≡ true → S v ≡ true
  join_first p q = m ∙ or_left _ _ (and_from (a v) (b v) p q)

  join_second : c v ≡ true → d v ≡ true → S v ≡ true
  join_second p q = m ∙ or_right _ _ (and_from (c v) (d v) p q)

  join_out : (a v ≡ false) ⊎ (b v ≡ false) → (c v ≡ false) ⊎ (d v ≡ false) → S v ≡ false
  join_out p q = m ∙ or_from _ _ (⊎_elim (and_left (a v) (b v)) (and_right (a v) (b v)) p) (⊎_elim (and_left (c v) (d v)) (and_right (c v) (d v)) q)

limit_met : (x k : ℕ) (s t : Bool) → x ≤ k → (x < k → s ≡ t) → (s ≡ t → ⊥) → x ≡ k
limit_met x k s t h f g = ⊎_elim (λ l. absurd (g (f l))) (λ l. omega arith) (cases_lt x k)

-- four sides, each of which blocks one feed from one drain, make a full one
pub full_joined : (j : Job) (fs : List ℤ) (r : Taps ℕ) (a b c d side : List Bool) → FeasibleFlow j fs r → Blocked j fs r (record { from = First; to = First }) (members a) → Blocked j fs r (record { from = First; to = Second }) (members b) → Blocked j fs r (record { from = Second; to = First }) (members c) → Blocked j fs r (record { from = Second; to = Second }) (members d) → Joined a b c d side 64 → Full j r side
full_joined j fs r a b c d side f pa pb pc pd m =
    full_side j fs r side f
    (λ u l lt p s.
    let w = across (mesh_of (links_of j)) u l in
    let in' = across_in (mesh_of (links_of j)) u l (job_lawful j) s.listed in
    ⊎_elim
    (λ e. let z = and_parts (members a u) (members b u) e in first w in' (pa.closed u l lt z.0 s) (pb.closed u l lt z.1 s))
    (λ e. let z = and_parts (members c u) (members d u) e in second w in' (pc.closed u l lt z.0 s) (pd.closed u l lt z.1 s))
    (or_cases _ _ (sym (m u lt) ∙ p)))
    (λ e. limit_met r.feed1 j.most.feed1 (members side j.at.feed1) true f.amounts.0 (λ l. first j.at.feed1 j.placed.0 (pa.holds l) (pb.holds l)) (both_ways _ e))
    (λ e. limit_met r.feed2 j.most.feed2 (members side j.at.feed2) true f.amounts.1 (λ l. second j.at.feed2 j.placed.1 (pc.holds l) (pd.holds l)) (both_ways _ e))
    (λ e. limit_met r.drain1 j.most.drain1 (members side j.at.drain1) false f.amounts.2 (λ l. out j.at.drain1 j.placed.2 (inl (pa.lacks l)) (inl (pc.lacks l))) (λ q. both_ways _ q e))
    (λ e. limit_met r.drain2 j.most.drain2 (members side j.at.drain2) false f.amounts.3 (λ l. out j.at.drain2 j.placed.3 (inr (pb.lacks l)) (inr (pd.lacks l))) (λ q. both_ways _ q e))
  where
    first : (v : ℕ) → v < 64 → members a v ≡ true → members b v ≡ true → members side v ≡ true
    first v h = join_first (members side) (members a) (members b) (members c) (members d) v (m v h)

    second : (v : ℕ) → v < 64 → members c v ≡ true → members d v ≡ true → members side v ≡ true
    second v h = join_second (members side) (members a) (members b) (members c) (members d) v (m v h)

    out : (v : ℕ) → v < 64 → (members a v ≡ false) ⊎ (members b v ≡ false) → (members c v ≡ false) ⊎ (members d v ≡ false) → members side v ≡ false
    out v h = join_out (members side) (members a) (members b) (members c) (members d) v (m v h)

-- what blocks a pair blocks it at a flow and amounts that equal these
pub blocked_at : (j : Job) (fs fs' : List ℤ) (r r' : Taps ℕ) (p : Pair) (S : ℕ → Bool) → fs' ≡ fs → r' ≡ r → Blocked j fs r p S → Blocked j fs' r' p S
blocked_at j fs fs' r r' p S e q b = subst (λ f. Blocked j f r' p S) (sym e) (subst (λ x. Blocked j fs x p S) (sym q) b)
