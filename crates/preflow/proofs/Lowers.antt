-- The better of two ways, and the lowest of all.
use Rattle.std.proofs.Common.{◌≡◌, ℕ, ◌+◌, ◌-◌, ◌<◌, ◌≤◌, true, false, cond, eqb, ltb, List, length, get_or, take, ℤ, Some, None, Option, sym, refl, subst, le_refl, arith}
use Rattle.std.specs.List.{AllByRecursion}
use Rattle.std.proofs.ByRecursion.{All-more}
use Rattle.std.proofs.lemmas.Bool.{cond_both, true≢false, ltb-true, ltb-false, leb-true, le-leb, cond-true, eq-eqb}
use Rattle.flow.specs.declared.taps.Taps.{Taps}
use Rattle.flow.specs.Answers.{Each}
use Rattle.search.specs.Graphs.{touches, across}
use Rattle.engine.specs.declared.arc.Arc.{Arc}
use Rattle.residual.specs.Meshes.{mesh_of, free}
use Rattle.preflow.specs.declared.way.Best.{Best}
use Rattle.preflow.specs.declared.way.Way.{Way}
use Rattle.preflow.specs.declared.way.Way.TheVariants.{Over, Drain1, Drain2, Feed1, Feed2}
use Rattle.preflow.specs.Heights.{high}
use Rattle.preflow.specs.Ways.{Bounds, Least, Leads, UpTo, is_lower, lowered, here, drain_way, feed_way}

-- the height m is below that of b, so that m is lower than all that b is
below : (m : ℕ) (b : Option Best) → is_lower m b ≡ true → (k : ℕ) → k ≤ m → UpTo b k
below m None e k h = tt
below m (Some b) e k h = omega (arith, ltb-true m b.height e)

not_below : (m : ℕ) (b : Option Best) → is_lower m b ≡ false → (k : ℕ) → UpTo b k → k ≤ m
not_below m None e k h = absurd (true≢false e)
not_below m (Some b) e k h = omega (arith, ltb-false m b.height e)

module _ (b : Option Best) (m n : ℕ) (w : Way) where
  abbrev other : Option Best
  other = Some (record { height = m; room = n; way = w })

  pub lowered_any : (P : Option Best → Type 0) → P b → (0 < n → P (Some (record { height = m; room = n; way = w }))) → P (lowered b m n w)
  lowered_any P old new =
      cond_both (ltb 0 n) (cond (is_lower m b) other b) b P
      (λ e. cond_both (is_lower m b) other b P (λ _. new (ltb-true 0 n e)) (λ _. old))
      (λ _. old)

  pub lowered_le : (k : ℕ) → UpTo (lowered b m n w) k → UpTo b k
  lowered_le k =
      let P : Option Best → Type 0 = λ x. UpTo x k → UpTo b k in
      cond_both (ltb 0 n) (cond (is_lower m b) other b) b P
      (λ _. cond_both (is_lower m b) other b P (λ e. below m b e k) (λ _ h. h))
      (λ _ h. h)

  pub lowered_bound : 0 < n → (k : ℕ) → UpTo (lowered b m n w) k → k ≤ m
  lowered_bound some k =
      let P : Option Best → Type 0 = λ x. UpTo x k → k ≤ m in
      cond_both (ltb 0 n) (cond (is_lower m b) other b) b P
      (λ _. cond_both (is_lower m b) other b P (λ _ h. h) (λ e. not_below m b e k))
      (λ e. absurd (omega (arith, ltb-false 0 n e)))

  module _ (x : Option Best) (e : x ≡ lowered b m n w) where
    pub then_any : (P : Option Best → Type 0) → P b → (0 < n → P (Some (record { height = m; room = n; way = w }))) → P x
    then_any P old new = subst P (sym e) (lowered_any P old new)

    pub then_le : (k : ℕ) → UpTo x k → UpTo b k
    then_le k h = lowered_le k (subst (λ (y : Option Best). UpTo y k) e h)

    pub then_bound : 0 < n → (k : ℕ) → UpTo x k → k ≤ m
    then_bound some k h = lowered_bound some k (subst (λ (y : Option Best). UpTo y k) e h)

-- what can go along a way that starts at c, seen from v
pub here_all : (c v n : ℕ) → c ≡ v → here c v n ≡ n
here_all c v n e = cond-true (eqb c v) n 0 (eq-eqb c v e)

-- one link more in the search for the lowest way
module _ (ls : List Arc) (fs : List ℤ) (hs : List ℕ) (v : ℕ) where
  module _ (best next : Option Best) (l : ℕ) (e : next ≡ lowered best (high hs (across (mesh_of ls) v l) + 1) (free ls fs v l) (Over l)) where
    pub scan_here : (m : ℕ) → UpTo next m → Bounds ls fs hs v m l
    scan_here m h step = then_bound best (high hs (across (mesh_of ls) v l) + 1) (free ls fs v l) (Over l) next e (leb-true 1 (free ls fs v l) step.clear) m h

    pub scan_le : (m : ℕ) → UpTo next m → UpTo best m
    scan_le = then_le best (high hs (across (mesh_of ls) v l) + 1) (free ls fs v l) (Over l) next e

    pub scan_leads : l < length ls → touches (mesh_of ls) v l ≡ true → (at most amount : Taps ℕ) → Leads ls at most amount fs hs v best → Leads ls at most amount fs hs v next
    scan_leads h t at most amount old =
        then_any best (high hs (across (mesh_of ls) v l) + 1) (free ls fs v l) (Over l) next e (Leads ls at most amount fs hs v) old
        (λ some. (record { listed = h; touching = t; clear = le-leb (free ls fs v l) (free ls fs v l) (le_refl (free ls fs v l)) }, refl, some))

  pub scan_all : (best next : Option Best) (row : List ℕ) (i : ℕ) → i < length row → next ≡ lowered best (high hs (across (mesh_of ls) v (get_or row i 0)) + 1) (free ls fs v (get_or row i 0)) (Over (get_or row i 0)) → ((m : ℕ) → UpTo best m → AllByRecursion (Bounds ls fs hs v m) (take i row)) → (m : ℕ) → UpTo next m → AllByRecursion (Bounds ls fs hs v m) (take (i + 1) row)
  scan_all best next row i h e seen m lo =
      All-more (Bounds ls fs hs v m) row i 0 h (seen m (scan_le best next (get_or row i 0) e m lo)) (scan_here best next (get_or row i 0) e m lo)

-- the lowest way of all: into a drain, or else over a link or back into a feed
module _ (ls : List Arc) (at most amount : Taps ℕ) (fs : List ℤ) (hs : List ℕ) (v : ℕ) (amounts : Each ◌≤◌ amount most) where
  drain_1 : at.drain1 ≡ v → amount.drain1 < most.drain1 → (m : ℕ) → UpTo (drain_way at most amount v) m → m ≤ 1
  drain_1 q h m up =
      lowered_bound None 1 (here at.drain1 v (most.drain1 - amount.drain1)) Drain1 (omega (arith, here_all at.drain1 v (most.drain1 - amount.drain1) q)) m
      (lowered_le (lowered None 1 (here at.drain1 v (most.drain1 - amount.drain1)) Drain1) 1 (here at.drain2 v (most.drain2 - amount.drain2)) Drain2 m up)

  drain_2 : at.drain2 ≡ v → amount.drain2 < most.drain2 → (m : ℕ) → UpTo (drain_way at most amount v) m → m ≤ 1
  drain_2 q h m up =
      lowered_bound (lowered None 1 (here at.drain1 v (most.drain1 - amount.drain1)) Drain1) 1 (here at.drain2 v (most.drain2 - amount.drain2)) Drain2 (omega (arith, here_all at.drain2 v (most.drain2 - amount.drain2) q)) m up

  module _ (none : drain_way at most amount v ≡ None) (a : Option Best) where
    shut : (m : ℕ) → UpTo (drain_way at most amount v) m
    shut m = subst (λ (o : Option Best). UpTo o m) (sym none) tt

    pub feed_least : ((m : ℕ) → UpTo a m → (l : ℕ) → Bounds ls fs hs v m l) → (m : ℕ) → UpTo (feed_way at amount v a) m → Least ls at most amount fs hs v m
    feed_least over m up =
        let at_f = lowered_le (lowered a 67 (here at.feed1 v amount.feed1) Feed1) 67 (here at.feed2 v amount.feed2) Feed2 m up in
        record {
          over = over m (lowered_le a 67 (here at.feed1 v amount.feed1) Feed1 m at_f);
          drain1 = λ q h. drain_1 q h m (shut m);
          drain2 = λ q h. drain_2 q h m (shut m);
          feed1 = λ q h. lowered_bound a 67 (here at.feed1 v amount.feed1) Feed1 (omega (arith, here_all at.feed1 v amount.feed1 q)) m at_f;
          feed2 = λ q h. lowered_bound (lowered a 67 (here at.feed1 v amount.feed1) Feed1) 67 (here at.feed2 v amount.feed2) Feed2 (omega (arith, here_all at.feed2 v amount.feed2 q)) m up;
        }
