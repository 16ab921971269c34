-- The slots of sides that are made of other sides.
use Rattle.std.proofs.Common.{◌≡◌, ℕ, suc, ◌+◌, ◌*◌, ◌<◌, ◌≤◌, Bool, true, false, cond, not, ◌&&◌, ◌||◌, ◌⊎◌, List, [], ◌∷◌, length, get_or, ℤ, pos, sym, refl, ap, ◌∙◌, ap₂, inl, inr, le_refl, arith}
use Rattle.std.proofs.lemmas.Bool.{false≢true}
use Rattle.flow.specs.declared.pairs.Pairs.{Pairs}
use Rattle.flow.specs.Ranges.{most_links, most_limit, most_fed}
use Rattle.flow.specs.Nets.{xor, total, crosses, side_slots, Inside}
use Rattle.flow.specs.Plans.{Proper, Held}
use Rattle.flow.specs.Drawings.{Doubled}
use Rattle.flow.proofs.Counting.{inside_after}

cut_union : (a b c d : Bool) (k : ℕ) → cond (xor (a || c) (b || d)) k 0 + cond (xor (a && c) (b && d)) k 0 ≤ cond (xor a b) k 0 + cond (xor c d) k 0
cut_union true true true true k = omega arith
cut_union true true true false k = omega arith
cut_union true true false true k = omega arith
cut_union true true false false k = omega arith
cut_union true false true true k = omega arith
cut_union true false true false k = omega arith
cut_union true false false true k = omega arith
cut_union true false false false k = omega arith
cut_union false true true true k = omega arith
cut_union false true true false k = omega arith
cut_union false true false true k = omega arith
cut_union false true false false k = omega arith
cut_union false false true true k = omega arith
cut_union false false true false k = omega arith
cut_union false false false true k = omega arith
cut_union false false false false k = omega arith

cut_difference : (a b c d : Bool) (k : ℕ) → cond (xor (a && not c) (b && not d)) k 0 + cond (xor (c && not a) (d && not b)) k 0 ≤ cond (xor a b) k 0 + cond (xor c d) k 0
cut_difference true true true true k = omega arith
cut_difference true true true false k = omega arith
cut_difference true true false true k = omega arith
cut_difference true true false false k = omega arith
cut_difference true false true true k = omega arith
cut_difference true false true false k = omega arith
cut_difference true false false true k = omega arith
cut_difference true false false false k = omega arith
cut_difference false true true true k = omega arith
cut_difference false true true false k = omega arith
cut_difference false true false true k = omega arith
cut_difference false true false false k = omega arith
cut_difference false false true true k = omega arith
cut_difference false false true false k = omega arith
cut_difference false false false true k = omega arith
cut_difference false false false false k = omega arith

-- exclusive-ors regrouped
pub xor_swap : (a b c d : Bool) → xor (xor a c) (xor b d) ≡ xor (xor a b) (xor c d)
xor_swap true true true true = refl
xor_swap true true true false = refl
xor_swap true true false true = refl
xor_swap true true false false = refl
xor_swap true false true true = refl
xor_swap true false true false = refl
xor_swap true false false true = refl
xor_swap true false false false = refl
xor_swap false true true true = refl
xor_swap false true true false = refl
xor_swap false true false true = refl
xor_swap false true false false = refl
xor_swap false false true true = refl
xor_swap false false true false = refl
xor_swap false false false true = refl
xor_swap false false false false = refl

pub xor_turned : (a b c : Bool) → xor (not (xor a c)) (not (xor b c)) ≡ xor a b
xor_turned true true true = refl
xor_turned true true false = refl
xor_turned true false true = refl
xor_turned true false false = refl
xor_turned false true true = refl
xor_turned false true false = refl
xor_turned false false true = refl
xor_turned false false false = refl

-- a link that crosses the exclusive-or crosses one of the two
either : (x y : Bool) → xor x y ≡ true → (x ≡ true) ⊎ (y ≡ true)
either true y e = inl refl
either false true e = inr refl
either false false e = absurd (false≢true e)

either_slots : (x y : Bool) (k : ℕ) → cond (xor x y) k 0 ≤ cond x k 0 + cond y k 0
either_slots true true k = omega arith
either_slots true false k = omega arith
either_slots false true k = omega arith
either_slots false false k = omega arith

cut_within : (b : Bool) (k : ℕ) → cond b k 0 ≤ k
cut_within true k = le_refl k
cut_within false k = omega arith

cut_doubled : (b : Bool) (h k : ℕ) → 2 * h ≡ k → cond b k 0 ≡ 2 * cond b h 0
cut_doubled true h k e = sym e
cut_doubled false h k e = refl

join : (a b c d w x y z : ℕ) → a + b ≤ c + d → w + x ≤ y + z → (a + w) + (b + x) ≤ (c + y) + (d + z)
join a b c d w x y z h k = omega arith

module _ {X : Type 0} (low high capacity : X → ℕ) where
  pub crosses_either : (S R : ℕ → Bool) (l : X) → crosses low high (λ v. xor (S v) (R v)) l ≡ true → (crosses low high S l ≡ true) ⊎ (crosses low high R l ≡ true)
  crosses_either S R l e = either (crosses low high S l) (crosses low high R l) (sym (xor_swap (S (low l)) (S (high l)) (R (low l)) (R (high l))) ∙ e)

  pub slots_xor : (S R : ℕ → Bool) (ls : List X) → side_slots low high capacity (λ v. xor (S v) (R v)) ls ≤ side_slots low high capacity S ls + side_slots low high capacity R ls
  slots_xor S R [] = omega arith
  slots_xor S R (l ∷ ls) =
      omega (arith, ap (λ t. cond t (capacity l) 0) (xor_swap (S (low l)) (S (high l)) (R (low l)) (R (high l))), either_slots (crosses low high S l) (crosses low high R l) (capacity l), slots_xor S R ls)

  pub slots_union : (S R : ℕ → Bool) (ls : List X) → side_slots low high capacity (λ v. S v || R v) ls + side_slots low high capacity (λ v. S v && R v) ls ≤ side_slots low high capacity S ls + side_slots low high capacity R ls
  slots_union S R [] = omega arith
  slots_union S R (l ∷ ls) = join _ _ _ _ _ _ _ _ (cut_union (S (low l)) (S (high l)) (R (low l)) (R (high l)) (capacity l)) (slots_union S R ls)

  pub slots_difference : (S R : ℕ → Bool) (ls : List X) → side_slots low high capacity (λ v. S v && not (R v)) ls + side_slots low high capacity (λ v. R v && not (S v)) ls ≤ side_slots low high capacity S ls + side_slots low high capacity R ls
  slots_difference S R [] = omega arith
  slots_difference S R (l ∷ ls) = join _ _ _ _ _ _ _ _ (cut_difference (S (low l)) (S (high l)) (R (low l)) (R (high l)) (capacity l)) (slots_difference S R ls)

  -- a side or its complement: the cabinets where S is c
  pub slots_turned : (S : ℕ → Bool) (c : Bool) (ls : List X) → side_slots low high capacity (λ v. not (xor (S v) c)) ls ≡ side_slots low high capacity S ls
  slots_turned S c [] = refl
  slots_turned S c (l ∷ ls) = ap₂ ◌+◌ (ap (λ t. cond t (capacity l) 0) (xor_turned (S (low l)) (S (high l)) c)) (slots_turned S c ls)

  -- a side has at most the slots of all links
  pub slots_within : (S : ℕ → Bool) (ls : List X) → side_slots low high capacity S ls ≤ total capacity ls
  slots_within S [] = omega arith
  slots_within S (l ∷ ls) = omega (arith, cut_within (crosses low high S l) (capacity l), slots_within S ls)

  -- twice the limit on each link, twice the limit at each side
  pub slots_doubled : (limit : X → ℕ) (S : ℕ → Bool) (ls : List X) → Doubled limit capacity ls → side_slots low high capacity S ls ≡ 2 * side_slots low high limit S ls
  slots_doubled limit S [] e = refl
  slots_doubled limit S (l ∷ ls) e = omega (arith, cut_doubled (crosses low high S l) (limit l) (capacity l) (e 0 l (omega arith)), slots_doubled limit S ls (λ k d h. e (suc k) d (omega arith)))

  -- only the cabinets below n matter
  pub slots_same : (n : ℕ) (S R : ℕ → Bool) (ls : List X) → Inside low high n ls → ((v : ℕ) → v < n → S v ≡ R v) → side_slots low high capacity S ls ≡ side_slots low high capacity R ls
  slots_same n S R [] i e = refl
  slots_same n S R (l ∷ ls) i e = let h = i 0 l (omega arith) in ap₂ ◌+◌ (ap₂ (λ a b. cond (xor a b) (capacity l) 0) (e (low l) h.0) (e (high l) h.1)) (slots_same n S R ls (inside_after low high n l ls i) e)

  pub held_same : (n : ℕ) (p : Pairs) (ls : List X) (fs gs : List ℤ) (S R U V : ℕ → Bool) → Inside low high n ls → Proper n p → ((v : ℕ) → v < n → S v ≡ U v) → ((v : ℕ) → v < n → R v ≡ V v) → Held low high capacity n p ls fs gs S R → Held low high capacity n p ls fs gs U V
  held_same n p ls fs gs S R U V i pr a b h =
      record {
        feasible = h.feasible;
        sum_side = record { holds = sym (a p.source1 pr.source1_in) ∙ h.sum_side.holds; lacks = sym (a p.goal1 pr.goal1_in) ∙ h.sum_side.lacks; parts = sym (ap₂ xor (a p.source2 pr.source2_in) (a p.goal2 pr.goal2_in)) ∙ h.sum_side.parts };
        first_side = record { holds = sym (b p.source1 pr.source1_in) ∙ h.first_side.holds; lacks = sym (b p.goal1 pr.goal1_in) ∙ h.first_side.lacks };
        sum_is = h.sum_is ∙ ap pos (slots_same n S U ls i a);
        first_is = h.first_is ∙ ap pos (slots_same n R V ls i b);
      }

-- links with limits of at most m have together at most so many times m
pub total_within : {X : Type 0} (limit : X → ℕ) (m : ℕ) (ls : List X) → ((k : ℕ) (d : X) → k < length ls → limit (get_or ls k d) ≤ m) → total limit ls ≤ length ls * m
total_within limit m [] h = omega arith
total_within limit m (l ∷ ls) h = omega (arith, h 0 l (omega arith), total_within limit m ls (λ k d q. h (suc k) d (omega arith)))

-- so the links of a job carry less than a feed can have
pub total_few : {X : Type 0} (limit : X → ℕ) (ls : List X) → length ls ≤ most_links → ((k : ℕ) (d : X) → k < length ls → limit (get_or ls k d) ≤ most_limit) → total limit ls < most_fed
total_few limit ls few h = omega (arith, total_within limit most_limit ls h)
