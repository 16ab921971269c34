-- So many levels in a row that each holds one of the numbers of a list are at most as many as the numbers.
use Rattle.std.proofs.Common.{◌≡◌, ℕ, zero, suc, ◌+◌, ◌<◌, ◌≤◌, Bool, true, false, cond, eqb, ltb, leb, List, [], ◌∷◌, length, get_or, refl, ap, ◌∙◌, ⊎_elim, arith}
use Rattle.std.proofs.lemmas.Bool.{eq-eqb, ne_eqb, lt-ltb, le-ltb, le-leb, lt-leb, cases_eq, cases_lt}
use Rattle.flow.specs.Ranges.{cabinets}
use Rattle.preflow.specs.Heights.{Empty}

-- how many numbers stand at level k
abbrev pub level : ℕ → List ℕ → ℕ
level k [] = 0
level k (x ∷ xs) = cond (eqb x k) 1 0 + level k xs

-- how many stand at one of the n levels from lo on
abbrev in_band : ℕ → ℕ → ℕ → ℕ
in_band lo n x = cond (leb lo x) (cond (ltb x (lo + n)) 1 0) 0

abbrev band : ℕ → ℕ → List ℕ → ℕ
band lo n [] = 0
band lo n (x ∷ xs) = in_band lo n x + band lo n xs

in_band_yes : (lo n x : ℕ) → lo ≤ x → x < lo + n → in_band lo n x ≡ 1
in_band_yes lo n x p q = ap (λ b. cond b (cond (ltb x (lo + n)) 1 0) 0) (le-leb lo x p) ∙ ap (λ b. cond b 1 0) (lt-ltb x (lo + n) q)

in_band_over : (lo n x : ℕ) → lo + n ≤ x → in_band lo n x ≡ 0
in_band_over lo n x q = ap (λ b. cond b (cond (ltb x (lo + n)) 1 0) 0) (le-leb lo x (omega arith)) ∙ ap (λ b. cond b 1 0) (le-ltb x (lo + n) q)

in_band_under : (lo n x : ℕ) → x < lo → in_band lo n x ≡ 0
in_band_under lo n x q = ap (λ b. cond b (cond (ltb x (lo + n)) 1 0) 0) (lt-leb lo x q)

hit : (x k : ℕ) → x ≡ k → ◌≡◌ {A = ℕ} (cond (eqb x k) 1 0) 1
hit x k e = ap (λ b. cond {A = ℕ} b 1 0) (eq-eqb x k e)

miss : (x k : ℕ) → (x ≡ k → ⊥) → ◌≡◌ {A = ℕ} (cond (eqb x k) 1 0) 0
miss x k e = ap (λ b. cond {A = ℕ} b 1 0) (ne_eqb x k e)

in_band_more : (lo n x : ℕ) → in_band lo (suc n) x ≡ in_band lo n x + cond (eqb x (lo + n)) 1 0
in_band_more lo n x =
    ⊎_elim
    (λ (under : x < lo). omega (arith, in_band_under lo (suc n) x under, in_band_under lo n x under, miss x (lo + n) (λ e. omega arith)))
    (λ (from : lo ≤ x). ⊎_elim
    (λ (q : x < lo + n). omega (arith, in_band_yes lo (suc n) x from (omega arith), in_band_yes lo n x from q, miss x (lo + n) (λ e. omega arith)))
    (λ (q : lo + n ≤ x). ⊎_elim
    (λ (e : x ≡ lo + n). omega (arith, in_band_yes lo (suc n) x from (omega arith), in_band_over lo n x q, hit x (lo + n) e))
    (λ (ne : x ≡ lo + n → ⊥). omega (arith, in_band_over lo (suc n) x (omega arith), in_band_over lo n x q, miss x (lo + n) ne))
    (cases_eq x (lo + n)))
    (cases_lt x (lo + n)))
    (cases_lt x lo)

band_more : (lo n : ℕ) (xs : List ℕ) → band lo (suc n) xs ≡ band lo n xs + level (lo + n) xs
band_more lo n [] = refl
band_more lo n (x ∷ xs) = omega (arith, in_band_more lo n x, band_more lo n xs)

one_at_most : (b c : Bool) → cond b (cond c 1 0) 0 ≤ 1
one_at_most true true = omega arith
one_at_most true false = omega arith
one_at_most false c = omega arith

band_le : (lo n : ℕ) (xs : List ℕ) → band lo n xs ≤ length xs
band_le lo n [] = omega arith
band_le lo n (x ∷ xs) = omega (arith, one_at_most (leb lo x) (ltb x (lo + n)), band_le lo n xs)

full : (lo n : ℕ) (xs : List ℕ) → ((k : ℕ) → lo ≤ k → k < lo + n → 1 ≤ level k xs) → n ≤ band lo n xs
full lo zero xs h = omega arith
full lo (suc n) xs h = omega (arith, band_more lo n xs, full lo n xs (λ k p q. h k p (omega arith)), h (lo + n) (omega arith) (omega arith))

-- n levels in a row, each with one number at least
pub row_of_levels : (lo n : ℕ) (xs : List ℕ) → ((k : ℕ) → lo ≤ k → k < lo + n → 1 ≤ level k xs) → n ≤ length xs
row_of_levels lo n xs h = omega (arith, full lo n xs h, band_le lo n xs)

pub level_has : (xs : List ℕ) (i k : ℕ) → i < length xs → get_or xs i 0 ≡ k → 1 ≤ level k xs
level_has [] i k h e = absurd (omega arith)
level_has (x ∷ xs) zero k h e = omega (arith, hit x k e)
level_has (x ∷ xs) (suc i) k h e = omega (arith, level_has xs i k (omega arith) e)

-- a level that none of the 64 cabinets stands at is empty
pub empty_of_none : (hs : List ℕ) (k : ℕ) → length hs ≡ cabinets → level k hs < 1 → Empty hs k
empty_of_none hs k long none w l e = omega (arith, level_has hs w k (omega arith) e)

-- a level that is not empty holds a cabinet
pub held : (hs : List ℕ) (k : ℕ) → length hs ≡ cabinets → (Empty hs k → ⊥) → 1 ≤ level k hs
held hs k long some =
    ⊎_elim
    (λ (none : level k hs < 1). absurd (some (empty_of_none hs k long none)))
    (λ (one : 1 ≤ level k hs). one)
    (cases_lt (level k hs) 1)

-- past 64 levels that each hold a cabinet the next is empty
pub empty_past : (hs : List ℕ) → length hs ≡ cabinets → ((j : ℕ) → 1 ≤ j → j < 65 → 1 ≤ level j hs) → Empty hs 65
empty_past hs long row w l e =
    omega (arith, row_of_levels 1 65 hs (λ j lo hi. ⊎_elim (λ (here : 65 ≡ j). level_has hs w j (omega arith) (e ∙ here)) (λ (ne : 65 ≡ j → ⊥). row j lo (omega arith)) (cases_eq 65 j)))
