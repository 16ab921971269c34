-- No two links on the same two cabinets, through the changes of a list of links.
use Rattle.std.proofs.Common.{◌≡◌, ℕ, zero, suc, ◌+◌, ◌<◌, ◌≤◌, true, false, cond, ltb, ◌⊎◌, List, [], ◌∷◌, ◌++◌, length, get_or, sym, refl, ap, ◌∙◌, inl, inr, arith, length-set}
use Rattle.std.proofs.lemmas.List.{length_push, get_or_append_left, get_or_push}
use Rattle.std.proofs.lemmas.List.Edits.{length-remove, get_or-remove_below, get_or-remove_above}
use Rattle.std.proofs.lemmas.Bool.{cases_lt}
use Rattle.std.proofs.lemmas.Bool.Decides.{nat_tests}
use Rattle.std.specs.List.{remove}
use Rattle.mesh.specs.declared.row.Row.{Row}
use Rattle.mesh.specs.Links.{blank}
use Rattle.book.specs.History.{linked, resized}
use Rattle.book.specs.Books.{NoPairTwice}

-- where a search for a pair finds nothing, no row has that pair
unlinked : (rows : List Row) (a b : ℕ) → linked rows a b ≡ false → (k : ℕ) (d : Row) → k < length rows → (get_or rows k d).low ≡ a → (get_or rows k d).high ≡ b → ⊥
unlinked [] a b e k d q x y = omega arith
unlinked (r ∷ rows) a b e zero d q x y = grind (arith, nat_tests)
unlinked (r ∷ rows) a b e (suc k) d q x y =
    let f : linked rows a b ≡ false = grind (arith, nat_tests) in
    unlinked rows a b f k d (omega arith) x y

pub single_push : (rows : List Row) (r : Row) → linked rows r.low r.high ≡ false → NoPairTwice rows → NoPairTwice (rows ++ (r ∷ []))
single_push rows r e h j k d lt q x y = by (cases_lt k (length rows))
  where
    left : j < length rows → get_or (rows ++ (r ∷ [])) j d ≡ get_or rows j d
    left p = get_or_append_left rows (r ∷ []) d j p

    by : (k < length rows) ⊎ (length rows ≤ k) → ⊥
    by (inl p) =
        let at_k = get_or_append_left rows (r ∷ []) d k p in
        let at_j = left (omega arith) in
        h j k d lt p (ap (λ (z : Row). z.low) (sym at_j) ∙ (x ∙ ap (λ (z : Row). z.low) at_k)) (ap (λ (z : Row). z.high) (sym at_j) ∙ (y ∙ ap (λ (z : Row). z.high) at_k))
    by (inr p) =
        let last : length rows ≡ k = omega (arith, length_push rows r) in
        let at_k = get_or_push rows r d k last in
        let at_j = left (omega arith) in
        unlinked rows r.low r.high e j d (omega arith) (ap (λ (z : Row). z.low) (sym at_j) ∙ (x ∙ ap (λ (z : Row). z.low) at_k)) (ap (λ (z : Row). z.high) (sym at_j) ∙ (y ∙ ap (λ (z : Row). z.high) at_k))

-- a list whose rows have the ends of rows of another, in the same order
pub record DrawnFrom (ys xs : List Row) (at : ℕ → ℕ) : Type 0 where
  pub order : (j k : ℕ) → j < k → at j < at k
  pub there : (k : ℕ) → k < length ys → at k < length xs
  pub low : (k : ℕ) (d : Row) → k < length ys → (get_or ys k d).low ≡ (get_or xs (at k) d).low
  pub high : (k : ℕ) (d : Row) → k < length ys → (get_or ys k d).high ≡ (get_or xs (at k) d).high

single_from : (xs ys : List Row) (at : ℕ → ℕ) → DrawnFrom ys xs at → NoPairTwice xs → NoPairTwice ys
single_from xs ys at f h j k d lt q x y =
    let p : j < length ys = omega arith in
    h (at j) (at k) d (f.order j k lt) (f.there k q) (sym (f.low j d p) ∙ (x ∙ f.low k d q)) (sym (f.high j d p) ∙ (y ∙ f.high k d q))

resized_ends : (rows : List Row) (l n k : ℕ) (d : Row) → (k < length rows) → ((get_or (resized rows l n) k d).low ≡ (get_or rows k d).low) × ((get_or (resized rows l n) k d).high ≡ (get_or rows k d).high)
resized_ends [] l n k d q = absurd (omega arith)
resized_ends (r ∷ rows) zero n zero d q = (refl, refl)
resized_ends (r ∷ rows) zero n (suc k) d q = (refl, refl)
resized_ends (r ∷ rows) (suc l) n zero d q = (refl, refl)
resized_ends (r ∷ rows) (suc l) n (suc k) d q = resized_ends rows l n k d (omega arith)

pub single_resize : (rows : List Row) (l n : ℕ) → NoPairTwice rows → NoPairTwice (resized rows l n)
single_resize rows l n h = single_from rows (resized rows l n) (λ k. k) (record {
  order = λ j k p. p;
  there = λ k q. long k q;
  low = λ k d q. (resized_ends rows l n k d (long k q)).0;
  high = λ k d q. (resized_ends rows l n k d (long k q)).1;
}) h
  where
    long : (k : ℕ) → k < length (resized rows l n) → k < length rows
    long k q = omega (arith, length-set rows l (record { low = (get_or rows l blank).low; high = (get_or rows l blank).high; slots = n }))

-- where the row that stands at k after a removal at l stood before
before : ℕ → ℕ → ℕ
before l k = cond (ltb k l) k (k + 1)

removed_at : (rows : List Row) (l k : ℕ) (d : Row) → l < length rows → get_or (remove rows l) k d ≡ get_or rows (before l k) d
unfolding before
removed_at rows l k d p = by (cases_lt k l)
  where
    by : (k < l) ⊎ (l ≤ k) → get_or (remove rows l) k d ≡ get_or rows (cond (ltb k l) k (k + 1)) d
    by (inl q) = let e : ltb k l ≡ true = grind (arith, nat_tests) in rw e (get_or-remove_below rows l d k q p)
    by (inr q) = let e : ltb k l ≡ false = grind (arith, nat_tests) in rw e (get_or-remove_above rows l d k q p)

pub single_remove : (rows : List Row) (l : ℕ) → l < length rows → NoPairTwice rows → NoPairTwice (remove rows l)
unfolding before
single_remove rows l p h = single_from rows (remove rows l) (before l) (record {
  order = λ j k q. grind (arith, nat_tests);
  there = λ k q. let n = length-remove rows l p in grind (arith, nat_tests);
  low = λ k d q. ap (λ (z : Row). z.low) (removed_at rows l k d p);
  high = λ k d q. ap (λ (z : Row). z.high) (removed_at rows l k d p);
}) h
