-- The rule of a link through the changes of a list of links.
use Rattle.std.proofs.Common.{◌≡◌, ℕ, zero, suc, ◌%◌, ◌<◌, ◌≤◌, ◌⊎◌, List, [], ◌∷◌, ◌++◌, length, get_or, take, drop, sym, refl, ap, subst, inl, inr, arith, length-append, length-drop, length-set, length-take, get_or-set_other, get_or-set_same}
use Rattle.std.proofs.lemmas.Bool.{cases_eq}
use Rattle.std.specs.List.{remove}
use Rattle.mesh.specs.declared.row.Row.{Row}
use Rattle.mesh.specs.Links.{KeepsRule, blank}
use Rattle.book.specs.History.{resized, slots_of}
use Rattle.book.specs.Books.{AllRuled}

pub ruled_push : (rows : List Row) (r : Row) → AllRuled rows → KeepsRule r → AllRuled (rows ++ (r ∷ []))
ruled_push [] r h g zero d q = g
ruled_push [] r h g (suc k) d q = absurd (omega arith)
ruled_push (x ∷ rows) r h g zero d q = h 0 d (omega arith)
ruled_push (x ∷ rows) r h g (suc k) d q = ruled_push rows r (λ j e l. h (suc j) e (omega arith)) g k d (omega arith)

pub ruled_resize : (rows : List Row) (l n : ℕ) → AllRuled rows → n % 2 ≡ 0 → n ≤ 1048576 → AllRuled (resized rows l n)
ruled_resize rows l n h even few k d q = by (cases_eq k l)
  where
    len : k < length rows
    len = omega (arith, q, length-set rows l (record { low = (get_or rows l blank).low; high = (get_or rows l blank).high; slots = n }))

    by : (k ≡ l) ⊎ (k ≡ l → ⊥) → KeepsRule (get_or (resized rows l n) k d)
    by (inl e) =
        let lt : l < length rows = omega (arith, len, e) in
        let f = h l blank lt in
        subst (λ (j : ℕ). KeepsRule (get_or (resized rows l n) j d)) (sym e)
        (subst KeepsRule (sym (get_or-set_same rows l (record { low = (get_or rows l blank).low; high = (get_or rows l blank).high; slots = n }) d lt)) (f.0, f.1, even, few))
    by (inr e) = subst KeepsRule (sym (get_or-set_other rows l k (record { low = (get_or rows l blank).low; high = (get_or rows l blank).high; slots = n }) d e)) (h k d len)

-- what stands in the list after a removal stood in it before
removed_at : (rows : List Row) (l k : ℕ) (d : Row) → k < length (remove rows l) → (j : ℕ) × ((j < length rows) × (get_or (remove rows l) k d ≡ get_or rows j d))
removed_at [] zero k d q = absurd (omega arith)
removed_at [] (suc l) k d q = absurd (omega arith)
removed_at (r ∷ rows) zero k d q = (suc k, (omega arith, refl))
removed_at (r ∷ rows) (suc l) zero d q = (0, (omega arith, refl))
removed_at (r ∷ rows) (suc l) (suc k) d q = let w = removed_at rows l k d (omega arith) in (suc w.0, (omega (arith, w.1.0), w.1.1))

pub ruled_remove : (rows : List Row) (l : ℕ) → AllRuled rows → AllRuled (remove rows l)
ruled_remove rows l h k d q = let w = removed_at rows l k d q in subst KeepsRule (sym w.1.1) (h w.0 d w.1.0)

pub few_push : (rows : List Row) (r : Row) → length rows < 512 → length (rows ++ (r ∷ [])) ≤ 512
few_push rows r h = omega (arith, length-append rows (r ∷ []))

pub few_resize : (rows : List Row) (l n : ℕ) → length rows ≤ 512 → length (resized rows l n) ≤ 512
few_resize rows l n h = omega (arith, length-set rows l (record { low = (get_or rows l blank).low; high = (get_or rows l blank).high; slots = n }))

pub few_remove : (rows : List Row) (l : ℕ) → length rows ≤ 512 → length (remove rows l) ≤ 512
few_remove rows l h = omega (arith, length-append (take l rows) (drop (suc l) rows), length-take l rows, length-drop (suc l) rows)

-- a link without slots is still there
pub emptied : (rows : List Row) (l : ℕ) → l < length rows → (l < length (resized rows l 0)) × (slots_of (resized rows l 0) l ≡ 0)
emptied rows l h = (simp length-set h, ap (λ (r : Row). r.slots) (get_or-set_same rows l _ blank h))
