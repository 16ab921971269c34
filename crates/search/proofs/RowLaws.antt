-- Every link stands in the rows of its two ends and nowhere else, in ascending order.
use Rattle.std.proofs.Common.{◌≡◌, ℕ, zero, suc, ◌+◌, ◌<◌, ◌≤◌, Bool, true, false, cond, eqb, List, [], ◌∷◌, filter, inl, inr, arith}
use Rattle.std.specs.List.{range_with_len, ContainsAt as Has, AllByRecursion}
use Rattle.std.proofs.ByRecursion.{all_kept_by, All-weaker, all_has_itself}
use Rattle.std.proofs.lemmas.Bool.{eq-eqb, or_left, or_right}
use Rattle.search.specs.Graphs.{Mesh, touches, incident}
use Rattle.search.specs.Laws.{EndOf, Ascending, RowLaw}
use Rattle.search.proofs.Meshes.{touch_cases, incident_sound, incident_complete}

both : (P Q : ℕ → Type 0) (xs : List ℕ) → AllByRecursion P xs → AllByRecursion Q xs → AllByRecursion (λ x. P x × Q x) xs
both P Q [] a b = tt
both P Q (x ∷ xs) a b = ((a.0, b.0), both P Q xs a.1 b.1)

counting_above : (a n : ℕ) → AllByRecursion (λ l. a ≤ l) (range_with_len a n)
counting_above a zero = tt
counting_above a (suc n) = (omega arith, All-weaker (λ l. a + 1 ≤ l) (λ l. a ≤ l) (λ l h. omega arith) (range_with_len (a + 1) n) (counting_above (a + 1) n))

ascending_cons : (p : ℕ → Bool) (x : ℕ) (xs : List ℕ) (b : Bool) → AllByRecursion (λ y. x < y) (filter p xs) → Ascending (filter p xs) → Ascending (cond b (x ∷ filter p xs) (filter p xs))
ascending_cons p x xs true h a = (h, a)
ascending_cons p x xs false h a = a

kept_ascends : (p : ℕ → Bool) (a n : ℕ) → Ascending (filter p (range_with_len a n))
kept_ascends p a zero = tt
kept_ascends p a (suc n) =
    ascending_cons p a (range_with_len (a + 1) n) (p a)
    (all_kept_by p (λ y. a < y) (range_with_len (a + 1) n) (All-weaker (λ l. a + 1 ≤ l) (λ y. a < y) (λ l h. omega arith) (range_with_len (a + 1) n) (counting_above (a + 1) n)))
    (kept_ascends p (a + 1) n)

end_touches : (m : Mesh) (v l : ℕ) → EndOf m v l → touches m v l ≡ true
end_touches m v l (inl e) = or_left (eqb (m.first l) v) (eqb (m.second l) v) (eq-eqb (m.first l) v e)
end_touches m v l (inr e) = or_right (eqb (m.first l) v) (eqb (m.second l) v) (eq-eqb (m.second l) v e)

pub row_law : RowLaw
row_law m v =
    let s = incident_sound m v in
    record {
      only = All-weaker (λ l. (l < m.links) × (touches m v l ≡ true)) (λ l. (l < m.links) × EndOf m v l) (λ l h. (h.0, touch_cases m v l h.1)) (incident m v)
          (both (λ l. l < m.links) (λ l. touches m v l ≡ true) (incident m v) s.0 s.1);
      every = λ l h e. incident_complete m v (Has (incident m v)) (all_has_itself (incident m v)) l h (end_touches m v l e);
      ascending = kept_ascends (touches m v) 0 m.links;
    }
