-- The ends of a link, and the links at a cabinet.
use Rattle.std.proofs.Common.{◌≡◌, ℕ, zero, suc, ◌+◌, ◌<◌, ◌≤◌, Bool, true, false, cond, eqb, ◌⊎◌, List, ◌∷◌, length, get_or, filter, sym, ap, ◌∙◌, subst, inl, inr, arith}
use Rattle.std.specs.List.{range_with_len, AllByRecursion}
use Rattle.std.proofs.ByRecursion.{All-get_or, all_kept_by, kept_by_passes}
use Rattle.std.proofs.lemmas.Bool.{eq-eqb, ne_eqb, eqb-true, or_cases, cond-true, cond-false, cond_both, cases_eq, true≢false}
use Rattle.search.specs.Graphs.{Mesh, Lawful, touches, incident, across}

module _ (m : Mesh) (u l : ℕ) where
  pub across_first : m.first l ≡ u → across m u l ≡ m.second l
  across_first e = cond-true _ (m.second l) (m.first l) (eq-eqb _ _ e)

  pub across_second : (m.first l ≡ u → ⊥) → across m u l ≡ m.first l
  across_second n = cond-false _ (m.second l) (m.first l) (ne_eqb _ _ n)

  pub across_in : Lawful m → l < m.links → across m u l < 64
  across_in laws h =
      cond_both (eqb (m.first l) u) (m.second l) (m.first l) (λ x. x < 64) (λ _. laws.second_in l h) (λ _. laws.first_in l h)

  pub touch_cases : touches m u l ≡ true → (m.first l ≡ u) ⊎ (m.second l ≡ u)
  touch_cases t = elim (or_cases (eqb (m.first l) u) (eqb (m.second l) u) t) [
    | inl a ↦ inl (eqb-true (m.first l) u a)
    | inr b ↦ inr (eqb-true (m.second l) u b)
  ]

counting_below : (a n : ℕ) → AllByRecursion (λ l. l < a + n) (range_with_len a n)
counting_below a zero = tt
counting_below a (suc n) =
    let e : (a + 1) + n ≡ a + suc n = omega arith in
    (omega arith, subst (λ (b : ℕ). AllByRecursion (λ l. l < b) (range_with_len (a + 1) n)) e (counting_below (a + 1) n))

-- Each link of the row is listed, and touches the cabinet.
pub incident_sound : (m : Mesh) (v : ℕ) → AllByRecursion (λ l. l < m.links) (incident m v) × AllByRecursion (λ l. touches m v l ≡ true) (incident m v)
incident_sound m v =
    let e : 0 + m.links ≡ m.links = omega arith in (
      all_kept_by (touches m v) (λ l. l < m.links) (range_with_len 0 m.links) (subst (λ (b : ℕ). AllByRecursion (λ l. l < b) (range_with_len 0 m.links)) e (counting_below 0 m.links)),
      kept_by_passes (touches m v) (range_with_len 0 m.links),
    )

kept_cons : (p : ℕ → Bool) (P : ℕ → Type 0) (x : ℕ) (xs : List ℕ) (b : Bool) → AllByRecursion P (cond b (x ∷ filter p xs) (filter p xs)) → AllByRecursion P (filter p xs) × (b ≡ true → P x)
kept_cons p P x xs true a = (a.1, λ _. a.0)
kept_cons p P x xs false a = (a, λ h. absurd (true≢false (sym h)))

kept_counting : (p : ℕ → Bool) (P : ℕ → Type 0) (a n l : ℕ) → AllByRecursion P (filter p (range_with_len a n)) → a ≤ l → l < a + n → p l ≡ true → P l
kept_counting p P a zero l h lo hi t = absurd (omega arith)
kept_counting p P a (suc n) l h lo hi t =
    let k = kept_cons p P a (range_with_len (a + 1) n) (p a) h in
    elim (cases_eq a l) [
      | inl e ↦ subst P e (k.1 (ap p e ∙ t))
      | inr ne ↦ kept_counting p P (a + 1) n l k.0 (omega arith) (omega arith) t
    ]

-- What holds of each link of the row holds of each link that touches the cabinet.
pub incident_complete : (m : Mesh) (v : ℕ) (P : ℕ → Type 0) → AllByRecursion P (incident m v) → (l : ℕ) → l < m.links → touches m v l ≡ true → P l
incident_complete m v P a l h t = kept_counting (touches m v) P 0 m.links l a (omega arith) (omega arith) t

-- The link at a place of the row.
pub row_link : (m : Mesh) (v : ℕ) (row : List ℕ) (i : ℕ) → row ≡ incident m v → i < length row → (get_or row i 0 < m.links) × (touches m v (get_or row i 0) ≡ true)
row_link m v row i e h =
    let s = incident_sound m v in
    let k : i < length (incident m v) = subst (λ (xs : List ℕ). i < length xs) e h in
    subst (λ (xs : List ℕ). (get_or xs i 0 < m.links) × (touches m v (get_or xs i 0) ≡ true)) (sym e)
    (All-get_or (λ l. l < m.links) (incident m v) i 0 k s.0, All-get_or (λ l. touches m v l ≡ true) (incident m v) i 0 k s.1)
