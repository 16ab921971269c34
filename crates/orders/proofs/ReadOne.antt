-- What one reading gives, for any table in which no two lines have the same mark.
use Rattle.std.proofs.Common.{◌≡◌, ℕ, ◌≤◌, Bool, true, false, cond, ◌&&◌, eqb, leb, List, [], ◌∷◌, ◌++◌, length, take, drop, Some, None, Ok, Err, Option, Result, refl, ap, ◌∙◌, subst, inl, inr, arith}
use Rattle.std.specs.List.{ContainsAt as Has, AllByRecursion}
use Rattle.std.proofs.ByRecursion.{all-has, has_append_right}
use Rattle.std.proofs.lemmas.List.{length-append, length-take-le, take-append-drop, take_at}
use Rattle.std.proofs.lemmas.Bool.{and_parts, eqb-true, leb-true, leb-false, le-leb, cond-true}
use Rattle.orders.specs.declared.record.RecordFault.{RecordFault}
use Rattle.orders.specs.declared.record.RecordFault.TheVariants.{Short, Unknown}
use Rattle.orders.specs.Records.{Stop, Entry, Item, bytes, lookup, cut, read, Known, Begins, Deserve, Stops}

module _ {K : Type 0} where
  -- No two lines of the table have the same mark: each line is the one that its own mark finds.
  abbrev pub Apart : List (Entry K) → Type 0
  Apart table = AllByRecursion (λ e. lookup table e.first e.second ≡ Some e) table

  -- A line that a mark finds stands in the table and has that mark.
  pub lookup_finds : (table : List (Entry K)) (a b : ℕ) (e : Entry K) → lookup table a b ≡ Some e → Has table e × (a ≡ e.first) × (b ≡ e.second)
  lookup_finds [] a b e h = let z : ◌≡◌ {A = ℕ} 0 1 = cc in absurd (omega arith)
  lookup_finds (x ∷ xs) a b e h = by (λ q. lookup_finds xs a b e q) (eqb a x.first && eqb b x.second) refl h
    where
      by : (lookup xs a b ≡ Some e → Has xs e × (a ≡ e.first) × (b ≡ e.second)) → (t : Bool) → (eqb a x.first && eqb b x.second) ≡ t → cond t (Some x) (lookup xs a b) ≡ Some e → Has (x ∷ xs) e × (a ≡ e.first) × (b ≡ e.second)
      by below true p q =
          let same : x ≡ e = cc in
          let parts = and_parts _ _ p in
          ((0, omega arith, λ d. same), eqb-true _ _ parts.0 ∙ ap (λ y. y.first) same, eqb-true _ _ parts.1 ∙ ap (λ y. y.second) same)
      by below false p q = let found = below q in (has_append_right (x ∷ []) xs e found.0, found.1, found.2)

  -- A listed line is what its mark finds.
  pub listed_found : (table : List (Entry K)) (e : Entry K) → Apart table → Has table e → lookup table e.first e.second ≡ Some e
  listed_found table e apart has = all-has (λ x. lookup table x.first x.second ≡ Some x) table e apart has

  -- A known record at the front is what is read.
  pub known_read : (table : List (Entry K)) (i : Item K) (after : List ℕ) → Apart table → Known table i → read table (bytes i ++ after) ≡ Ok i
  known_read table i after apart known =
      let line = listed_found table i.entry apart known.listed in
      let fits : i.entry.long ≤ length (i.body ++ after) = omega (arith, length-append i.body after, known.whole) in
      let test = le-leb _ _ fits in
      let front = take_at i.body after i.entry.long known.whole in
      ap (λ o. cut o (i.body ++ after)) line
      ∙ cond-true _ _ _ test
      ∙ ap (λ (b : List ℕ). Ok (record { entry = i.entry; body = b })) front

  -- What reading a record says of the bytes that were left.
  abbrev Front : List (Entry K) → List ℕ → Item K → Type 0
  Front table bs i = Known table i × (bs ≡ bytes i ++ drop (length (bytes i)) bs)

  -- What the bytes after a known mark give, by whether there are enough.
  abbrev cut_by : Bool → Entry K → List ℕ → Result (Item K) Stop
  cut_by enough e bs = cond enough (Ok (record { entry = e; body = take e.long bs })) (Err (Some Short))

  cut_front : (table : List (Entry K)) (a b : ℕ) (bs : List ℕ) (i : Item K) (o : Option (Entry K)) → lookup table a b ≡ o → cut o bs ≡ Ok i → Front table (a ∷ b ∷ bs) i
  cut_front table a b bs i None line h = let z : ◌≡◌ {A = ℕ} 0 1 = cc in absurd (omega arith)
  cut_front table a b bs i (Some e) line h = by (leb e.long (length bs)) refl h
    where
      by : (t : Bool) → leb e.long (length bs) ≡ t → cut_by t e bs ≡ Ok i → Front table (a ∷ b ∷ bs) i
      by true p q =
          let found = lookup_finds table a b e line in
          let is : record { entry = e; body = take e.long bs } ≡ i = cc in
          let long = length-take-le e.long bs (leb-true _ _ p) in
          let split = take-append-drop e.long bs in
          let one = found.1 in
          let two = found.2 in
          let at : Front table (a ∷ b ∷ bs) (record { entry = e; body = take e.long bs }) =
          (record { listed = found.0; whole = long }, cc) in
          subst (Front table (a ∷ b ∷ bs)) is at
      by false p q = let z : ◌≡◌ {A = ℕ} 0 1 = cc in absurd (omega arith)

  -- A record that is read is known, and its bytes stand at the front.
  pub read_front : (table : List (Entry K)) (bs : List ℕ) (i : Item K) → read table bs ≡ Ok i → Front table bs i
  read_front table [] i h = let z : ◌≡◌ {A = ℕ} 0 1 = cc in absurd (omega arith)
  read_front table (a ∷ []) i h = let z : ◌≡◌ {A = ℕ} 0 1 = cc in absurd (omega arith)
  read_front table (a ∷ b ∷ bs) i h = cut_front table a b bs i (lookup table a b) refl h

  -- The stop is a fault that these bytes deserve.
  abbrev Faulty : List (Entry K) → List ℕ → Stop → Type 0
  Faulty table bs None = ⊥
  Faulty table bs (Some f) = Deserve table bs f

  cut_faulty : (table : List (Entry K)) (a b : ℕ) (bs : List ℕ) (s : Stop) (o : Option (Entry K)) → Apart table → lookup table a b ≡ o → cut o bs ≡ Err s → Faulty table (a ∷ b ∷ bs) s
  cut_faulty table a b bs s None apart line h =
      let is : Some Unknown ≡ s = cc in
      let at : Deserve table (a ∷ b ∷ bs) Unknown = (
        omega arith,
        λ e after has same.
            let found = listed_found table e apart has in
            let z : ◌≡◌ {A = ℕ} 0 1 = cc in
            omega arith,
      ) in
      subst (Faulty table (a ∷ b ∷ bs)) is at
  cut_faulty table a b bs s (Some e) apart line h = by (leb e.long (length bs)) refl h
    where
      by : (t : Bool) → leb e.long (length bs) ≡ t → cut_by t e bs ≡ Err s → Faulty table (a ∷ b ∷ bs) s
      by true p q = let z : ◌≡◌ {A = ℕ} 0 1 = cc in absurd (omega arith)
      by false p q =
          let is : Some Short ≡ s = cc in
          let found = lookup_finds table a b e line in
          let one = found.1 in
          let two = found.2 in
          let at : Deserve table (a ∷ b ∷ bs) Short = inr (e, bs, found.0, cc, leb-false _ _ p) in
          subst (Faulty table (a ∷ b ∷ bs)) is at

  -- Where a known record stands, reading does not stop.
  front_read : (table : List (Entry K)) (bs : List ℕ) (s : Stop) → Apart table → read table bs ≡ Err s → Begins table bs → ⊥
  front_read table bs s apart h front =
      let known = known_read table front.0 front.1 apart front.2 in
      let same = ap (read table) front.3 in
      let z : ◌≡◌ {A = ℕ} 0 1 = cc in
      omega arith

  -- The stop that reading gives is the one before these bytes.
  pub read_stops : (table : List (Entry K)) (bs : List ℕ) (s : Stop) → Apart table → read table bs ≡ Err s → Stops table bs s
  read_stops table [] None apart h = refl
  read_stops table [] (Some f) apart h = let z : ◌≡◌ {A = ℕ} 0 1 = cc in absurd (omega arith)
  read_stops table (a ∷ []) None apart h = let z : ◌≡◌ {A = ℕ} 0 1 = cc in absurd (omega arith)
  read_stops table (a ∷ []) (Some Short) apart h = (front_read table (a ∷ []) (Some Short) apart h, inl refl)
  read_stops table (a ∷ []) (Some Unknown) apart h = let z : ◌≡◌ {A = ℕ} 0 1 = cc in absurd (omega arith)
  read_stops table (a ∷ b ∷ bs) None apart h = absurd (cut_faulty table a b bs None (lookup table a b) apart refl h)
  read_stops table (a ∷ b ∷ bs) (Some f) apart h = (front_read table (a ∷ b ∷ bs) (Some f) apart h, cut_faulty table a b bs (Some f) (lookup table a b) apart refl h)

  -- No bytes deserve no fault.
  none_deserved : (table : List (Entry K)) (f : RecordFault) → Deserve table [] f → ⊥
  none_deserved table Short (inl h) = omega arith
  none_deserved table Short (inr h) = let e = h.3 in let z : ◌≡◌ {A = ℕ} 0 1 = cc in omega arith
  none_deserved table Unknown h = omega (arith, h.0)

  -- The two faults are never deserved together.
  deserve_apart : (table : List (Entry K)) (bs : List ℕ) → Deserve table bs Short → Deserve table bs Unknown → ⊥
  deserve_apart table bs (inl h) u = omega (arith, u.0)
  deserve_apart table bs (inr h) u = u.1 h.0 h.1 h.2 h.3

  -- Bytes have one stop.
  pub stops_same : (table : List (Entry K)) (bs : List ℕ) (s t : Stop) → Stops table bs s → Stops table bs t → s ≡ t
  stops_same table bs None None p q = refl
  stops_same table bs None (Some f) p q = absurd (none_deserved table f (subst (λ (xs : List ℕ). Deserve table xs f) p q.1))
  stops_same table bs (Some f) None p q = absurd (none_deserved table f (subst (λ (xs : List ℕ). Deserve table xs f) q p.1))
  stops_same table bs (Some Short) (Some Short) p q = refl
  stops_same table bs (Some Short) (Some Unknown) p q = absurd (deserve_apart table bs p.1 q.1)
  stops_same table bs (Some Unknown) (Some Short) p q = absurd (deserve_apart table bs q.1 p.1)
  stops_same table bs (Some Unknown) (Some Unknown) p q = refl

  -- Reading does not stop before a known record.
  pub stops_before : (table : List (Entry K)) (i : Item K) (after : List ℕ) (s : Stop) → Known table i → Stops table (bytes i ++ after) s → ⊥
  stops_before table i after None known h = let z : ◌≡◌ {A = ℕ} 0 1 = cc in omega arith
  stops_before table i after (Some f) known h = h.0 (i, after, known, refl)
