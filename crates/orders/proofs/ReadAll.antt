-- How readings follow one another to the end of a file, and that a file has one reading.
use Rattle.std.proofs.Common.{◌≡◌, ℕ, zero, suc, ◌+◌, ◌*◌, ◌≤◌, List, [], ◌∷◌, ◌++◌, length, drop, Ok, Err, Result, sym, refl, ap, ◌∙◌, subst, append_assoc, arith}
use Rattle.std.specs.List.{flat_map, AllByRecursion}
use Rattle.std.proofs.ByRecursion.{All-push}
use Rattle.std.proofs.lemmas.List.{length-append, append_cancel_left, drop-drop, flat_map_more}
use Rattle.orders.specs.Records.{Stop, Entry, Item, bytes, read, orders, Known, Stops, ReadAs, ReadUpTo, ReadOnce}
use Rattle.orders.proofs.ReadOne.{Apart, known_read, read_front, read_stops, stops_same, stops_before}

-- The marks of the order file's table are all different.
pub orders_apart : Apart orders
orders_apart = (refl, (refl, (refl, (refl, (refl, tt)))))

module _ {K : Type 0} (table : List (Entry K)) (file : List ℕ) where
  -- Before the first byte no record has been read.
  pub read_none : ReadUpTo table file [] 0
  read_none = record { joins = refl; long = refl; known = tt }

  -- A reader's answer on a file that is this one.
  answered : (place : ℕ) {other : List ℕ} {r : Result (Item K) Stop} → other ≡ file → r ≡ read table (drop place other) → read table (drop place file) ≡ r
  answered place same h = sym (h ∙ ap (λ (bs : List ℕ). read table (drop place bs)) same)

  -- One record more: the next place is past its bytes.
  pub read_more : {items : List (Item K)} {place next : ℕ} {i : Item K} {other : List ℕ} → ReadUpTo table file items place → other ≡ file → Ok i ≡ read table (drop place other) → next ≡ place + length (bytes i) → ReadUpTo table file (items ++ i ∷ []) next
  read_more {items} {place} {next} {i} so same h to =
      let front = read_front table (drop place file) i (answered place same h) in
      let after = drop-drop (length (bytes i)) place file ∙ ap (λ (n : ℕ). drop n file) (sym to) in
      let more = flat_map_more bytes [] items i in
      record {
        joins =
            so.joins
            ∙ ap (λ (bs : List ℕ). flat_map bytes items ++ bs) (front.1 ∙ ap (λ (bs : List ℕ). bytes i ++ bs) after)
            ∙ sym (append_assoc (flat_map bytes items) (bytes i) (drop next file))
            ∙ ap (λ (bs : List ℕ). bs ++ drop next file) more;
        long = omega (arith, so.long, length-append (flat_map bytes items) (bytes i), ap length more);
        known = All-push (Known table) items i so.known front.0;
      }

  -- Where reading stops, the file has been read.
  pub read_stopped : {items : List (Item K)} {place : ℕ} {stop : Stop} {other : List ℕ} → Apart table → ReadUpTo table file items place → other ≡ file → Err stop ≡ read table (drop place other) → ReadAs table file items stop
  read_stopped {items} {place} {stop} apart so same h =
      record { rest = drop place file; joins = so.joins; known = so.known; stops = read_stops table (drop place file) stop apart (answered place same h) }

module _ {K : Type 0} (table : List (Entry K)) where
  -- A file has a reading.
  abbrev Readable : List ℕ → Type 0
  Readable file = (items : List (Item K)) × (stop : Stop) × ReadAs table file items stop

  one_more : (bs : List ℕ) (i : Item K) → read table bs ≡ Ok i → Readable (drop (length (bytes i)) bs) → Readable bs
  one_more bs i h below =
      let front = read_front table bs i h in
      let inner = below.2 in (
        i ∷ below.0,
        below.1,
        record {
          rest = inner.rest;
          joins = front.1 ∙ ap (λ (xs : List ℕ). bytes i ++ xs) inner.joins ∙ sym (append_assoc (bytes i) (flat_map bytes below.0) inner.rest);
          known = (front.0, inner.known);
          stops = inner.stops;
        },
      )

  by_reading : (bs : List ℕ) (r : Result (Item K) Stop) → Apart table → ((i : Item K) → read table bs ≡ Ok i → Readable (drop (length (bytes i)) bs)) → read table bs ≡ r → Readable bs
  by_reading bs (Ok i) apart below h = one_more bs i h (below i h)
  by_reading bs (Err stop) apart below h = ([], stop, record { rest = bs; joins = refl; known = tt; stops = read_stops table bs stop apart h })

  -- Each record takes at least its mark, so the reading of n bytes ends.
  read_within : (n : ℕ) (bs : List ℕ) → Apart table → length bs ≤ n → Readable bs
  read_within zero bs apart le = by_reading bs (read table bs) apart (λ i h. let shorter = ap length (read_front table bs i h).1 in absurd (omega arith)) refl
  read_within (suc n) bs apart le =
      by_reading bs (read table bs) apart
      (λ i h.
      let shorter = ap length (read_front table bs i h).1 in
      let parts = length-append (bytes i) (drop (length (bytes i)) bs) in
      read_within n (drop (length (bytes i)) bs) apart (omega arith))
      refl

  -- Two readings that join to the same bytes are the same.
  same_joins : (items others : List (Item K)) (rest left : List ℕ) (s t : Stop) → Apart table → AllByRecursion (Known table) items → AllByRecursion (Known table) others → Stops table rest s → Stops table left t → flat_map bytes items ++ rest ≡ flat_map bytes others ++ left → (items ≡ others) × (s ≡ t)
  same_joins [] [] rest left s t apart ks ls p q h = (refl, stops_same table left s t (subst (λ (bs : List ℕ). Stops table bs s) h p) q)
  same_joins [] (j ∷ js) rest left s t apart ks ls p q h =
      let front = h ∙ append_assoc (bytes j) (flat_map bytes js) left in
      absurd (stops_before table j (flat_map bytes js ++ left) s ls.0 (subst (λ (bs : List ℕ). Stops table bs s) front p))
  same_joins (i ∷ is) [] rest left s t apart ks ls p q h =
      let front = sym h ∙ append_assoc (bytes i) (flat_map bytes is) rest in
      absurd (stops_before table i (flat_map bytes is ++ rest) t ks.0 (subst (λ (bs : List ℕ). Stops table bs t) front q))
  same_joins (i ∷ is) (j ∷ js) rest left s t apart ks ls p q h =
      let join = sym (append_assoc (bytes i) (flat_map bytes is) rest) ∙ h ∙ append_assoc (bytes j) (flat_map bytes js) left in
      let one = known_read table i (flat_map bytes is ++ rest) apart ks.0 in
      let other = known_read table j (flat_map bytes js ++ left) apart ls.0 in
      let both = ap (read table) join in
      let same : i ≡ j = cc in
      let cut = append_cancel_left (bytes j) (flat_map bytes is ++ rest) (flat_map bytes js ++ left) (subst (λ (k : Item K). bytes k ++ (flat_map bytes is ++ rest) ≡ bytes j ++ (flat_map bytes js ++ left)) same join) in
      let below = same_joins is js rest left s t apart ks.1 ls.1 p q cut in
      let tails = below.0 in
      (cc, below.1)

  -- Every file is read in one way and no other.
  pub read_once : Apart table → ReadOnce table
  read_once apart file = (
    read_within (length file) file apart (omega arith),
    λ items others stop other p q. same_joins items others p.rest q.rest stop other apart p.known q.known p.stops q.stops (sym p.joins ∙ q.joins),
  )

-- Each record has a mark of two bytes.
pub joined_long : {K : Type 0} (items : List (Item K)) → 2 * length items ≤ length (flat_map bytes items)
joined_long [] = omega arith
joined_long (i ∷ is) = omega (arith, joined_long is, length-append (bytes i) (flat_map bytes is))
