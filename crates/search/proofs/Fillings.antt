-- The passes that build the index: counts, starts, rows.
use Rattle.std.proofs.Common.{◌≡◌, ℕ, zero, suc, ◌+◌, ◌-◌, ◌*◌, ◌<◌, ◌≤◌, Bool, true, false, cond, ◌||◌, eqb, List, [], ◌∷◌, ◌++◌, length, get_or, take, drop, set, replicate, sum, count_by, filter, sym, refl, ap, ◌∙◌, subst, inl, inr, arith}
use Rattle.std.specs.List.{between, range_with_len}
use Rattle.std.proofs.lemmas.List.FromFn.{length-range_with_len, map-range_with_len_more, take-map-range_with_len}
use Rattle.std.proofs.lemmas.List.Elements.{filter-append}
use Rattle.std.proofs.lemmas.List.{append-nil, map-id, length-append, length-set, length-drop, get_or-set_same, get_or-set_other, drop-set-lt, drop-set-add, take-set-le, take_more_set, take_all, get_or-replicate, get_or_read}
use Rattle.std.proofs.lemmas.List.Sums.{length-filter, count_by-le-length, sum_by-take-le, sum_by-set, sum_by_more}
use Rattle.std.proofs.lemmas.Bool.{cases_eq, cases_lt, eq-eqb, ne_eqb, eqb-true, cond-true, cond-false}
use Rattle.search.specs.Graphs.{Mesh, mesh_by, Lawful, touches, incident}
use Rattle.search.specs.Rows.{Indexes, Counts, Starts, bumped}

-- The mesh of the first n links.
abbrev pub front : Mesh → ℕ → Mesh
front m n = record { links = n; first = m.first; second = m.second }

module _ (m : Mesh) where
  counting_push : (n : ℕ) → range_with_len 0 (n + 1) ≡ range_with_len 0 n ++ (n ∷ [])
  counting_push n =
      sym (map-id (range_with_len 0 (n + 1)))
      ∙ map-range_with_len_more (λ (x : ℕ). x) 0 n n (omega arith)
      ∙ ap (λ (xs : List ℕ). xs ++ (n ∷ [])) (map-id (range_with_len 0 n))

  -- one link more
  pub incident_more : (n v : ℕ) → incident (front m (n + 1)) v ≡ incident (front m n) v ++ cond (touches m v n) (n ∷ []) []
  incident_more n v = ap (filter (touches m v)) (counting_push n) ∙ filter-append (touches m v) (range_with_len 0 n) (n ∷ [])

  pub incident_short : (n v : ℕ) → length (incident (front m n) v) ≤ n
  incident_short n v =
      omega (arith, length-filter (touches m v) (range_with_len 0 n), count_by-le-length (touches m v) (range_with_len 0 n), length-range_with_len 0 n)

  counting_take : (k n : ℕ) → k ≤ n → take k (range_with_len 0 n) ≡ range_with_len 0 k
  counting_take k n h = ap (take k) (sym (map-id (range_with_len 0 n))) ∙ take-map-range_with_len (λ (x : ℕ). x) 0 n k h ∙ map-id (range_with_len 0 k)

  pub incident_rises : (k n v : ℕ) → k ≤ n → length (incident (front m k) v) ≤ length (incident (front m n) v)
  incident_rises k n v h =
      let a = length-filter (touches m v) (range_with_len 0 k) in
      let b = length-filter (touches m v) (range_with_len 0 n) in
      let t = sum_by-take-le (λ (l : ℕ). cond (touches m v l) 1 0) (range_with_len 0 n) k in
      let e = ap (count_by (touches m v)) (counting_take k n h) in
      omega (arith, a, b, t, e)

-- What two different ends add to the count of a cabinet, and to its row.
two_counts : (x y : Bool) (n l : ℕ) (r : List ℕ) → (x ≡ true → y ≡ true → ⊥) → n ≡ length r → n + cond x 1 0 + cond y 1 0 ≡ length (r ++ cond (x || y) (l ∷ []) [])
two_counts true true n l r h e = absurd (h refl refl)
two_counts true false n l r h e = omega (arith, e, length-append r (l ∷ []))
two_counts false true n l r h e = omega (arith, e, length-append r (l ∷ []))
two_counts false false n l r h e = omega (arith, e, length-append r [])

two_rows : (x y : Bool) (l : ℕ) (r : List ℕ) → (x ≡ true → y ≡ true → ⊥) → cond y (cond x (r ++ (l ∷ [])) r ++ (l ∷ [])) (cond x (r ++ (l ∷ [])) r) ≡ r ++ cond (x || y) (l ∷ []) []
two_rows true true l r h = absurd (h refl refl)
two_rows true false l r h = refl
two_rows false true l r h = refl
two_rows false false l r h = sym (append-nil r)

not_both : (a b v : ℕ) → (a ≡ b → ⊥) → eqb a v ≡ true → eqb b v ≡ true → ⊥
not_both a b v n x y = n (eqb-true a v x ∙ sym (eqb-true b v y))

-- a and b are the two ends of the link n.
pub record Joint (m : Mesh) (n a b : ℕ) : Type 0 where
  pub listed : n < m.links
  pub is_first : a ≡ m.first n
  pub is_second : b ≡ m.second n
  pub first_in : a < 64
  pub second_in : b < 64
  pub apart : a ≡ b → ⊥

-- The ends that were read off a link are those of the link with that number.
pub joint : {T : Type 0} (first second : T → ℕ) (none : T) (links : List T) (x : T) (n a b : ℕ) → Lawful (mesh_by first second none links) → n < length links → x ≡ get_or links n x → a ≡ first x → b ≡ second x → Joint (mesh_by first second none links) n a b
joint first second none links x n a b laws h r ea eb =
    let at = get_or_read links n x h r none in
    let fa = ea ∙ ap first at in
    let fb = eb ∙ ap second at in
    record {
      listed = h;
      is_first = fa;
      is_second = fb;
      first_in = omega (arith, fa, laws.first_in n h);
      second_in = omega (arith, fb, laws.second_in n h);
      apart = λ e. laws.apart n h (sym fa ∙ e ∙ fb);
    }

-- One more at the cabinet a.
get_or_bumped : (counts : List ℕ) (a v : ℕ) → a < length counts → get_or (bumped counts a) v 0 ≡ get_or counts v 0 + cond (eqb a v) 1 0
get_or_bumped counts a v h = elim (cases_eq a v) [
  | inl e ↦
      let t : ◌≡◌ {A = ℕ} (cond (eqb a v) 1 0) 1 = cond-true (eqb a v) 1 0 (eq-eqb a v e) in
      let s = get_or-set_same counts a (get_or counts a 0 + 1) 0 h in
      let at = ap (λ (k : ℕ). get_or (bumped counts a) k 0) e in
      let old = ap (λ (k : ℕ). get_or counts k 0) e in
      omega (arith, t, s, at, old)
  | inr n ↦
      let f : ◌≡◌ {A = ℕ} (cond (eqb a v) 1 0) 0 = cond-false (eqb a v) 1 0 (ne_eqb a v n) in
      let o = get_or-set_other counts a v (get_or counts a 0 + 1) 0 (λ e. n (sym e)) in
      omega (arith, f, o)
]

-- The first n links have been counted.
pub record Counting (m : Mesh) (counts : List ℕ) (n : ℕ) : Type 0 where
  pub long : length counts ≡ 64
  pub each : Counts counts (front m n)
  pub total : sum counts ≡ 2 * n

pub counting_none : (m : Mesh) → Counting m (replicate 64 0) 0
counting_none m = record { long = refl; each = λ v h. get_or-replicate 64 v 0 0 h; total = refl }

pub counting_low : (m : Mesh) (counts : List ℕ) (n a : ℕ) → n ≤ 512 → a < 64 → Counting m counts n → get_or counts a 0 ≤ 512
counting_low m counts n a few h c = omega (arith, c.each a h, incident_short m n a)

pub counting_more : (m : Mesh) (counts cs ds : List ℕ) (n a b : ℕ) → Joint m n a b → cs ≡ bumped counts a → ds ≡ bumped cs b → Counting m counts n → Counting m ds (n + 1)
counting_more m counts cs ds n a b j e f c =
    let ea = j.is_first in
    let eb = j.is_second in
    let ha = j.first_in in
    let hb = j.second_in in
    let lc : length cs ≡ 64 = ap length e ∙ length-set counts a (get_or counts a 0 + 1) ∙ c.long in
    let ld : length ds ≡ 64 = ap length f ∙ length-set cs b (get_or cs b 0 + 1) ∙ lc in
    let s1 = sum_by-set (λ (x : ℕ). x) counts a (get_or counts a 0 + 1) 0 (omega (arith, c.long)) in
    let s2 = sum_by-set (λ (x : ℕ). x) cs b (get_or cs b 0 + 1) 0 (omega (arith, lc)) in
    record {
      long = ld;
      each = λ v h.
          let one = ap (λ (xs : List ℕ). get_or xs v 0) e ∙ get_or_bumped counts a v (omega (arith, c.long)) in
          let two = ap (λ (xs : List ℕ). get_or xs v 0) f ∙ get_or_bumped cs b v (omega (arith, lc)) in
          let sum2 = two_counts (eqb a v) (eqb b v) (get_or counts v 0) n (incident (front m n) v) (not_both a b v j.apart) (c.each v h) in
          let both : length (incident (front m n) v ++ cond (eqb a v || eqb b v) (n ∷ []) []) ≡ length (incident (front m (n + 1)) v) =
          ap length (ap (λ (x : ℕ). incident (front m n) v ++ cond (eqb x v || eqb b v) (n ∷ []) []) ea
          ∙ ap (λ (y : ℕ). incident (front m n) v ++ cond (eqb (m.first n) v || eqb y v) (n ∷ []) []) eb
          ∙ sym (incident_more m n v)) in
          omega (arith, one, two, sum2, both);
      total = omega (arith, s1, s2, ap sum e, ap sum f, c.total);
    }

-- The sums of the counts leave room for the rows.
pub starts_room : (m : Mesh) → m.links ≤ 512 → (counts starts : List ℕ) → length counts ≡ 64 → Counts counts m → sum counts ≡ 2 * m.links → ((v : ℕ) → v < 65 → get_or starts v 0 ≡ sum (take v counts)) → Starts starts m
starts_room m few counts starts long each total s = record {
  room = λ v h. let k = sum_by_more (λ (x : ℕ). x) counts v 0 (omega (arith, long)) in omega (arith, s v (omega arith), s (v + 1) (omega arith), k, each v h);
  end = omega (arith, s 64 (omega arith), ap sum (take_all 64 counts (omega (arith, long))), total);
}

module _ {m : Mesh} {starts : List ℕ} (s : Starts starts m) where
  rising : (u k : ℕ) → u + 1 + k ≤ 64 → get_or starts (u + 1) 0 ≤ get_or starts (u + 1 + k) 0
  rising u zero h = let e : u + 1 + 0 ≡ u + 1 = omega arith in omega (arith, ap (λ (i : ℕ). get_or starts i 0) e)
  rising u (suc k) h =
      let e : u + 1 + k + 1 ≡ u + 1 + suc k = omega arith in
      omega (arith, rising u k (omega arith), s.room (u + 1 + k) (omega arith), ap (λ (i : ℕ). get_or starts i 0) e)

  -- a row ends before each later one starts
  pub before : (u v : ℕ) → u < v → v ≤ 64 → get_or starts u 0 + length (incident m u) ≤ get_or starts v 0
  before u v h k =
      let e : u + 1 + (v - (u + 1)) ≡ v = omega arith in
      omega (arith, rising u (v - (u + 1)) (omega arith), s.room u (omega arith), ap (λ (i : ℕ). get_or starts i 0) e)

  pub row_end : (v : ℕ) → v < 64 → get_or starts v 0 + length (incident m v) ≤ 1024
  row_end v h = omega (arith, before v 64 (omega arith) (omega arith), s.end)

-- A write before or behind a part of a list, and one at its end.
between_before : (xs : List ℕ) (i j p x : ℕ) → p < i → between i j (set xs p x) ≡ between i j xs
between_before xs i j p x h = ap (take (j - i)) (drop-set-lt i xs p x h)

at_offset : (xs : List ℕ) (i p x : ℕ) → i ≤ p → drop i (set xs p x) ≡ set (drop i xs) (p - i) x
at_offset xs i p x h =
    let e : i + (p - i) ≡ p = omega arith in
    ap (λ (k : ℕ). drop i (set xs k x)) (sym e) ∙ drop-set-add i xs (p - i) x

between_behind : (xs : List ℕ) (i j p x : ℕ) → i ≤ j → j ≤ p → between i j (set xs p x) ≡ between i j xs
between_behind xs i j p x h k = ap (take (j - i)) (at_offset xs i p x (omega arith)) ∙ take-set-le (j - i) (drop i xs) (p - i) x (omega arith)

between_push : (xs : List ℕ) (i p x : ℕ) → i ≤ p → p < length xs → between i (p + 1) (set xs p x) ≡ between i p xs ++ (x ∷ [])
between_push xs i p x h k =
    let e : p + 1 - i ≡ p - i + 1 = omega arith in
    let long : p - i < length (drop i xs) = omega (arith, length-drop i xs) in
    ap (λ (n : ℕ). take n (drop i (set xs p x))) e
    ∙ ap (take (p - i + 1)) (at_offset xs i p x h)
    ∙ take_more_set (drop i xs) (p - i) x long

-- Each cabinet's row has been filled as far as `rows` says, and `next` is the place behind that.
pub record Filling (starts entries next : List ℕ) (rows : ℕ → List ℕ) : Type 0 where
  pub long : length entries ≡ 1024
  pub wide : length next ≡ 65
  pub at : (v : ℕ) → v < 64 → get_or next v 0 ≡ get_or starts v 0 + length (rows v)
  pub holds : (v : ℕ) → v < 64 → between (get_or starts v 0) (get_or next v 0) entries ≡ rows v

abbrev put_in : (ℕ → List ℕ) → ℕ → ℕ → ℕ → List ℕ
put_in rows a l v = cond (eqb a v) (rows v ++ (l ∷ [])) (rows v)

module _ {m : Mesh} {starts : List ℕ} (s : Starts starts m) (entries next : List ℕ) (rows : ℕ → List ℕ) (a l : ℕ) (a_in : a < 64)
    (f : Filling starts entries next rows)
    (low : (v : ℕ) → v < 64 → length (rows v) ≤ length (incident m v))
    (free : length (rows a) < length (incident m a)) where
  pub put_place : get_or next a 0 < 1024
  put_place = omega (arith, f.at a a_in, row_end s a a_in, free)

  place_long : get_or next a 0 < length entries
  place_long = omega (arith, put_place, f.long)

  here : between (get_or starts a 0) (get_or next a 0 + 1) (set entries (get_or next a 0) l) ≡ rows a ++ (l ∷ [])
  here =
      between_push entries (get_or starts a 0) (get_or next a 0) l (omega (arith, f.at a a_in)) place_long
      ∙ ap (λ (xs : List ℕ). xs ++ (l ∷ [])) (f.holds a a_in)

  elsewhere : (v : ℕ) → v < 64 → (a ≡ v → ⊥) → between (get_or starts v 0) (get_or next v 0) (set entries (get_or next a 0) l) ≡ rows v
  elsewhere v h n = elim (cases_lt v a) [
    | inl lt ↦ between_behind entries (get_or starts v 0) (get_or next v 0) (get_or next a 0) l (omega (arith, f.at v h)) (omega (arith, f.at v h, f.at a a_in, low v h, before s v a lt (omega arith))) ∙ f.holds v h
    | inr ge ↦
        let lt : a < v = omega arith in
        between_before entries (get_or starts v 0) (get_or next v 0) (get_or next a 0) l (omega (arith, f.at a a_in, free, before s a v lt (omega arith))) ∙ f.holds v h
  ]

  abbrev next' : List ℕ
  next' = bumped next a

  at' : (v : ℕ) → v < 64 → (get_or next' v 0 ≡ get_or starts v 0 + length (put_in rows a l v)) × (between (get_or starts v 0) (get_or next' v 0) (set entries (get_or next a 0) l) ≡ put_in rows a l v)
  at' v h = elim (cases_eq a v) [
    | inl e ↦
        let same : get_or next' a 0 ≡ get_or next a 0 + 1 = get_or-set_same next a (get_or next a 0 + 1) 0 (omega (arith, f.wide)) in
        let r : put_in rows a l a ≡ rows a ++ (l ∷ []) = cond-true (eqb a a) _ _ (eq-eqb a a refl) in
        subst (λ (k : ℕ). (get_or next' k 0 ≡ get_or starts k 0 + length (put_in rows a l k)) × (between (get_or starts k 0) (get_or next' k 0) (set entries (get_or next a 0) l) ≡ put_in rows a l k)) e (
          omega (arith, same, ap length r, length-append (rows a) (l ∷ []), f.at a a_in),
          ap (λ (j : ℕ). between (get_or starts a 0) j (set entries (get_or next a 0) l)) same ∙ here ∙ sym r,
        )
    | inr n ↦
        let same : get_or next' v 0 ≡ get_or next v 0 = get_or-set_other next a v (get_or next a 0 + 1) 0 (λ e. n (sym e)) in
        let r : put_in rows a l v ≡ rows v = cond-false (eqb a v) _ _ (ne_eqb a v n) in (
          omega (arith, same, ap length r, f.at v h),
          ap (λ (j : ℕ). between (get_or starts v 0) j (set entries (get_or next a 0) l)) same ∙ elsewhere v h n ∙ sym r,
        )
  ]

  pub put_more : (es ns : List ℕ) → es ≡ set entries (get_or next a 0) l → ns ≡ next' → Filling starts es ns (put_in rows a l)
  put_more es ns e g =
      subst (λ (x : List ℕ). Filling starts x ns (put_in rows a l)) (sym e)
      (subst (λ (y : List ℕ). Filling starts (set entries (get_or next a 0) l) y (put_in rows a l)) (sym g)
      (record {
        long = length-set entries (get_or next a 0) l ∙ f.long;
        wide = length-set next a (get_or next a 0 + 1) ∙ f.wide;
        at = λ v h. (at' v h).0;
        holds = λ v h. (at' v h).1;
      }))

-- The first n links stand in the rows of their ends.
abbrev pub Filled : Mesh → List ℕ → List ℕ → List ℕ → ℕ → Type 0
Filled m starts entries next n = Filling starts entries next (incident (front m n))

module _ {m : Mesh} {starts : List ℕ} (s : Starts starts m) (entries next : List ℕ) (n a b : ℕ) (j : Joint m n a b) (f : Filled m starts entries next n) where
  two : (v : ℕ) → put_in (put_in (incident (front m n)) a n) b n v ≡ incident (front m (n + 1)) v
  two v =
      two_rows (eqb a v) (eqb b v) n (incident (front m n) v) (not_both a b v j.apart)
      ∙ ap (λ (x : ℕ). incident (front m n) v ++ cond (eqb x v || eqb b v) (n ∷ []) []) j.is_first
      ∙ ap (λ (y : ℕ). incident (front m n) v ++ cond (eqb (m.first n) v || eqb y v) (n ∷ []) []) j.is_second
      ∙ sym (incident_more m n v)

  low : (v : ℕ) → v < 64 → length (incident (front m n) v) ≤ length (incident m v)
  low v h = incident_rises m n m.links v (omega (arith, j.listed))

  -- the row that takes the link has room for it
  grown : (v : ℕ) → length (incident (front m (n + 1)) v) ≤ length (incident m v)
  grown v = incident_rises m (n + 1) m.links v (omega (arith, j.listed))

  first_row : put_in (incident (front m n)) a n a ≡ incident (front m n) a ++ (n ∷ [])
  first_row = cond-true (eqb a a) _ _ (eq-eqb a a refl)

  first_two : put_in (put_in (incident (front m n)) a n) b n a ≡ put_in (incident (front m n)) a n a
  first_two = cond-false (eqb b a) _ _ (ne_eqb b a (λ e. j.apart (sym e)))

  second_two : put_in (put_in (incident (front m n)) a n) b n b ≡ put_in (incident (front m n)) a n b ++ (n ∷ [])
  second_two = cond-true (eqb b b) _ _ (eq-eqb b b refl)

  free_first : length (incident (front m n) a) < length (incident m a)
  free_first = omega (arith, grown a, ap length (two a), ap length first_two, ap length first_row, length-append (incident (front m n) a) (n ∷ []))

  free_second : length (put_in (incident (front m n)) a n b) < length (incident m b)
  free_second = omega (arith, grown b, ap length (two b), ap length second_two, length-append (put_in (incident (front m n)) a n b) (n ∷ []))

  low_first : (v : ℕ) → v < 64 → length (put_in (incident (front m n)) a n v) ≤ length (incident m v)
  low_first v h = elim (cases_eq a v) [
    | inl e ↦ subst (λ (k : ℕ). length (put_in (incident (front m n)) a n k) ≤ length (incident m k)) e (omega (arith, ap length first_row, length-append (incident (front m n) a) (n ∷ []), free_first))
    | inr w ↦ omega (arith, ap length (cond-false (eqb a v) (incident (front m n) v ++ (n ∷ [])) (incident (front m n) v) (ne_eqb a v w)), low v h)
  ]

  pub first_place : get_or next a 0 < 1024
  first_place = put_place s entries next (incident (front m n)) a n j.first_in f low free_first

  module _ (es ns : List ℕ) (e : es ≡ set entries (get_or next a 0) n) (g : ns ≡ bumped next a) where
    half : Filling starts es ns (put_in (incident (front m n)) a n)
    half = put_more s entries next (incident (front m n)) a n j.first_in f low free_first es ns e g

    pub second_place : get_or ns b 0 < 1024
    second_place = put_place s es ns (put_in (incident (front m n)) a n) b n j.second_in half low_first free_second

    pub filled_more : (xs ys : List ℕ) → xs ≡ set es (get_or ns b 0) n → ys ≡ bumped ns b → Filled m starts xs ys (n + 1)
    filled_more xs ys e' g' =
        let whole = put_more s es ns (put_in (incident (front m n)) a n) b n j.second_in half low_first free_second xs ys e' g' in
        record {
          long = whole.long;
          wide = whole.wide;
          at = λ v h. omega (arith, whole.at v h, ap length (two v));
          holds = λ v h. whole.holds v h ∙ two v;
        }

pub filled_all : (m : Mesh) (starts entries next : List ℕ) (n : ℕ) → n ≡ m.links → Starts starts m → Filled m starts entries next n → Indexes starts entries m
filled_all m starts entries next n e s f v h =
    let l = ap (λ (k : ℕ). length (incident (front m k) v)) e in
    let to : get_or next v 0 ≡ get_or starts (v + 1) 0 = omega (arith, f.at v h, s.room v h, l) in
    ap (λ (j : ℕ). between (get_or starts v 0) j entries) (sym to) ∙ f.holds v h ∙ ap (λ (k : ℕ). incident (front m k) v) e
