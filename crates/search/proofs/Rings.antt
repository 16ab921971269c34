-- What a push and a pop do to the items of a ring.
use Rattle.std.proofs.Common.{◌≡◌, ℕ, zero, suc, ◌+◌, ◌-◌, ◌<◌, ◌≤◌, eqb, ltb, List, [], ◌∷◌, ◌++◌, length, get_or, take, drop, set, sym, ap, ◌∙◌, inl, inr, arith, length-append, length-drop, length-set, length-take}
use Rattle.std.proofs.lemmas.List.{take-append-le, take_more_set, drop-set-add, drop-set-lt, set-append_right, drop_more, drop_all}
use Rattle.std.proofs.lemmas.Bool.{cases_eq, cases_lt, eq-eqb, ne_eqb, cond-true, cond-false, lt-ltb, le-ltb}
use Rattle.search.specs.Rings.{held, after, behind}

module _ {T : Type 0} (ps : List T) where
  pub length_held : (head len : ℕ) → head ≤ length ps → len ≤ length ps → length (held ps head len) ≡ len
  length_held head len h l = simp (length-take, length-append, length-drop) (omega arith)

  -- the new item stands before the end
  near : (head len : ℕ) (x : T) → head + len < length ps → held (set ps (head + len) x) head (len + 1) ≡ held ps head len ++ (x ∷ [])
  near head len x h =
      let k : len < length (drop head ps) = simp length-drop (omega arith) in
      let k2 : len + 1 ≤ length (set (drop head ps) len x) = simp (length-set, length-drop) (omega arith) in
      let a : drop head (set ps (head + len) x) ≡ set (drop head ps) len x = drop-set-add head ps len x in
      ap (λ (d : List T). take (len + 1) (d ++ set ps (head + len) x)) a
      ∙ take-append-le (len + 1) (set (drop head ps) len x) _ k2
      ∙ take_more_set (drop head ps) len x k
      ∙ ap (λ (d : List T). d ++ (x ∷ [])) (sym (take-append-le len (drop head ps) ps (omega arith)))

  -- it stands at the start again
  far : (head len at : ℕ) (x : T) → head ≤ length ps → len < length ps → length ps - head ≤ len → at ≡ len - (length ps - head) → held (set ps at x) head (len + 1) ≡ held ps head len ++ (x ∷ [])
  far head len at x h l f e =
      let n : length (drop head ps) ≡ length ps - head = length-drop head ps in
      let k : len < length (drop head ps ++ ps) = simp length-append (omega arith) in
      let a : drop head (set ps at x) ≡ drop head ps = drop-set-lt head ps at x (omega arith) in
      ap (λ (d : List T). take (len + 1) (d ++ set ps at x)) a
      ∙ ap (λ (i : ℕ). take (len + 1) (drop head ps ++ set ps i x)) e
      ∙ ap (take (len + 1)) (sym (set-append_right (drop head ps) ps (length ps - head) len x n f))
      ∙ take_more_set (drop head ps ++ ps) len x k

  -- the place behind the last item takes the new one
  pub push_behind : (head len : ℕ) (x : T) → head ≤ length ps → len < length ps → held (set ps (behind ps head len) x) head (len + 1) ≡ held ps head len ++ (x ∷ [])
  push_behind head len x h l = elim (cases_lt len (length ps - head)) [
    | inl lt ↦
        ap (λ (i : ℕ). held (set ps i x) head (len + 1)) (cond-true (ltb len (length ps - head)) (head + len) (len - (length ps - head)) (lt-ltb len (length ps - head) lt))
        ∙ near head len x (omega arith)
    | inr ge ↦ far head len (behind ps head len) x h l ge (cond-false (ltb len (length ps - head)) (head + len) (len - (length ps - head)) (le-ltb len (length ps - head) ge))
  ]

  -- a head at the end is as good as one at the start
  pub held_wrap : (len : ℕ) → len ≤ length ps → held ps (length ps) len ≡ held ps 0 len
  held_wrap len l =
      ap (λ (d : List T). take len (d ++ ps)) (drop_all (length ps) ps (omega arith))
      ∙ sym (take-append-le len ps ps l)

  pub pop_front : (head len : ℕ) (d : T) → head < length ps → 0 < len → held ps head len ≡ get_or ps head d ∷ held ps (head + 1) (len - 1)
  pop_front head zero d h l = absurd (omega arith)
  pop_front head (suc len) d h l =
      let a : drop head ps ≡ get_or ps head d ∷ drop (head + 1) ps = drop_more ps head d h in
      let b : suc len - 1 ≡ len = omega arith in
      ap (λ (q : List T). take (suc len) (q ++ ps)) a
      ∙ ap (λ (n : ℕ). get_or ps head d ∷ take n (drop (head + 1) ps ++ ps)) (sym b)

  -- the head goes on, round the end
  pub pop_after : (head len : ℕ) (d : T) → head < length ps → 0 < len → len ≤ length ps → held ps head len ≡ get_or ps head d ∷ held ps (after ps head) (len - 1)
  pop_after head len d h z l =
      pop_front head len d h z
      ∙ ap (λ (xs : List T). get_or ps head d ∷ xs) (elim (cases_eq (head + 1) (length ps)) [
        | inl e ↦
            ap (λ (i : ℕ). held ps i (len - 1)) e
            ∙ held_wrap (len - 1) (omega arith)
            ∙ ap (λ (i : ℕ). held ps i (len - 1)) (sym (cond-true (eqb (head + 1) (length ps)) 0 (head + 1) (eq-eqb (head + 1) (length ps) e)))
        | inr n ↦ ap (λ (i : ℕ). held ps i (len - 1)) (sym (cond-false (eqb (head + 1) (length ps)) 0 (head + 1) (ne_eqb (head + 1) (length ps) n)))
      ])

  -- what stands behind the first item is held from the next head on
  pub popped : (head len next : ℕ) (x : T) → head ≤ length ps - 1 → len ≤ length ps → held ps head len ≡ x ∷ drop 1 (held ps head len) → next ≡ after ps head → held ps head len ≡ x ∷ held ps next (len - 1)
  popped head len next x h l f e =
      let some : 0 < len = omega (arith, ap length f, length_held head len (omega arith) l) in
      f
      ∙ ap (λ (xs : List T). x ∷ drop 1 xs) (pop_after head len x (omega (arith, some)) some l)
      ∙ ap (λ (i : ℕ). x ∷ held ps i (len - 1)) (sym e)
