-- One cabinet more is reached.
use Rattle.std.proofs.Common.{◌≡◌, ℕ, ◌+◌, ◌<◌, Bool, true, false, cond, not, Option, Some, None, is_some, is_none, ◌⊎◌, List, [], ◌∷◌, ◌++◌, length, get_or, take, set, sym, refl, ap, ◌∙◌, subst, inl, inr, arith}
use Rattle.std.proofs.lemmas.List.{get_or-set_same, get_or-set_other, length-set, length_push, take_more}
use Rattle.std.proofs.ByRecursion.{All-push, All-weaker}
use Rattle.std.proofs.lemmas.List.Sums.{sum_by-set}
use Rattle.std.proofs.lemmas.Bool.{cases_eq, cases_Bool, both_ways, cond-true, cond-false}
use Rattle.search.specs.Graphs.{Graph, Lawful, Step, touches, incident, across}
use Rattle.search.specs.Spreads.{mark, reached, level_of, from_of, arrived, come, offered, queued, unreached, Stepped, Tree, Waits, Taken, Closed, Spread, Leaving}
use Rattle.search.specs.declared.marks.Mark.{Mark}
use Rattle.search.specs.declared.marks.Arrival.{Arrival}
use Rattle.search.proofs.Meshes.{across_in, row_link}

waits_more : (qs rs : List Arrival) (c : ℕ) → Waits qs c → Waits (qs ++ rs) c
waits_more [] rs c h = absurd h
waits_more (q ∷ qs) rs c (inl e) = inl e
waits_more (q ∷ qs) rs c (inr h) = inr (waits_more qs rs c h)

waits_last : (qs : List Arrival) (a : Arrival) → Waits (qs ++ (a ∷ [])) a.cabinet
waits_last [] a = inl refl
waits_last (q ∷ qs) a = inr (waits_last qs a)

module _ (g : Graph) (start : ℕ) (ms : List (Option Mark)) (u l v : ℕ) (tree : Tree g start ms) (u_in : u < 64) (v_in : v < 64) (known : reached ms u ≡ true) (new : reached ms v ≡ false) where
  abbrev ms' : List (Option Mark)
  ms' = set ms v (Some (arrived ms u l))

  same : mark ms' v ≡ Some (arrived ms u l)
  same = get_or-set_same ms v (Some (arrived ms u l)) None (omega (arith, tree.long))

  other : (c : ℕ) → (c ≡ v → ⊥) → mark ms' c ≡ mark ms c
  other c n = get_or-set_other ms v c (Some (arrived ms u l)) None n

  not_new : (c : ℕ) → reached ms c ≡ true → c ≡ v → ⊥
  not_new c h e = both_ways (reached ms c) (ap (λ (k : ℕ). reached ms k) e ∙ new) h

  still : (c : ℕ) → reached ms c ≡ true → mark ms' c ≡ mark ms c
  still c h = other c (not_new c h)

  grows : (c : ℕ) → reached ms c ≡ true → reached ms' c ≡ true
  grows c h = ap is_some (still c h) ∙ h

  here : reached ms' v ≡ true
  here = ap is_some same

  fewer : unreached ms' + 1 ≡ unreached ms
  fewer =
      let s = sum_by-set (λ (m : Option Mark). cond (is_none m) 1 0) ms v (Some (arrived ms u l)) None (omega (arith, tree.long)) in
      let one : ◌≡◌ {A = ℕ} (cond (not (reached ms v)) 1 0) 1 = ap (λ (b : Bool). cond (not b) 1 0) new in
      omega (arith, s, one)

  near' : (c : ℕ) → c < 64 → from_of (mark ms' c) < 64
  near' c lt = elim (cases_eq c v) [
    | inl e ↦ subst (λ (m : Option Mark). from_of m < 64) (sym (ap (mark ms') e ∙ same)) u_in
    | inr n ↦ subst (λ (m : Option Mark). from_of m < 64) (sym (other c n)) (tree.near c lt)
  ]

  module _ (step : Step g u l) (leads : v ≡ across g.mesh u l) where
    comes' : (c : ℕ) → c < 64 → reached ms' c ≡ true → ((c ≡ start) × (level_of (mark ms' c) ≡ 0)) ⊎ Stepped g ms' c (mark ms' c)
    comes' c lt h = elim (cases_eq c v) [
      | inl e ↦ inr (subst (Stepped g ms' c) (sym (ap (mark ms') e ∙ same)) (record {
        known = grows u known;
        step = step;
        leads = sym leads ∙ sym e;
        next = ap (λ (m : Option Mark). level_of m + 1) (still u known);
      }))
      | inr n ↦
          let o = other c n in
          elim (tree.comes c lt (ap is_some (sym o) ∙ h)) [
            | inl b ↦ inl (b.0, ap level_of o ∙ b.1)
            | inr t ↦ inr (subst (Stepped g ms' c) (sym o) (record {
              known = grows _ t.known;
              step = t.step;
              leads = t.leads;
              next = ap (λ (m : Option Mark). level_of m + 1) (still _ t.known) ∙ t.next;
            }))
          ]
    ]

    low' : (c : ℕ) → c < 64 → reached ms' c ≡ true → level_of (mark ms' c) + unreached ms' < 64
    low' c lt h = elim (cases_eq c v) [
      | inl e ↦
          let a : level_of (mark ms' c) ≡ level_of (mark ms u) + 1 = ap level_of (ap (mark ms') e ∙ same) in
          let b = tree.low u u_in known in
          omega (arith, a, b, fewer)
      | inr n ↦
          let a : level_of (mark ms' c) ≡ level_of (mark ms c) = ap level_of (other c n) in
          let b = tree.low c lt (ap is_some (sym (other c n)) ∙ h) in
          omega (arith, a, b, fewer)
    ]

    tree' : Tree g start ms'
    tree' = record {
      long = length-set ms v (Some (arrived ms u l)) ∙ tree.long;
      near = near';
      begins = grows start tree.begins;
      comes = comes';
      low = low';
    }

    spread' : (qs : List Arrival) → Spread g start ms qs → Spread g start ms' (qs ++ (come v l ∷ []))
    spread' qs s = record {
      tree = tree';
      waiting = All-push (λ a. (a.cabinet < 64) × (reached ms' a.cabinet ≡ true)) qs (come v l)
          (All-weaker (λ a. (a.cabinet < 64) × (reached ms a.cabinet ≡ true)) (λ a. (a.cabinet < 64) × (reached ms' a.cabinet ≡ true)) (λ a p. (p.0, grows a.cabinet p.1)) qs s.waiting)
          (v_in, here);
      places = omega (arith, s.places, fewer, length_push qs (come v l));
    }

    settled' : (qs : List Arrival) → ((c : ℕ) → c < 64 → reached ms c ≡ true → (Waits qs c ⊎ Closed g ms c) ⊎ (c ≡ u)) → (c : ℕ) → c < 64 → reached ms' c ≡ true → (Waits (qs ++ (come v l ∷ [])) c ⊎ Closed g ms' c) ⊎ (c ≡ u)
    settled' qs s c lt h = elim (cases_eq c v) [
      | inl e ↦ inl (inl (subst (Waits (qs ++ (come v l ∷ []))) (sym e) (waits_last qs (come v l))))
      | inr n ↦ elim (s c lt (ap is_some (sym (other c n)) ∙ h)) [
        | inl d ↦ inl (elim d [
          | inl q ↦ inl (waits_more qs _ c q)
          | inr d ↦ inr (λ k st. grows _ (d k st))
        ])
        | inr e ↦ inr e
      ]
    ]

    entered : (qs : List Arrival) (done : List ℕ) → Leaving g start ms qs u done → Leaving g start ms' (qs ++ (come v l ∷ [])) u (done ++ (l ∷ []))
    entered qs done s = record {
      inside = u_in;
      known = grows u known;
      spread = spread' qs s.spread;
      settled = settled' qs s.settled;
      taken = All-push (Taken g ms' u) done l
          (All-weaker (Taken g ms u) (Taken g ms' u) (λ k t st. grows _ (t st)) done s.taken)
          (λ st. subst (λ (c : ℕ). reached ms' c ≡ true) leads here);
    }

    count_same : (qs : List Arrival) → unreached ms' + length (qs ++ (come v l ∷ [])) ≡ unreached ms + length qs
    count_same qs = omega (arith, fewer, length_push qs (come v l))

-- A step that is not open, or leads to what was reached, changes nothing.
passed : (g : Graph) (start : ℕ) (ms : List (Option Mark)) (qs : List Arrival) (u l : ℕ) (done : List ℕ) → Taken g ms u l → Leaving g start ms qs u done → Leaving g start ms qs u (done ++ (l ∷ []))
passed g start ms qs u l done here s = record { inside = s.inside; known = s.known; spread = s.spread; settled = s.settled; taken = All-push (Taken g ms u) done l s.taken here }

-- What leaving keeps when the step over l was offered, and that the count of what may yet come stays.
abbrev pub Kept : Graph → ℕ → List (Option Mark) → List Arrival → ℕ → ℕ → List ℕ → List (Option Mark) → List Arrival → Type 0
Kept g start ms qs u l done ns rs = Leaving g start ns rs u (done ++ (l ∷ [])) × (unreached ns + length rs ≡ unreached ms + length qs)

pub offered_kept : (g : Graph) → Lawful g.mesh → (start : ℕ) (ms : List (Option Mark)) (qs : List Arrival) (u l : ℕ) (done : List ℕ) → l < g.mesh.links → touches g.mesh u l ≡ true → Leaving g start ms qs u done → (ns : List (Option Mark)) (rs : List Arrival) → ns ≡ offered g ms u l → rs ≡ queued g ms qs u l → Kept g start ms qs u l done ns rs
offered_kept g laws start ms qs u l done h t s ns rs e f =
    let v = across g.mesh u l in
    let goal = Kept g start ms qs u l done in
    elim (cases_Bool (reached ms v)) [
      | inl r ↦
          let e' : ns ≡ ms = e ∙ cond-true (reached ms v) ms _ r in
          let f' : rs ≡ qs = f ∙ cond-true (reached ms v) qs _ r in
          subst (λ (x : List (Option Mark)). goal x rs) (sym e') (subst (λ (y : List Arrival). goal ms y) (sym f') (passed g start ms qs u l done (λ _. r) s, refl))
      | inr n ↦ elim (cases_Bool (g.opens u l)) [
        | inl o ↦
            let e' : ns ≡ set ms v (Some (arrived ms u l)) = e ∙ cond-false (reached ms v) ms _ n ∙ cond-true (g.opens u l) _ ms o in
            let f' : rs ≡ qs ++ (come v l ∷ []) = f ∙ cond-false (reached ms v) qs _ n ∙ cond-true (g.opens u l) _ qs o in
            let st : Step g u l = record { listed = h; touching = t; clear = o } in
            let v_in = across_in g.mesh u l laws h in
            let tree = s.spread.tree in
            subst (λ (x : List (Option Mark)). goal x rs) (sym e') (subst (λ (y : List Arrival). goal (set ms v (Some (arrived ms u l))) y) (sym f')
            (entered g start ms u l v tree s.inside v_in s.known n st refl qs done s, count_same g start ms u l v tree s.inside v_in s.known n st refl qs))
        | inr o ↦
            let e' : ns ≡ ms = e ∙ cond-false (reached ms v) ms _ n ∙ cond-false (g.opens u l) _ ms o in
            let f' : rs ≡ qs = f ∙ cond-false (reached ms v) qs _ n ∙ cond-false (g.opens u l) _ qs o in
            subst (λ (x : List (Option Mark)). goal x rs) (sym e') (subst (λ (y : List Arrival). goal ms y) (sym f') (passed g start ms qs u l done (λ st. absurd (both_ways (g.opens u l) o st.clear)) s, refl))
      ]
    ]

-- The same along the row of u, at its place i.
pub row_kept : (g : Graph) → Lawful g.mesh → (start : ℕ) (ms : List (Option Mark)) (qs : List Arrival) (u : ℕ) (row : List ℕ) (i : ℕ) → row ≡ incident g.mesh u → i < length row → Leaving g start ms qs u (take i (incident g.mesh u)) → (ns : List (Option Mark)) (rs : List Arrival) → ns ≡ offered g ms u (get_or row i 0) → rs ≡ queued g ms qs u (get_or row i 0) → Leaving g start ns rs u (take (i + 1) (incident g.mesh u)) × (unreached ns + length rs ≡ unreached ms + length qs)
row_kept g laws start ms qs u row i e h s ns rs a b =
    let inc = incident g.mesh u in
    let l = row_link g.mesh u row i e h in
    let k : i < length inc = subst (λ (xs : List ℕ). i < length xs) e h in
    let more : take (i + 1) inc ≡ take i inc ++ (get_or row i 0 ∷ []) =
    take_more inc i 0 k ∙ ap (λ (xs : List ℕ). take i inc ++ (get_or xs i 0 ∷ [])) (sym e) in
    let kept = offered_kept g laws start ms qs u (get_or row i 0) (take i inc) l.0 l.1 s ns rs a b in
    (subst (Leaving g start ns rs u) (sym more) kept.0, kept.1)
