-- An answer for the links with a limit above 0, dealt out, is an answer for all links; and the steps of the two loops.
use Rattle.std.proofs.Common.{◌≡◌, ℕ, zero, suc, ◌+◌, ◌<◌, ◌≤◌, Bool, true, false, cond, eqb, List, [], ◌∷◌, ◌++◌, length, get_or, take, drop, set, ℤ, pos, ◌+ℤ◌, ◌-ℤ◌, sym, refl, ap, ◌∙◌, arith}
use lib.IntN.{+ℤ_idl}
use Rattle.std.proofs.lemmas.List.Elements.{filter_more}
use Rattle.std.proofs.lemmas.List.{append-nil, append_assoc, drop_more, length-take-le, set_at, take_more}
use Rattle.std.proofs.lemmas.List.Sums.{length-filter, sum_by-take-le}
use Rattle.std.proofs.lemmas.Bool.{le-ltb, lt-ltb, ltb-false}
use Rattle.flow.specs.declared.taps.Taps.{Taps}
use Rattle.flow.specs.Nets.{only, here, after, leaving, crosses, side_slots}
use Rattle.flow.specs.Answers.{Within, Answer, Solves}
use Rattle.flow.specs.Trimming.{can_carry, trimmed, dealt}
use Rattle.flow.proofs.Bounds.{after_at, within_after}

nothing : (a b : Bool) (z : ℤ) → (only a (pos 0) -ℤ only b (pos 0)) +ℤ z ≡ z
nothing true true z = +ℤ_idl z
nothing true false z = +ℤ_idl z
nothing false true z = +ℤ_idl z
nothing false false z = +ℤ_idl z

none : (b : Bool) (k : ℕ) → k ≡ 0 → cond b k 0 ≡ 0
none true k e = e
none false k e = refl

module _ {X : Type 0} (low high limit : X → ℕ) where
  pub trimmed_slots : (S : ℕ → Bool) (ls : List X) → side_slots low high limit S (trimmed limit ls) ≡ side_slots low high limit S ls
  trimmed_slots S [] = refl
  trimmed_slots S (l ∷ ls) = by (can_carry limit l) refl (trimmed_slots S ls)
    where
      by : (t : Bool) → can_carry limit l ≡ t → side_slots low high limit S (trimmed limit ls) ≡ side_slots low high limit S ls → side_slots low high limit S (cond t (l ∷ trimmed limit ls) (trimmed limit ls)) ≡ side_slots low high limit S (l ∷ ls)
      by true e h = ap (λ k. cond (crosses low high S l) (limit l) 0 + k) h
      by false e h = omega (arith, h, none (crosses low high S l) (limit l) (omega (arith, ltb-false 0 (limit l) e)))

  pub dealt_leaving : (S : ℕ → Bool) (ls : List X) (fs more : List ℤ) → leaving low high S ls (dealt limit ls fs ++ more) ≡ leaving low high S (trimmed limit ls) fs
  dealt_leaving S [] fs more = refl
  dealt_leaving S (l ∷ ls) fs more = by (can_carry limit l) (λ gs. dealt_leaving S ls gs more)
    where
      by : (t : Bool) → ((gs : List ℤ) → leaving low high S ls (dealt limit ls gs ++ more) ≡ leaving low high S (trimmed limit ls) gs) → leaving low high S (l ∷ ls) (cond t (here fs ∷ dealt limit ls (after fs)) (pos 0 ∷ dealt limit ls fs) ++ more) ≡ leaving low high S (cond t (l ∷ trimmed limit ls) (trimmed limit ls)) fs
      by true h = ap (λ z. (only (S (low l)) (here fs) -ℤ only (S (high l)) (here fs)) +ℤ z) (h (after fs))
      by false h = nothing (S (low l)) (S (high l)) (leaving low high S ls (dealt limit ls fs ++ more)) ∙ h fs

module _ {X : Type 0} (limit : X → ℕ) where
  pub dealt_within : (ls : List X) (fs more : List ℤ) → Within limit (trimmed limit ls) fs → Within limit ls (dealt limit ls fs ++ more)
  dealt_within [] fs more w k d h = absurd (omega arith)
  dealt_within (l ∷ ls) fs more w k d h = by (can_carry limit l) (λ gs. dealt_within ls gs more) w k d h
    where
      by : (t : Bool) → ((gs : List ℤ) → Within limit (trimmed limit ls) gs → Within limit ls (dealt limit ls gs ++ more)) → Within limit (cond t (l ∷ trimmed limit ls) (trimmed limit ls)) fs → Within limit (l ∷ ls) (cond t (here fs ∷ dealt limit ls (after fs)) (pos 0 ∷ dealt limit ls fs) ++ more)
      by true rec w zero d h = w 0 d (omega arith)
      by true rec w (suc k) d h = rec (after fs) (within_after limit l (trimmed limit ls) fs w) k d (omega arith)
      by false rec w zero d h = omega arith
      by false rec w (suc k) d h = rec fs w k d (omega arith)

  pub length_dealt : (ls : List X) (fs : List ℤ) → length (dealt limit ls fs) ≡ length ls
  length_dealt [] fs = refl
  length_dealt (l ∷ ls) fs = by (can_carry limit l) (λ gs. length_dealt ls gs)
    where
      by : (t : Bool) → ((gs : List ℤ) → length (dealt limit ls gs) ≡ length ls) → length (cond t (here fs ∷ dealt limit ls (after fs)) (pos 0 ∷ dealt limit ls fs)) ≡ suc (length ls)
      by true h = ap suc (h (after fs))
      by false h = ap suc (h fs)

  -- the flow of one link more, when n flows are dealt out
  abbrev pub next_flow : X → List ℤ → ℕ → ℤ
  next_flow l fs n = cond (can_carry limit l) (get_or fs n (pos 0)) (pos 0)

  pub dealt_push : (ls : List X) (x : X) (fs : List ℤ) → dealt limit (ls ++ x ∷ []) fs ≡ dealt limit ls fs ++ next_flow x fs (length (trimmed limit ls)) ∷ []
  dealt_push [] x fs = by (can_carry limit x)
    where
      by : (t : Bool) → cond t (here fs ∷ []) (pos 0 ∷ []) ≡ cond t (get_or fs 0 (pos 0)) (pos 0) ∷ []
      by true = refl
      by false = refl
  dealt_push (l ∷ ls) x fs = by (can_carry limit l) (λ gs. dealt_push ls x gs)
    where
      by : (t : Bool) → ((gs : List ℤ) → dealt limit (ls ++ x ∷ []) gs ≡ dealt limit ls gs ++ next_flow x gs (length (trimmed limit ls)) ∷ []) → cond t (here fs ∷ dealt limit (ls ++ x ∷ []) (after fs)) (pos 0 ∷ dealt limit (ls ++ x ∷ []) fs) ≡ cond t (here fs ∷ dealt limit ls (after fs)) (pos 0 ∷ dealt limit ls fs) ++ next_flow x fs (length (cond t (l ∷ trimmed limit ls) (trimmed limit ls))) ∷ []
      by true h = ap (λ t. here fs ∷ t) (h (after fs) ∙ ap (λ z. dealt limit ls (after fs) ++ cond (can_carry limit x) z (pos 0) ∷ []) (after_at fs (length (trimmed limit ls))))
      by false h = ap (λ t. pos 0 ∷ t) (h fs)

  pub trimmed_front : (ls : List X) (i : ℕ) → length (trimmed limit (take i ls)) ≤ length (trimmed limit ls)
  trimmed_front ls i = omega (arith, length-filter (can_carry limit) (take i ls), length-filter (can_carry limit) ls, sum_by-take-le (λ x. cond (can_carry limit x) 1 0) ls i)

  module _ (ls : List X) (i : ℕ) (d : X) (h : i < length ls) where
    pub trimmed_yes : 0 < limit (get_or ls i d) → trimmed limit (take (i + 1) ls) ≡ trimmed limit (take i ls) ++ get_or ls i d ∷ []
    trimmed_yes p = filter_more (can_carry limit) ls i d h ∙ ap (λ b. trimmed limit (take i ls) ++ cond b (get_or ls i d ∷ []) []) (lt-ltb 0 (limit (get_or ls i d)) p)

    pub trimmed_no : limit (get_or ls i d) ≤ 0 → trimmed limit (take (i + 1) ls) ≡ trimmed limit (take i ls)
    trimmed_no p = filter_more (can_carry limit) ls i d h ∙ ap (λ b. trimmed limit (take i ls) ++ cond b (get_or ls i d ∷ []) []) (le-ltb 0 (limit (get_or ls i d)) p) ∙ append-nil _

    -- one more link is dealt its flow, written over what stood there
    pub dealt_more : (fs was at : List ℤ) (x : ℤ) → length ls ≤ length was → at ≡ dealt limit (take i ls) fs ++ drop i was → x ≡ next_flow (get_or ls i d) fs (length (trimmed limit (take i ls))) → set at i x ≡ dealt limit (take (i + 1) ls) fs ++ drop (i + 1) was
    dealt_more fs was at x long inv e =
        let l : i < length was = omega arith in
        let len : length (dealt limit (take i ls) fs) ≡ i = length_dealt (take i ls) fs ∙ length-take-le i ls (omega arith) in
        let open_at : at ≡ dealt limit (take i ls) fs ++ get_or was i (pos 0) ∷ drop (i + 1) was = inv ∙ ap (λ t. dealt limit (take i ls) fs ++ t) (drop_more was i (pos 0) l) in
        let put : set at i x ≡ dealt limit (take i ls) fs ++ x ∷ drop (i + 1) was = ap (λ t. set t i x) open_at ∙ set_at (dealt limit (take i ls) fs) (get_or was i (pos 0)) (drop (i + 1) was) x i len in
        let grown : dealt limit (take (i + 1) ls) fs ≡ dealt limit (take i ls) fs ++ x ∷ [] = ap (λ t. dealt limit t fs) (take_more ls i d h) ∙ dealt_push (take i ls) (get_or ls i d) fs ∙ ap (λ y. dealt limit (take i ls) fs ++ y ∷ []) (sym e) in
        put ∙ sym (append_assoc (dealt limit (take i ls) fs) (x ∷ []) (drop (i + 1) was)) ∙ ap (λ t. t ++ drop (i + 1) was) (sym grown)

pub trim_solves : {X : Type 0} (low high limit : X → ℕ) (n : ℕ) (ls : List X) (at most : Taps ℕ) (r : Answer) (more : List ℤ) → Solves low high limit n (trimmed limit ls) at most r → Solves low high limit n ls at most (record { flow = dealt limit ls r.flow ++ more; amount = r.amount; side = r.side })
trim_solves low high limit n ls at most r more s =
    record {
      within = dealt_within limit ls r.flow more s.within;
      amounts = s.amounts;
      balanced = λ v k. dealt_leaving low high limit (λ u. eqb u v) ls r.flow more ∙ s.balanced v k;
      full = s.full ∙ ap (λ k. (cond (r.side at.feed1) 0 most.feed1 + cond (r.side at.feed2) 0 most.feed2) + k + (cond (r.side at.drain1) most.drain1 0 + cond (r.side at.drain2) most.drain2 0)) (trimmed_slots low high limit r.side ls);
    }
