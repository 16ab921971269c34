-- Each cabinet with an excess waits once: what this says of the queue, and how it lasts.
use Rattle.std.proofs.Common.{◌≡◌, ℕ, zero, suc, ◌+◌, ◌-◌, ◌<◌, ◌≤◌, Bool, true, false, cond, eqb, ltb, List, [], ◌∷◌, ◌++◌, length, get_or, drop, set, Some, None, Option, sym, refl, ap, ◌∙◌, subst, ⊎_elim, arith}
use Rattle.std.proofs.lemmas.List.{get_or_past, get_or-set_same, get_or-set_other, length-set}
use Rattle.std.proofs.lemmas.Bool.{cases_eq, cases_lt, eq-eqb, ne_eqb, lt-ltb, le-ltb, cond-true, cond-false}
use Rattle.search.specs.Rings.{Pushed}
use Rattle.preflow.specs.Waits.{times, Queued, arrived, parted, settled}
use Rattle.preflow.specs.Sends.{taken, given, moved}

hit : (x k : ℕ) → x ≡ k → ◌≡◌ {A = ℕ} (cond (eqb x k) 1 0) 1
hit x k e = ap (λ b. cond {A = ℕ} b 1 0) (eq-eqb x k e)

miss : (x k : ℕ) → (x ≡ k → ⊥) → ◌≡◌ {A = ℕ} (cond (eqb x k) 1 0) 0
miss x k e = ap (λ b. cond {A = ℕ} b 1 0) (ne_eqb x k e)

pub some : (n : ℕ) → 0 < n → ◌≡◌ {A = ℕ} (cond (ltb 0 n) 1 0) 1
some n h = ap (λ b. cond {A = ℕ} b 1 0) (lt-ltb 0 n h)

pub none : (n : ℕ) → n ≡ 0 → ◌≡◌ {A = ℕ} (cond (ltb 0 n) 1 0) 0
none n h = ap (λ b. cond {A = ℕ} b 1 0) (le-ltb 0 n (omega arith))

pub times_push : (v : ℕ) (qs : List ℕ) (w : ℕ) → times v (qs ++ w ∷ []) ≡ times v qs + cond (eqb w v) 1 0
times_push v [] w = omega arith
times_push v (q ∷ qs) w = omega (arith, times_push v qs w)

-- how many wait of the cabinets below n
tally : ℕ → List ℕ → ℕ
tally zero qs = 0
tally (suc n) qs = tally n qs + times n qs

tally_none : (n : ℕ) → tally n [] ≡ 0
unfolding tally
tally_none zero = refl
tally_none (suc n) = omega (arith, tally_none n)

tally_cons : (n q : ℕ) (qs : List ℕ) → tally n (q ∷ qs) ≡ tally n qs + cond (ltb q n) 1 0
unfolding tally
tally_cons zero q qs = omega (arith, ap (λ b. cond {A = ℕ} b 1 0) (le-ltb q 0 (omega arith)))
tally_cons (suc n) q qs =
    ⊎_elim
    (λ (e : q ≡ n). omega (arith, tally_cons n q qs, hit q n e, ap (λ b. cond {A = ℕ} b 1 0) (le-ltb q n (omega arith)), ap (λ b. cond {A = ℕ} b 1 0) (lt-ltb q (suc n) (omega arith))))
    (λ (ne : q ≡ n → ⊥). ⊎_elim
    (λ (l : q < n). omega (arith, tally_cons n q qs, miss q n ne, ap (λ b. cond {A = ℕ} b 1 0) (lt-ltb q n l), ap (λ b. cond {A = ℕ} b 1 0) (lt-ltb q (suc n) (omega arith))))
    (λ (l : n ≤ q). omega (arith, tally_cons n q qs, miss q n ne, ap (λ b. cond {A = ℕ} b 1 0) (le-ltb q n l), ap (λ b. cond {A = ℕ} b 1 0) (le-ltb q (suc n) (omega arith))))
    (cases_lt q n))
    (cases_eq q n)

tally_long : (n : ℕ) (qs : List ℕ) → ((v : ℕ) → n ≤ v → times v qs ≡ 0) → length qs ≤ tally n qs
tally_long n [] far = omega arith
tally_long n (q ∷ qs) far =
    ⊎_elim
    (λ (l : q < n). omega (arith, tally_cons n q qs, ap (λ b. cond {A = ℕ} b 1 0) (lt-ltb q n l), tally_long n qs (λ v h. omega (arith, far v h))))
    (λ (l : n ≤ q). absurd (omega (arith, far q l, hit q q refl)))
    (cases_lt q n)

tally_most : (n : ℕ) (qs : List ℕ) → ((v : ℕ) → times v qs ≤ 1) → tally n qs ≤ n
unfolding tally
tally_most zero qs one = omega arith
tally_most (suc n) qs one = omega (arith, tally_most n qs one, one n)

one_most : (b : Bool) → cond b 1 0 ≤ 1
one_most true = omega arith
one_most false = omega arith

module _ (ex qs : List ℕ) (wide : length ex ≡ 64) (queued : Queued ex qs) where
  pub queued_short : length qs ≤ 64
  queued_short =
      omega (arith, tally_long 64 qs (λ v h. queued v ∙ none (get_or ex v 0) (get_or_past ex v 0 (omega arith))), tally_most 64 qs (λ v. omega (arith, queued v, one_most (ltb 0 (get_or ex v 0)))))

  pub front_some : (v : ℕ) (rest : List ℕ) → qs ≡ v ∷ rest → (0 < get_or ex v 0) × (v < 64)
  front_some v rest e =
      let waits : 1 ≤ times v qs = omega (arith, ap (times v) e, hit v v refl) in
      let full : 0 < get_or ex v 0 = ⊎_elim (λ (l : 0 < get_or ex v 0). l) (λ (z : get_or ex v 0 ≤ 0). absurd (omega (arith, queued v, none (get_or ex v 0) (omega arith)))) (cases_lt 0 (get_or ex v 0)) in
      (full, ⊎_elim (λ (l : v < 64). l) (λ (h : 64 ≤ v). absurd (omega (arith, get_or_past ex v 0 (omega arith)))) (cases_lt v 64))

  pub queued_turn : (v : ℕ) (rest : List ℕ) → qs ≡ v ∷ rest → Queued ex (rest ++ v ∷ [])
  queued_turn v rest e u = omega (arith, times_push u rest v, ap (times u) e, queued u)

drop_one : (v : ℕ) (rest qs : List ℕ) (u : ℕ) → qs ≡ v ∷ rest → times u (drop 1 qs) + cond (eqb v u) 1 0 ≡ times u qs
drop_one v rest qs u e = omega (arith, ap (λ (t : List ℕ). times u (drop 1 t)) e, ap (times u) e)

module _ (ex : List ℕ) (v : ℕ) where
  parted_times : (rest qs : List ℕ) (u : ℕ) → qs ≡ v ∷ rest → (v ≡ u → times u qs ≡ 1) → times u (parted ex v qs) ≡ cond (eqb v u) (cond (ltb 0 (get_or ex v 0)) 1 0) (times u qs)
  parted_times rest qs u e one =
      ⊎_elim
      (λ (z : get_or ex v 0 ≡ 0).
      let gone : parted ex v qs ≡ drop 1 qs = cond-true (eqb (get_or ex v 0) 0) (drop 1 qs) qs (eq-eqb (get_or ex v 0) 0 z) in
      ⊎_elim
      (λ (s : v ≡ u). omega (arith, ap (times u) gone, drop_one v rest qs u e, hit v u s, one s, none (get_or ex v 0) z, cond-true (eqb v u) (cond (ltb 0 (get_or ex v 0)) 1 0) (times u qs) (eq-eqb v u s)))
      (λ (ne : v ≡ u → ⊥). omega (arith, ap (times u) gone, drop_one v rest qs u e, miss v u ne, cond-false (eqb v u) (cond (ltb 0 (get_or ex v 0)) 1 0) (times u qs) (ne_eqb v u ne)))
      (cases_eq v u))
      (λ (nz : get_or ex v 0 ≡ 0 → ⊥).
      let stays : parted ex v qs ≡ qs = cond-false (eqb (get_or ex v 0) 0) (drop 1 qs) qs (ne_eqb (get_or ex v 0) 0 nz) in
      ⊎_elim
      (λ (s : v ≡ u). omega (arith, ap (times u) stays, one s, some (get_or ex v 0) (omega arith), cond-true (eqb v u) (cond (ltb 0 (get_or ex v 0)) 1 0) (times u qs) (eq-eqb v u s)))
      (λ (ne : v ≡ u → ⊥). omega (arith, ap (times u) stays, cond-false (eqb v u) (cond (ltb 0 (get_or ex v 0)) 1 0) (times u qs) (ne_eqb v u ne)))
      (cases_eq v u))
      (cases_eq (get_or ex v 0) 0)

-- what waits after a part of the excess at v went to an outer end
module _ (ex qs : List ℕ) (v by : ℕ) (front : qs ≡ v ∷ drop 1 qs) (full : 0 < get_or ex v 0) (queued : Queued ex qs) where
  first_once : (u : ℕ) → v ≡ u → times u qs ≡ 1
  first_once u e = queued u ∙ some (get_or ex u 0) (subst (λ k. 0 < get_or ex k 0) e full)

  settled_out : Queued (moved ex v by None) (settled (moved ex v by None) v by None qs)
  settled_out u =
      let ex' = set ex v (get_or ex v 0 - by) in
      let p = parted_times ex' v (drop 1 qs) qs u front (first_once u) in
      ⊎_elim
      (λ (s : v ≡ u). p ∙ cond-true (eqb v u) (cond (ltb 0 (get_or ex' v 0)) 1 0) (times u qs) (eq-eqb v u s) ∙ ap (λ k. cond (ltb 0 (get_or ex' k 0)) 1 0) s)
      (λ (ne : v ≡ u → ⊥). p ∙ cond-false (eqb v u) (cond (ltb 0 (get_or ex' v 0)) 1 0) (times u qs) (ne_eqb v u ne) ∙ queued u ∙ ap (λ n. cond (ltb 0 n) 1 0) (sym (get_or-set_other ex v u (get_or ex v 0 - by) 0 (λ q. ne (sym q)))))
      (cases_eq v u)

  module _ (w : ℕ) (wide : length ex ≡ 64) (v_in : v < 64) (w_in : w < 64) (apart : v ≡ w → ⊥) (some_by : 0 < by) where
    at_w : get_or (given (taken ex v by) w by) w 0 ≡ get_or ex w 0 + by
    at_w =
        get_or-set_same (taken ex v by) w (get_or (taken ex v by) w 0 + by) 0 (omega (arith, length-set ex v (get_or ex v 0 - by)))
        ∙ ap (λ n. n + by) (get_or-set_other ex v w (get_or ex v 0 - by) 0 (λ q. apart (sym q)))

    at_other : (u : ℕ) → (w ≡ u → ⊥) → (v ≡ u → ⊥) → get_or (given (taken ex v by) w by) u 0 ≡ get_or ex u 0
    at_other u nw nv = get_or-set_other (taken ex v by) w u (get_or (taken ex v by) w 0 + by) 0 (λ q. nw (sym q)) ∙ get_or-set_other ex v u (get_or ex v 0 - by) 0 (λ q. nv (sym q))

    come : List ℕ
    come = arrived (given (taken ex v by) w by) by (Some w) qs

    come_front : come ≡ v ∷ drop 1 come
    unfolding come
    come_front =
        ⊎_elim
        (λ (e : get_or (given (taken ex v by) w by) w 0 ≡ by).
        let c : come ≡ qs ++ w ∷ [] = cond-true (eqb (get_or (given (taken ex v by) w by) w 0) by) (qs ++ w ∷ []) qs (eq-eqb (get_or (given (taken ex v by) w by) w 0) by e) in
        let f : qs ++ w ∷ [] ≡ v ∷ (drop 1 qs ++ w ∷ []) = ap (λ (t : List ℕ). t ++ w ∷ []) front in
        c ∙ f ∙ ap (λ (t : List ℕ). v ∷ drop 1 t) (sym (c ∙ f)))
        (λ (ne : get_or (given (taken ex v by) w by) w 0 ≡ by → ⊥).
        let c : come ≡ qs = cond-false (eqb (get_or (given (taken ex v by) w by) w 0) by) (qs ++ w ∷ []) qs (ne_eqb (get_or (given (taken ex v by) w by) w 0) by ne) in
        c ∙ front ∙ ap (λ (t : List ℕ). v ∷ drop 1 t) (sym c))
        (cases_eq (get_or (given (taken ex v by) w by) w 0) by)

    -- w waits once, and the others as before
    come_times : (u : ℕ) → times u come ≡ cond (eqb w u) 1 (times u qs)
    unfolding come
    come_times u =
        ⊎_elim
        (λ (e : get_or (given (taken ex v by) w by) w 0 ≡ by).
        let c : come ≡ qs ++ w ∷ [] = cond-true (eqb (get_or (given (taken ex v by) w by) w 0) by) (qs ++ w ∷ []) qs (eq-eqb (get_or (given (taken ex v by) w by) w 0) by e) in
        ⊎_elim
        (λ (s : w ≡ u). omega (arith, ap (times u) c, times_push u qs w, hit w u s, cond-true (eqb w u) 1 (times u qs) (eq-eqb w u s), ap (λ k. times k qs) s, queued w, none (get_or ex w 0) (omega (arith, at_w))))
        (λ (ne : w ≡ u → ⊥). omega (arith, ap (times u) c, times_push u qs w, miss w u ne, cond-false (eqb w u) 1 (times u qs) (ne_eqb w u ne)))
        (cases_eq w u))
        (λ (more : get_or (given (taken ex v by) w by) w 0 ≡ by → ⊥).
        let c : come ≡ qs = cond-false (eqb (get_or (given (taken ex v by) w by) w 0) by) (qs ++ w ∷ []) qs (ne_eqb (get_or (given (taken ex v by) w by) w 0) by more) in
        ⊎_elim
        (λ (s : w ≡ u). omega (arith, ap (times u) c, cond-true (eqb w u) 1 (times u qs) (eq-eqb w u s), ap (λ k. times k qs) s, queued w, some (get_or ex w 0) (omega (arith, at_w))))
        (λ (ne : w ≡ u → ⊥). omega (arith, ap (times u) c, cond-false (eqb w u) 1 (times u qs) (ne_eqb w u ne)))
        (cases_eq w u))
        (cases_eq (get_or (given (taken ex v by) w by) w 0) by)

    settled_over : Queued (moved ex v by (Some w)) (settled (moved ex v by (Some w)) v by (Some w) qs)
    unfolding come
    settled_over u =
        let ex' = given (taken ex v by) w by in
        let p = parted_times ex' v (drop 1 come) come u come_front (λ s. omega (arith, come_times u, cond-false (eqb w u) 1 (times u qs) (ne_eqb w u (λ q. apart (s ∙ sym q))), first_once u s)) in
        ⊎_elim
        (λ (s : v ≡ u). p ∙ cond-true (eqb v u) (cond (ltb 0 (get_or ex' v 0)) 1 0) (times u come) (eq-eqb v u s) ∙ ap (λ k. cond (ltb 0 (get_or ex' k 0)) 1 0) s)
        (λ (ne : v ≡ u → ⊥).
        let q = p ∙ cond-false (eqb v u) (cond (ltb 0 (get_or ex' v 0)) 1 0) (times u come) (ne_eqb v u ne) ∙ come_times u in
        ⊎_elim
        (λ (s : w ≡ u). omega (arith, q, cond-true (eqb w u) 1 (times u qs) (eq-eqb w u s), some (get_or ex' u 0) (subst (λ k. 0 < get_or ex' k 0) s (omega (arith, at_w)))))
        (λ (nw : w ≡ u → ⊥). q ∙ cond-false (eqb w u) 1 (times u qs) (ne_eqb w u nw) ∙ queued u ∙ ap (λ n. cond (ltb 0 n) 1 0) (sym (at_other u nw ne)))
        (cases_eq w u))
        (cases_eq v u)

-- a cabinet other than v, below 64
abbrev pub Far : ℕ → Option ℕ → Type 0
Far v (Some w) = (w < 64) × (v ≡ w → ⊥)
Far v None = Unit {0}

pub queued_settled : (ex qs : List ℕ) (v by : ℕ) (to : Option ℕ) → qs ≡ v ∷ drop 1 qs → 0 < get_or ex v 0 → Queued ex qs → length ex ≡ 64 → v < 64 → 0 < by → Far v to → Queued (moved ex v by to) (settled (moved ex v by to) v by to qs)
queued_settled ex qs v by None front full queued wide v_in pos_by far = settled_out ex qs v by front full queued
queued_settled ex qs v by (Some w) front full queued wide v_in pos_by far = settled_over ex qs v by front full queued w wide v_in far.0 far.1 pos_by

pub pushed_on : (before after : List ℕ) (x n : ℕ) (b : Bool) → Pushed before x b after n → length before < n → after ≡ before ++ (x ∷ [])
pushed_on before after x n true p h = p.0
pushed_on before after x n false p h = absurd (omega (arith, p.1))
