-- Where only the start is reached.
use Rattle.std.proofs.Common.{◌≡◌, ℕ, ◌+◌, ◌<◌, true, cond, Option, Some, None, is_some, is_none, List, [], ◌∷◌, set, replicate, sym, refl, ap, ◌∙◌, subst, inl, inr, arith}
use Rattle.std.proofs.lemmas.List.{get_or-set_same, get_or-set_other, get_or-replicate, length-set, length-replicate}
use Rattle.std.proofs.lemmas.List.Sums.{sum_by-set}
use Rattle.std.proofs.lemmas.Bool.{cases_eq, both_ways}
use Rattle.search.specs.Graphs.{Graph}
use Rattle.search.specs.Spreads.{root, come, mark, reached, level_of, from_of, unreached, Tree, Resting}
use Rattle.search.specs.declared.marks.Mark.{Mark}
use Rattle.search.specs.declared.marks.Arrival.{Arrival}

module _ (g : Graph) (start : ℕ) (in' : start < 64) where
  abbrev none : List (Option Mark)
  none = replicate 64 None

  abbrev ms : List (Option Mark)
  ms = set none start (Some (root start))

  same : mark ms start ≡ Some (root start)
  same = get_or-set_same none start (Some (root start)) None (omega (arith, length-replicate {A = Option Mark} 64 None))

  other : (c : ℕ) → c < 64 → (c ≡ start → ⊥) → mark ms c ≡ None
  other c lt n = get_or-set_other none start c (Some (root start)) None n ∙ get_or-replicate 64 c None None lt

  only : (c : ℕ) → c < 64 → reached ms c ≡ true → c ≡ start
  only c lt h = elim (cases_eq c start) [
    | inl e ↦ e
    | inr n ↦ absurd (both_ways (reached ms c) (ap is_some (other c lt n)) h)
  ]

  close : (c : ℕ) → c < 64 → from_of (mark ms c) < 64
  close c lt = elim (cases_eq c start) [
    | inl e ↦ omega (arith, ap from_of (ap (mark ms) e ∙ same), in')
    | inr n ↦ omega (arith, ap from_of (other c lt n))
  ]

  few : unreached ms + 1 ≡ 64
  few =
      let s = sum_by-set (λ (m : Option Mark). cond (is_none m) 1 0) none start (Some (root start)) None (omega (arith, length-replicate {A = Option Mark} 64 None)) in
      let one : ◌≡◌ {A = ℕ} (cond (is_none (mark none start)) 1 0) 1 = ap (λ (m : Option Mark). cond (is_none m) 1 0) (get_or-replicate 64 start None None in') in
      let all : unreached none ≡ 64 = refl in
      omega (arith, s, one, all)

  flat : (c : ℕ) → c < 64 → reached ms c ≡ true → level_of (mark ms c) ≡ 0
  flat c lt h = ap (λ (k : ℕ). level_of (mark ms k)) (only c lt h) ∙ ap level_of same

  tree : Tree g start ms
  tree = record {
    long = length-set none start (Some (root start)) ∙ length-replicate {A = Option Mark} 64 None;
    near = close;
    begins = ap is_some same;
    comes = λ c lt h. inl (only c lt h, flat c lt h);
    low = λ c lt h. omega (arith, flat c lt h, few);
  }

  pub begun : (ns : List (Option Mark)) (qs : List Arrival) → ns ≡ ms → qs ≡ come start 0 ∷ [] → Resting g start ns qs
  begun ns qs e f =
      subst (λ (x : List (Option Mark)). Resting g start x qs) (sym e)
      (subst (λ (y : List Arrival). Resting g start ms y) (sym f) (record {
        spread = record { tree = tree; waiting = ((in', tree.begins), tt); places = omega (arith, few) };
        settled = λ c lt h. inl (inl (sym (only c lt h)));
      }))
