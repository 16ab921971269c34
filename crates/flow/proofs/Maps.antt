-- Links of another type that are made of these: what an engine answers for them is an answer for these.
use Rattle.std.proofs.Common.{◌≡◌, ℕ, zero, suc, ◌+◌, ◌≤◌, Bool, cond, eqb, List, [], ◌∷◌, map, get_or, ℤ, pos, ◌+ℤ◌, ◌-ℤ◌, nat_abs, sym, refl, ap, ◌∙◌, subst, arith}
use lib.ListN.{length-map, get_or-map}
use Rattle.flow.specs.declared.taps.Taps.{Taps}
use Rattle.flow.specs.Nets.{only, here, after, total, leaving, crosses, side_slots, Inside}
use Rattle.flow.specs.Answers.{Within, Answer, Solves}

module _ {X Y : Type 0} (g : X → Y) where
  pub total_mapped : (limit : Y → ℕ) (ls : List X) → total limit (map g ls) ≡ total (λ x. limit (g x)) ls
  total_mapped limit [] = refl
  total_mapped limit (l ∷ ls) = ap (λ k. limit (g l) + k) (total_mapped limit ls)

  module _ (low high limit : Y → ℕ) where
    pub leaving_mapped : (S : ℕ → Bool) (ls : List X) (fs : List ℤ) → leaving low high S (map g ls) fs ≡ leaving (λ x. low (g x)) (λ x. high (g x)) S ls fs
    leaving_mapped S [] fs = refl
    leaving_mapped S (l ∷ ls) fs = ap (λ z. (only (S (low (g l))) (here fs) -ℤ only (S (high (g l))) (here fs)) +ℤ z) (leaving_mapped S ls (after fs))

    pub slots_mapped : (S : ℕ → Bool) (ls : List X) → side_slots low high limit S (map g ls) ≡ side_slots (λ x. low (g x)) (λ x. high (g x)) (λ x. limit (g x)) S ls
    slots_mapped S [] = refl
    slots_mapped S (l ∷ ls) = ap (λ k. cond (crosses low high S (g l)) (limit (g l)) 0 + k) (slots_mapped S ls)

    pub inside_mapped : (n : ℕ) (ls : List X) → Inside (λ x. low (g x)) (λ x. high (g x)) n ls → Inside low high n (map g ls)
    inside_mapped n [] i k d h = absurd (omega arith)
    inside_mapped n (l ∷ ls) i zero d h = i 0 l (omega arith)
    inside_mapped n (l ∷ ls) i (suc k) d h = inside_mapped n ls (λ j e q. i (suc j) e (omega arith)) k d (omega arith)

    pub within_mapped : (ls : List X) (fs : List ℤ) → Within limit (map g ls) fs → Within (λ x. limit (g x)) ls fs
    within_mapped ls fs w k d h = subst (λ y. nat_abs (get_or fs k (pos 0)) ≤ limit y) (get_or-map g ls k d) (w k (g d) (omega (arith, length-map ls g)))

    pub solves_mapped : (n : ℕ) (ls : List X) (at most : Taps ℕ) (r : Answer) → Solves low high limit n (map g ls) at most r → Solves (λ x. low (g x)) (λ x. high (g x)) (λ x. limit (g x)) n ls at most r
    solves_mapped n ls at most r s =
        record {
          within = within_mapped ls r.flow s.within;
          amounts = s.amounts;
          balanced = λ v k. sym (leaving_mapped (λ u. eqb u v) ls r.flow) ∙ s.balanced v k;
          full = s.full ∙ ap (λ k. (cond (r.side at.feed1) 0 most.feed1 + cond (r.side at.feed2) 0 most.feed2) + k + (cond (r.side at.drain1) most.drain1 0 + cond (r.side at.drain2) most.drain2 0)) (slots_mapped r.side ls);
        }
