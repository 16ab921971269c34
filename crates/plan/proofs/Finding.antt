-- Loops that look for the lowest number that fails a test.
use Rattle.std.proofs.Common.{◌≡◌, ℕ, zero, suc, ◌+◌, ◌<◌, ◌≤◌, Bool, true, false, cond, not, ◌&&◌, ltb, ◌⊎◌, List, [], ◌∷◌, length, get_or, position, Some, None, Option, sym, refl, ap, ◌∙◌, subst, ap₂, inl, inr, add-one, arith}
use Rattle.std.specs.List.{position_or_len}
use Rattle.std.proofs.lemmas.List.Sums.{fails_before_first, passes_at_first}
use Rattle.std.specs.Option.{option_or}
use Rattle.std.proofs.lemmas.Bool.{cases_eq, cases_lt, lt-ltb, le-ltb, and_parts}
use Rattle.flow.specs.declared.stream.Stream.{Stream}
use Rattle.flow.specs.declared.stream.Stream.TheVariants.{One, Two}
use Rattle.flow.specs.Tests.{all_below}
use Rattle.plan.specs.Judging.{lowest_failing}

pub none_yet : (test : ℕ → Bool) → lowest_failing 0 test ≡ None
unfolding lowest_failing
none_yet test = refl

more : (i : ℕ) (test : ℕ → Bool) → lowest_failing i test ≡ None → test i ≡ true → lowest_failing (suc i) test ≡ None
unfolding lowest_failing
more i test e b = ap₂ option_or e (ap (λ (t : Bool). cond t None (Some i)) b)

-- one more that passes
pub none_more : (i : ℕ) (test : ℕ → Bool) → lowest_failing i test ≡ None → test i ≡ true → lowest_failing (i + 1) test ≡ None
none_more i test e b = rw add-one (more i test e b)

-- the first that fails
pub lowest_here : (n i : ℕ) (test : ℕ → Bool) → i < n → lowest_failing i test ≡ None → test i ≡ false → lowest_failing n test ≡ Some i
unfolding lowest_failing
lowest_here zero i test q e b = absurd (omega arith)
lowest_here (suc n) i test q e b = by (λ k. lowest_here n i test k e b) (cases_eq i n)
  where
    by : (i < n → lowest_failing n test ≡ Some i) → (i ≡ n) ⊎ (i ≡ n → ⊥) → option_or (lowest_failing n test) (cond (test n) None (Some n)) ≡ Some i
    by rec (inl d) = subst (λ (m : ℕ). option_or (lowest_failing m test) (cond (test m) None (Some m)) ≡ Some i) d (ap₂ option_or e (ap (λ (t : Bool). cond t None (Some i)) b))
    by rec (inr d) = ap (λ (o : Option ℕ). option_or o (cond (test n) None (Some n))) (rec (omega arith))

-- nothing found in either
pub neither : (a b : Option ℕ) → option_or a b ≡ None → (a ≡ None) × (b ≡ None)
neither None b e = (refl, e)
neither (Some k) b e = let z : ◌≡◌ {A = ℕ} 0 1 = cc in absurd (omega arith)

passing : (b : Bool) (n : ℕ) → cond b None (Some n) ≡ None → b ≡ true
passing true n e = refl
passing false n e = let z : ◌≡◌ {A = ℕ} 0 1 = cc in absurd (omega arith)

-- none fails where all pass, and the other way round
pub none_all : (n : ℕ) (test : ℕ → Bool) → lowest_failing n test ≡ None → all_below n test ≡ true
unfolding lowest_failing all_below
none_all zero test e = refl
none_all (suc n) test e =
    let w = neither (lowest_failing n test) (cond (test n) None (Some n)) e in
    ap₂ ◌&&◌ (passing (test n) n w.1) (none_all n test w.0)

pub all_none : (n : ℕ) (test : ℕ → Bool) → all_below n test ≡ true → lowest_failing n test ≡ None
unfolding lowest_failing all_below
all_none zero test e = refl
all_none (suc n) test e =
    let w = and_parts (test n) (all_below n test) e in
    ap₂ option_or (all_none n test w.1) (ap (λ (t : Bool). cond t None (Some n)) w.0)

-- the tests of both streams, looked through one after the other
pub either_here : (n : ℕ) (test : Stream → ℕ → Bool) (i v : ℕ) → i < 2 → ((j : ℕ) → j < i → lowest_failing n (test (get_or (One ∷ Two ∷ []) j One)) ≡ None) → lowest_failing n (test (get_or (One ∷ Two ∷ []) i One)) ≡ Some v → option_or (lowest_failing n (test One)) (lowest_failing n (test Two)) ≡ Some v
either_here n test zero v q h e = ap (λ (o : Option ℕ). option_or o (lowest_failing n (test Two))) e
either_here n test (suc zero) v q h e = ap₂ option_or (h 0 (omega arith)) e
either_here n test (suc (suc i)) v q h e = absurd (omega arith)

-- the first place of a list that passes is the lowest number that fails a test
pub position_lowest : {X : Type 0} (p : X → Bool) (xs : List X) (test : ℕ → Bool) → ((k : ℕ) (d : X) → k < length xs → test k ≡ not (p (get_or xs k d))) → position p xs ≡ lowest_failing (length xs) test
unfolding lowest_failing
position_lowest p [] test same = refl
position_lowest p (x ∷ xs) test same = by (cases_lt at (length (x ∷ xs)))
  where
    at : ℕ
    at = position_or_len p (x ∷ xs)

    before : (n : ℕ) → n ≤ length (x ∷ xs) → n ≤ at → lowest_failing n test ≡ None
    before zero h q = none_yet test
    before (suc n) h q = more n test (before n (omega arith) (omega arith)) (same n x (omega arith) ∙ ap not (fails_before_first p (x ∷ xs) n x (omega arith)))

    by : (at < length (x ∷ xs)) ⊎ (length (x ∷ xs) ≤ at) → cond (ltb at (length (x ∷ xs))) (Some at) None ≡ lowest_failing (length (x ∷ xs)) test
    by (inl h) = ap (λ (b : Bool). cond b (Some at) None) (lt-ltb at (length (x ∷ xs)) h) ∙ sym (lowest_here (length (x ∷ xs)) at test h (before at (omega arith) (omega arith)) (same at x h ∙ ap not (passes_at_first p (x ∷ xs) x h)))
    by (inr h) = ap (λ (b : Bool). cond b (Some at) None) (le-ltb at (length (x ∷ xs)) h) ∙ sym (before (length (x ∷ xs)) (omega arith) h)
