-- What the jobs of a drawing yield: with `big` and 0; with A and `big`, both ways round; with A and B, both ways round.
use Rattle.std.proofs.Common.{◌≡◌, ℕ, ◌+◌, ◌<◌, ◌≤◌, Bool, true, false, cond, not, eqb, List, ℤ, pos, ◌+ℤ◌, ◌-ℤ◌, sym, refl, ap, ◌∙◌, subst, ap₂, le_refl, arith}
use Rattle.std.proofs.lemmas.Bool.{true≢false, false≢true, eq-eqb, ne_eqb, cond-true, cond-false}
use Rattle.flow.specs.declared.pairs.Pairs.{Pairs}
use Rattle.flow.specs.Nets.{only, xor, total, side_slots, Inside}
use Rattle.flow.specs.Plans.{Proper, SumSide}
use Rattle.flow.specs.Answers.{Answer, Placed, Within, fed, cost}
use Rattle.flow.specs.Drawings.{turned, ends_of, both_of, Carries, Answered, mix, made_side}
use Rattle.flow.proofs.Cuts.{xor_swap, xor_turned, slots_xor, slots_turned, slots_within}
use Rattle.flow.proofs.Jobs.{fed_within, fed_drained}

-- ---- costs
no_cond : (b : Bool) → ◌≡◌ {A = ℕ} (cond b 0 0) 0
no_cond true = refl
no_cond false = refl

one_point : (a b c d : Bool) (A k big : ℕ) → a ≡ true → c ≡ false → A ≤ (cond a 0 big + cond b 0 0) + k + (cond c big 0 + cond d 0 0) → A ≤ k
one_point a b c d A k big ea ec h = omega (arith, no_cond b, no_cond d, cond-true a 0 big ea, cond-false c big 0 ec)

two_point : (a b c d : Bool) (A k x y : ℕ) → a ≡ true → b ≡ true → c ≡ false → d ≡ false → A ≤ (cond a 0 x + cond b 0 y) + k + (cond c x 0 + cond d y 0) → A ≤ k
two_point a b c d A k x y ea eb ec ed h = omega (arith, cond-true a 0 x ea, cond-true b 0 y eb, cond-false c x 0 ec, cond-false d y 0 ed)

tight : (a b c d : Bool) (A k big : ℕ) → A < big → A ≡ (cond a 0 big + cond b 0 0) + k + (cond c big 0 + cond d 0 0) → (a ≡ true) × (c ≡ false) × (k ≡ A)
tight true b true d A k big l e = absurd (omega arith)
tight true b false d A k big l e = (refl, refl, omega (arith, no_cond b, no_cond d))
tight false b true d A k big l e = absurd (omega arith)
tight false b false d A k big l e = absurd (omega arith)

base : (a c : Bool) (A k : ℕ) → (a ≡ true → c ≡ false → A ≤ k) → A ≤ cond a 0 A + k + cond c A 0
base true true A k h = omega arith
base true false A k h = omega (arith, h refl refl)
base false true A k h = omega arith
base false false A k h = omega arith

-- a side's cost with B in place of `big`
lowered : (b d : Bool) (x y A B big k v : ℕ) → A + B ≤ v → v ≤ (x + cond b 0 big) + k + (y + cond d big 0) → A ≤ x + k + y → A + B ≤ (x + cond b 0 B) + k + (y + cond d B 0)
lowered true true x y A B big k v h c f = omega arith
lowered true false x y A B big k v h c f = omega arith
lowered false true x y A B big k v h c f = omega arith
lowered false false x y A B big k v h c f = omega arith

forced : (b d : Bool) (x y A B big k : ℕ) → B < big → A ≤ x + k + y → A + B ≡ (x + cond b 0 big) + k + (y + cond d big 0) → (b ≡ true) × (d ≡ false)
forced true true x y A B big k l f e = absurd (omega arith)
forced true false x y A B big k l f e = (refl, refl)
forced false true x y A B big k l f e = absurd (omega arith)
forced false false x y A B big k l f e = absurd (omega arith)

reach : (a b c d : Bool) (A B big k v w : ℕ) → b ≡ true → c ≡ false → d ≡ false → k ≤ w → w < big → A + B ≤ v → v ≤ (cond a 0 A + cond b 0 big) + k + (cond c A 0 + cond d big 0) → B < big
reach true b c d A B big k v w eb ec ed l s h q = omega (arith, cond-true b 0 big eb, cond-false c A 0 ec, cond-false d big 0 ed)
reach false b c d A B big k v w eb ec ed l s h q = omega (arith, cond-true b 0 big eb, cond-false c A 0 ec, cond-false d big 0 ed)

both_same : (a c : Bool) (A : ℕ) → xor a c ≡ false → cond a 0 A + cond c A 0 ≡ A
both_same true true A e = omega arith
both_same true false A e = absurd (true≢false e)
both_same false true A e = absurd (true≢false e)
both_same false false A e = omega arith

at_least : (A x y k u v : ℕ) → A ≤ x + k + y → A ≤ (x + u) + k + (y + v)
at_least A x y k u v h = omega arith

all_used : (A B a b c d k : ℕ) → a ≤ A → b ≤ B → c ≤ A → d ≤ B → a + b ≡ k → A + B ≤ k → a + b ≡ c + d → (a ≡ A) × (b ≡ B) × (c ≡ A) × (d ≡ B)
all_used A B a b c d k p q r s e l m = omega arith

-- ---- sides
self : (a : Bool) → not (xor a a) ≡ true
self true = refl
self false = refl

other : (a b : Bool) → xor a b ≡ true → not (xor b a) ≡ false
other true true e = absurd (false≢true e)
other true false e = refl
other false true e = refl
other false false e = absurd (false≢true e)

pub turned_proper : (n : ℕ) (p : Pairs) → Proper n p → Proper n (turned p)
turned_proper n p pr = record { source1_in = pr.source1_in; goal1_in = pr.goal1_in; source2_in = pr.goal2_in; goal2_in = pr.source2_in; apart1 = pr.apart1; apart2 = λ e. pr.apart2 (sym e) }

pub ends_placed : (n : ℕ) (p : Pairs) → Proper n p → Placed n (ends_of p)
ends_placed n p pr = (pr.source1_in, pr.source2_in, pr.goal1_in, pr.goal2_in)

-- a side that parts the ends of stream 2 does so either way round
pub unturned : (p : Pairs) (S : ℕ → Bool) → SumSide (turned p) S → SumSide p S
unturned p S c = record { holds = c.holds; lacks = c.lacks; parts = turn (S p.source2) (S p.goal2) c.parts }
  where
    turn : (a b : Bool) → xor b a ≡ true → xor a b ≡ true
    turn true true e = e
    turn true false e = e
    turn false true e = e
    turn false false e = e

module _ {X : Type 0} (low high limit : X → ℕ) (n : ℕ) (ls : List X) (i : Inside low high n ls) where
  -- what a job's answer feeds is at most the cost of any side
  pub answer_within : (p : Pairs) (x y : ℕ) (r : Answer) → Proper n p → Answered low high limit n p x y ls r → (S : ℕ → Bool) → fed r ≤ cost low high limit (ends_of p) (both_of x y) ls S
  answer_within p x y r pr s S = fed_within low high n ls (ends_of p) r.amount r.flow i (ends_placed n p pr) s.balanced limit (both_of x y) s.within s.amounts S

  -- what a flow carries of both streams is at most the slots of a side that holds both sources and lacks both goals
  pub carried_within : (p : Pairs) (x y : ℕ) (fs : List ℤ) → Proper n p → Within limit ls fs → Carries low high n p x y ls fs → (S : ℕ → Bool) → S p.source1 ≡ true → S p.source2 ≡ true → S p.goal1 ≡ false → S p.goal2 ≡ false → x + y ≤ side_slots low high limit S ls
  carried_within p x y fs pr w c S ea eb ec ed =
      two_point (S p.source1) (S p.source2) (S p.goal1) (S p.goal2) (x + y) (side_slots low high limit S ls) x y ea eb ec ed (fed_within low high n ls (ends_of p) (both_of x y) fs i (ends_placed n p pr) c limit (both_of x y) w (le_refl x, le_refl y, le_refl x, le_refl y) S)

  -- the same for stream 1 alone, at a first side
  pub carried_one : (p : Pairs) (x : ℕ) (fs : List ℤ) → Proper n p → Within limit ls fs → Carries low high n p x 0 ls fs → (S : ℕ → Bool) → S p.source1 ≡ true → S p.goal1 ≡ false → x ≤ side_slots low high limit S ls
  carried_one p x fs pr w c S ea ec =
      let h : x + 0 ≤ side_slots low high limit S ls = one_point (S p.source1) (S p.source2) (S p.goal1) (S p.goal2) (x + 0) (side_slots low high limit S ls) x ea ec (fed_within low high n ls (ends_of p) (both_of x 0) fs i (ends_placed n p pr) c limit (both_of x 0) w (le_refl x, le_refl 0, le_refl x, le_refl 0) S) in
      omega arith

  -- where A + B is at most the cost of every side, the job with A and B uses all its limits
  pub all_carried : (p : Pairs) (A B : ℕ) (r : Answer) → Proper n p → ((S : ℕ → Bool) → A + B ≤ cost low high limit (ends_of p) (both_of A B) ls S) → Answered low high limit n p A B ls r → Carries low high n p A B ls r.flow
  all_carried p A B r pr h s v k =
      let f = all_used A B r.amount.feed1 r.amount.feed2 r.amount.drain1 r.amount.drain2 (cost low high limit (ends_of p) (both_of A B) ls r.side) s.amounts.0 s.amounts.1 s.amounts.2 s.amounts.3 s.full (h r.side) (fed_drained low high n ls (ends_of p) r.amount r.flow i (ends_placed n p pr) s.balanced) in
      s.balanced v k
      ∙ ap₂
      ◌-ℤ◌
      (ap₂ ◌+ℤ◌ (ap (λ x. only (eqb p.source1 v) (pos x)) f.0) (ap (λ x. only (eqb p.source2 v) (pos x)) f.1))
      (ap₂ ◌+ℤ◌ (ap (λ x. only (eqb p.goal1 v) (pos x)) f.2) (ap (λ x. only (eqb p.goal2 v) (pos x)) f.3))

  -- A is at most the cost of each side for stream 1 alone
  abbrev pub Floor : Pairs → ℕ → Type 0
  Floor p A = (S : ℕ → Bool) → A ≤ cond (S p.source1) 0 A + side_slots low high limit S ls + cond (S p.goal1) A 0

  -- so a job with A and y feeds at least A
  pub floor_fed : (p : Pairs) (A y : ℕ) (r : Answer) → Floor p A → Answered low high limit n p A y ls r → A ≤ fed r
  floor_fed p A y r fl s =
      subst (λ k. A ≤ k) (sym s.full) (at_least A (cond (r.side p.source1) 0 A) (cond (r.side p.goal1) A 0) (side_slots low high limit r.side ls) (cond (r.side p.source2) 0 y) (cond (r.side p.goal2) y 0) (fl r.side))

  module _ (big : ℕ) where
    -- the first job's A is at most every first side's limits
    pub first_least : (p : Pairs) (r : Answer) → Proper n p → Answered low high limit n p big 0 ls r → (S : ℕ → Bool) → S p.source1 ≡ true → S p.goal1 ≡ false → fed r ≤ side_slots low high limit S ls
    first_least p r pr s S ea ec = one_point (S p.source1) (S p.source2) (S p.goal1) (S p.goal2) (fed r) (side_slots low high limit S ls) big ea ec (answer_within p big 0 r pr s S)

    pub first_floor : (p : Pairs) (r : Answer) → Proper n p → Answered low high limit n p big 0 ls r → Floor p (fed r)
    first_floor p r pr s S = base (S p.source1) (S p.goal1) (fed r) (side_slots low high limit S ls) (λ ea ec. first_least p r pr s S ea ec)

    -- where A + B is at most what the job with A and `big` feeds, no side of the job with A and B costs less than A + B
    pub none_cheaper : (p : Pairs) (A B : ℕ) (r : Answer) → Proper n p → Floor p A → Answered low high limit n p A big ls r → A + B ≤ fed r → (S : ℕ → Bool) → A + B ≤ cost low high limit (ends_of p) (both_of A B) ls S
    none_cheaper p A B r pr fl s h S =
        lowered (S p.source2) (S p.goal2) (cond (S p.source1) 0 A) (cond (S p.goal1) A 0) A B big (side_slots low high limit S ls) (fed r) h (answer_within p A big r pr s S) (fl S)

    module _ (few : total limit ls < big) where
      -- the first job's side is a first side, and has just A
      pub first_job : (p : Pairs) (r : Answer) → Proper n p → Answered low high limit n p big 0 ls r → (r.side p.source1 ≡ true) × (r.side p.goal1 ≡ false) × (side_slots low high limit r.side ls ≡ fed r)
      first_job p r pr s =
          let at : fed r ≤ side_slots low high limit (λ u. eqb u p.source1) ls = first_least p r pr s (λ u. eqb u p.source1) (eq-eqb p.source1 p.source1 refl) (ne_eqb p.goal1 p.source1 (λ e. pr.apart1 (sym e))) in
          let below : fed r < big = omega (arith, slots_within low high limit (λ u. eqb u p.source1) ls) in
          tight (r.side p.source1) (r.side p.source2) (r.side p.goal1) (r.side p.goal2) (fed r) (side_slots low high limit r.side ls) big below s.full

      -- B is below `big`, from the job whose goal 1 is not its source 2
      pub second_few : (p : Pairs) (A B : ℕ) (r : Answer) → Proper n p → (p.goal1 ≡ p.source2 → ⊥) → Answered low high limit n p A big ls r → A + B ≤ fed r → B < big
      second_few p A B r pr ne s h =
          reach (eqb p.source1 p.source2) (eqb p.source2 p.source2) (eqb p.goal1 p.source2) (eqb p.goal2 p.source2) A B big (side_slots low high limit (λ u. eqb u p.source2) ls) (fed r) (total limit ls) (eq-eqb p.source2 p.source2 refl) (ne_eqb p.goal1 p.source2 ne) (ne_eqb p.goal2 p.source2 (λ e. pr.apart2 (sym e))) (slots_within low high limit (λ u. eqb u p.source2) ls) few h (answer_within p A big r pr s (λ u. eqb u p.source2))

    -- the sum side made of the first side F and the side S of a job whose cost is A + B
    pub made_sum : (p : Pairs) (A B : ℕ) (F S : ℕ → Bool) → B < big → F p.source1 ≡ true → F p.goal1 ≡ false → side_slots low high limit F ls ≡ A → A ≤ cond (S p.source1) 0 A + side_slots low high limit S ls + cond (S p.goal1) A 0 → A + B ≡ cost low high limit (ends_of p) (both_of A big) ls S → SumSide p (made_side F S p) × (side_slots low high limit (made_side F S p) ls ≤ A + B)
    made_sum p A B F S l fs ft e fl c = go (xor (F p.source2) (F p.goal2)) refl
      where
        way : (S p.source2 ≡ true) × (S p.goal2 ≡ false)
        way = forced (S p.source2) (S p.goal2) (cond (S p.source1) 0 A) (cond (S p.goal1) A 0) A B big (side_slots low high limit S ls) l fl c

        parts_S : xor (S p.source2) (S p.goal2) ≡ true
        parts_S = ap₂ xor way.0 way.1

        parts_F : xor (F p.source1) (F p.goal1) ≡ true
        parts_F = ap₂ xor fs ft

        -- a set that parts both pairs, turned so that it holds source 1
        turn : (P : ℕ → Bool) → xor (P p.source1) (P p.goal1) ≡ true → xor (P p.source2) (P p.goal2) ≡ true → side_slots low high limit P ls ≤ A + B → SumSide p (λ v. not (xor (P v) (P p.source1))) × (side_slots low high limit (λ v. not (xor (P v) (P p.source1))) ls ≤ A + B)
        turn P p1 p2 k =
            (record { holds = self (P p.source1); lacks = other (P p.source1) (P p.goal1) p1; parts = xor_turned (P p.source2) (P p.goal2) (P p.source1) ∙ p2 }, omega (arith, slots_turned low high limit P (P p.source1) ls))

        deep : (m : Bool) → xor (S p.source1) (S p.goal1) ≡ m → xor (F p.source2) (F p.goal2) ≡ false → SumSide p (λ v. not (xor (cond m (S v) (xor (F v) (S v))) (cond m (S p.source1) (xor (F p.source1) (S p.source1))))) × (side_slots low high limit (λ v. not (xor (cond m (S v) (xor (F v) (S v))) (cond m (S p.source1) (xor (F p.source1) (S p.source1))))) ls ≤ A + B)
        deep true em eo = turn S em parts_S (omega (arith, c))
        deep false em eo =
            turn
            (λ v. xor (F v) (S v))
            (xor_swap (F p.source1) (F p.goal1) (S p.source1) (S p.goal1) ∙ ap₂ xor parts_F em)
            (xor_swap (F p.source2) (F p.goal2) (S p.source2) (S p.goal2) ∙ ap₂ xor eo parts_S)
            (omega (arith, slots_xor low high limit F S ls, both_same (S p.source1) (S p.goal1) A em, c, e))

        go : (o : Bool) → xor (F p.source2) (F p.goal2) ≡ o → SumSide p (λ v. cond o (F v) (not (xor (mix F S p v) (mix F S p p.source1)))) × (side_slots low high limit (λ v. cond o (F v) (not (xor (mix F S p v) (mix F S p p.source1)))) ls ≤ A + B)
        go true eo = (record { holds = fs; lacks = ft; parts = eo }, omega (arith, e))
        go false eo = deep (xor (S p.source1) (S p.goal1)) refl eo
