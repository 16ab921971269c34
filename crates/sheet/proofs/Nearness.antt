-- A stream's total is bounded by the slots of the links.
use Rattle.std.proofs.Common.{◌≡◌, ℕ, suc, ◌+◌, ◌*◌, ◌<◌, ◌≤◌, Bool, true, false, eqb, List, [], ◌∷◌, length, get_or, ℤ, pos, ◌+ℤ◌, ◌-ℤ◌, nat_abs, sym, subst, arith}
use Rattle.flow.specs.Ranges.{cabinets, most_slots}
use Rattle.flow.specs.declared.pairs.Pair.{Pair}
use Rattle.flow.specs.declared.stream.Stream.{Stream}
use Rattle.flow.specs.declared.stream.Stream.TheVariants.{One, Two}
use Rattle.flow.specs.Streams.{pair_of}
use Rattle.flow.specs.Plans.{Shared}
use Rattle.flow.specs.Nets.{only, here, after, net}
use Rattle.flow.proofs.Sums.{whole}
use Rattle.flow.proofs.Bounds.{after_at}
use Rattle.plan.specs.declared.listed.Plan.{Plan}
use Rattle.plan.specs.Listed.{shares_of}
use Rattle.mesh.specs.declared.row.Row.{Row}
use Rattle.mesh.specs.Links.{blank, low_of, high_of, capacity_of}
use Rattle.sheet.specs.Plans.{Fits}
use Rattle.sheet.specs.Routes.{AllRuled}

-- shares that fit the links' slots are no larger than a link's slots can be
pub shares_small : (links : List Row) (one two : List ℤ) → AllRuled links → Shared capacity_of links one two → (k : ℕ) → k < length links → (nat_abs (get_or one k (pos 0)) ≤ most_slots) × (nat_abs (get_or two k (pos 0)) ≤ most_slots)
shares_small links one two ruled shared k h = (omega (arith, shared k blank h, (ruled k h).3), omega (arith, shared k blank h, (ruled k h).3))

-- one link's part in the bound, beside the others' m
link_near : (a b : Bool) (f rest : ℤ) (m n : ℕ) → nat_abs f ≤ m → nat_abs rest ≤ n * (2 * m) → nat_abs ((only a f -ℤ only b f) +ℤ rest) ≤ 2 * m + n * (2 * m)
link_near true true f rest m n h r = omega (arith, whole)
link_near true false f rest m n h r = omega (arith, whole)
link_near false true f rest m n h r = omega (arith, whole)
link_near false false f rest m n h r = omega (arith, whole)

-- what leaves a cabinet minus what enters it is at most twice all slots that there can be
pub net_near : (links : List Row) (shares : List ℤ) (v : ℕ) → ((k : ℕ) → k < length links → nat_abs (get_or shares k (pos 0)) ≤ most_slots) → nat_abs (net low_of high_of links shares v) ≤ length links * (2 * most_slots)
net_near [] shares v h = omega (arith, whole)
net_near (l ∷ ls) shares v h =
    let rest = net_near ls (after shares) v (λ k q. subst (λ x. nat_abs x ≤ most_slots) (sym (after_at shares k)) (h (suc k) (omega arith))) in
    let near = link_near (eqb l.low v) (eqb l.high v) (here shares) (net low_of high_of ls (after shares) v) most_slots (length ls) (h 0 (omega arith)) rest in
    omega (arith, near)

-- what holds of one stream's shares and ends
pub record StreamFits (links : List Row) (shares : List ℤ) (ends : Pair) : Type 0 where
  pub long : length shares ≡ length links
  pub small : (k : ℕ) → k < length links → nat_abs (get_or shares k (pos 0)) ≤ most_slots
  pub source_in : ends.source < cabinets
  pub goal_in : ends.goal < cabinets

-- so it is for each stream of a plan that fits
pub stream_fits : (links : List Row) (p : Plan) → AllRuled links → Fits links p → (stream : Stream) (shares : List ℤ) (ends : Pair) → shares ≡ shares_of stream p.one.now p.two.now → ends ≡ pair_of p.pairs stream → StreamFits links shares ends
stream_fits links p ruled f stream shares ends es ee = subst (λ (fs : List ℤ). StreamFits links fs ends) (sym es) (subst (StreamFits links (shares_of stream p.one.now p.two.now)) (sym ee) (at stream))
  where
    small : (k : ℕ) → k < length links → (nat_abs (get_or p.one.now k (pos 0)) ≤ most_slots) × (nat_abs (get_or p.two.now k (pos 0)) ≤ most_slots)
    small = shares_small links p.one.now p.two.now ruled f.shared

    at : (s : Stream) → StreamFits links (shares_of s p.one.now p.two.now) (pair_of p.pairs s)
    at One = record { long = f.ones; small = λ k h. (small k h).0; source_in = f.proper.source1_in; goal_in = f.proper.goal1_in }
    at Two = record { long = f.twos; small = λ k h. (small k h).1; source_in = f.proper.source2_in; goal_in = f.proper.goal2_in }
