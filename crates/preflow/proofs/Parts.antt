-- What taking a part of a cabinet's excess, or giving one to it, does to the excess, to its sum and to the measure.
use Rattle.std.proofs.Common.{◌≡◌, ℕ, zero, suc, ◌+◌, ◌-◌, ◌*◌, ◌<◌, ◌≤◌, eqb, List, [], ◌∷◌, length, get_or, set, pos, ◌+ℤ◌, sum, sym, ap, ◌∙◌, subst, ⊎_elim, add-mul, mul-le-mul_left, mul-one, mul-add, arith}
use Rattle.std.specs.List.{AllByRecursion}
use Rattle.std.proofs.lemmas.List.{get_or-set_same, get_or-set_other}
use Rattle.std.proofs.lemmas.List.Sums.{sum_by-set, sum_by-cons}
use Rattle.std.proofs.lemmas.Bool.{cases_eq, eq-eqb, ne_eqb}
use Rattle.flow.specs.Nets.{only}
use Rattle.flow.proofs.Sums.{whole, only_true, only_false}
use Rattle.preflow.specs.Heights.{high}
use Rattle.preflow.specs.Sends.{taken, given}
use Rattle.preflow.specs.States.{dot}

back : (n d : ℕ) → d ≤ n → n ≡ (n - d) + d
back n d h = omega arith

dot_set : (es hs : List ℕ) (i x : ℕ) → i < length es → i < length hs → dot (set es i x) hs + get_or es i 0 * get_or hs i 0 ≡ dot es hs + x * get_or hs i 0
dot_set [] hs i x l m = absurd (omega arith)
dot_set (e ∷ es) [] i x l m = absurd (omega arith)
dot_set (e ∷ es) (h ∷ hs) zero x l m = omega arith
dot_set (e ∷ es) (h ∷ hs) (suc i) x l m = omega (arith, dot_set es hs i x (omega arith) (omega arith))

-- the sum of excess times height is at most the sum of excess times the greatest height
pub dot_most : (most : ℕ) (es hs : List ℕ) → AllByRecursion (λ h. h ≤ most) hs → dot es hs ≤ sum es * most
dot_most most [] hs low = omega arith
dot_most most (e ∷ es) [] low = omega arith
dot_most most (e ∷ es) (h ∷ hs) low =
    omega (arith, dot_most most es hs low.1, mul-le-mul_left e low.0, ap (λ n. n * most) (sum_by-cons (λ x. x) e es), add-mul e (sum es) most)

pub given_at : (ex : List ℕ) (v by u : ℕ) → v < length ex → pos (get_or (given ex v by) u 0) ≡ pos (get_or ex u 0) +ℤ only (eqb v u) (pos by)
given_at ex v by u l =
    ⊎_elim
    (λ (e : v ≡ u).
    let n : get_or (given ex v by) u 0 ≡ get_or ex u 0 + by = ap (λ k. get_or (given ex v by) k 0) (sym e) ∙ get_or-set_same ex v (get_or ex v 0 + by) 0 l ∙ ap (λ k. get_or ex k 0 + by) e in
    let o = only_true (eqb v u) (pos by) (eq-eqb v u e) in
    omega (arith, whole))
    (λ (ne : v ≡ u → ⊥).
    let n = get_or-set_other ex v u (get_or ex v 0 + by) 0 (λ q. ne (sym q)) in
    let o = only_false (eqb v u) (pos by) (ne_eqb v u ne) in
    omega (arith, whole))
    (cases_eq v u)

pub taken_at : (ex : List ℕ) (v by u : ℕ) → v < length ex → by ≤ get_or ex v 0 → pos (get_or (taken ex v by) u 0) +ℤ only (eqb v u) (pos by) ≡ pos (get_or ex u 0)
taken_at ex v by u l le =
    ⊎_elim
    (λ (e : v ≡ u).
    let n : get_or (taken ex v by) u 0 ≡ get_or ex u 0 - by = ap (λ k. get_or (taken ex v by) k 0) (sym e) ∙ get_or-set_same ex v (get_or ex v 0 - by) 0 l ∙ ap (λ k. get_or ex k 0 - by) e in
    let m : by ≤ get_or ex u 0 = subst (λ k. by ≤ get_or ex k 0) e le in
    let o = only_true (eqb v u) (pos by) (eq-eqb v u e) in
    omega (arith, whole))
    (λ (ne : v ≡ u → ⊥).
    let n = get_or-set_other ex v u (get_or ex v 0 - by) 0 (λ q. ne (sym q)) in
    let o = only_false (eqb v u) (pos by) (ne_eqb v u ne) in
    omega (arith, whole))
    (cases_eq v u)

pub given_sum : (ex : List ℕ) (v by : ℕ) → v < length ex → sum (given ex v by) ≡ sum ex + by
given_sum ex v by l = omega (arith, sum_by-set (λ x. x) ex v (get_or ex v 0 + by) 0 l)

pub taken_sum : (ex : List ℕ) (v by : ℕ) → v < length ex → by ≤ get_or ex v 0 → sum (taken ex v by) + by ≡ sum ex
taken_sum ex v by l le = omega (arith, sum_by-set (λ x. x) ex v (get_or ex v 0 - by) 0 l)

pub given_dot : (ex hs : List ℕ) (v by : ℕ) → v < length ex → v < length hs → dot (given ex v by) hs ≡ dot ex hs + by * high hs v
given_dot ex hs v by l m = omega (arith, dot_set ex hs v (get_or ex v 0 + by) l m, add-mul (get_or ex v 0) by (get_or hs v 0))

pub taken_dot : (ex hs : List ℕ) (v by : ℕ) → v < length ex → v < length hs → by ≤ get_or ex v 0 → dot (taken ex v by) hs + by * high hs v ≡ dot ex hs
taken_dot ex hs v by l m le =
    let split : get_or ex v 0 * get_or hs v 0 ≡ (get_or ex v 0 - by) * get_or hs v 0 + by * get_or hs v 0 = ap (λ n. n * get_or hs v 0) (back (get_or ex v 0) by le) ∙ add-mul (get_or ex v 0 - by) by (get_or hs v 0) in
    omega (arith, dot_set ex hs v (get_or ex v 0 - by) l m, split)

-- by times one more
pub times_more : (by h k : ℕ) → h ≡ k + 1 → by * h ≡ by * k + by
times_more by h k e = ap (λ n. by * n) e ∙ mul-add by k 1 ∙ ap (λ n. by * k + n) (mul-one by)
