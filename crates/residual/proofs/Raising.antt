-- The least free amount of a path, and the steps of the loop that raises the flow along it.
use Rattle.std.proofs.Common.{◌≡◌, ℕ, ◌+◌, ◌<◌, ◌≤◌, min, Bool, true, false, cond, eqb, leb, ◌⊎◌, List, [], ◌∷◌, length, get_or, drop, set, ℤ, pos, ◌+ℤ◌, ◌-ℤ◌, neg_ℤ, nat_abs, sym, refl, ap, ◌∙◌, subst, inl, inr, arith}
use Rattle.std.specs.List.{AllByRecursion}
use Rattle.std.proofs.lemmas.List.{get_or-set_other, drop-set-lt, drop_more}
use Rattle.std.proofs.lemmas.Bool.{eqb-true, eqb-false, leb-true, le-leb}
use Rattle.flow.specs.Ranges.{most_limit}
use Rattle.flow.specs.Nets.{only, net}
use Rattle.flow.proofs.Sums.{whole}
use Rattle.flow.proofs.Steps.{leaving_set, within_set}
use Rattle.search.specs.Graphs.{Mesh, Graph, Lawful, Step, across}
use Rattle.search.specs.Paths.{OpenPath, destination, SimplePath}
use Rattle.search.proofs.Meshes.{touch_cases}
use Rattle.search.proofs.Once.{links_once}
use Rattle.engine.specs.declared.arc.Arc.{Arc}
use Rattle.engine.specs.Arcs.{blank, tail_of, head_of, limit_of, AllSound}
use Rattle.residual.specs.Meshes.{mesh_of, ahead, toward, room_on, free, residual}
use Rattle.residual.specs.Raising.{least, Route, Moved}

-- the flow was raised by x from u to `at`, and the links of `rest` are to come
pub record Onward (ls : List Arc) (was fs : List ℤ) (x u at w : ℕ) (rest : List ℕ) : Type 0 where
  pub moved : Moved ls was fs x u at
  pub route : Route ls fs x at rest w

-- x more fits where x is free
pub raise_fits : (b : Bool) (limit x : ℕ) (f : ℤ) → nat_abs f ≤ limit → x ≤ room_on limit f b → nat_abs (f +ℤ toward b (pos x)) ≤ limit
raise_fits true limit x f h k = omega (arith, whole)
raise_fits false limit x f h k = omega (arith, whole)

-- what is least is at most x, above 0 on a path of open steps, and free on each link of it
pub least_most : (ls : List Arc) (fs : List ℤ) (u : ℕ) (path : List ℕ) (x : ℕ) → least ls fs u path x ≤ x
least_most ls fs u [] x = omega arith
least_most ls fs u (l ∷ path) x = omega (arith, least_most ls fs (across (mesh_of ls) u l) path (min x (free ls fs u l)))

pub least_some : (ls : List Arc) (fs : List ℤ) (u : ℕ) (path : List ℕ) (x : ℕ) → 0 < x → OpenPath (residual ls fs 1) u path → 0 < least ls fs u path x
least_some ls fs u [] x h o = h
least_some ls fs u (l ∷ path) x h o =
    let clear : 1 ≤ free ls fs u l = leb-true 1 (free ls fs u l) o.0.clear in
    least_some ls fs (across (mesh_of ls) u l) path (min x (free ls fs u l)) (omega arith) o.1

pub least_open : (ls : List Arc) (fs : List ℤ) (u : ℕ) (path : List ℕ) (x y : ℕ) → y ≤ least ls fs u path x → OpenPath (residual ls fs 1) u path → OpenPath (residual ls fs y) u path
least_open ls fs u [] x y h o = tt
least_open ls fs u (l ∷ path) x y h o =
    let low = least_most ls fs (across (mesh_of ls) u l) path (min x (free ls fs u l)) in
    (record { listed = o.0.listed; touching = o.0.touching; clear = le-leb y (free ls fs u l) (omega arith) }, least_open ls fs (across (mesh_of ls) u l) path (min x (free ls fs u l)) y h o.1)

-- the next link stands in front
pub front_open : (g : Graph) (u : ℕ) (path : List ℕ) (i : ℕ) → i < length path → OpenPath g u (drop i path) → OpenPath g u (get_or path i 0 ∷ drop (i + 1) path)
front_open g u path i h o = subst (OpenPath g u) (drop_more path i 0 h) o

pub least_more : (ls : List Arc) (fs : List ℤ) (u : ℕ) (path : List ℕ) (i x y v z : ℕ) → i < length path → y ≡ min x (free ls fs u (get_or path i 0)) → v ≡ across (mesh_of ls) u (get_or path i 0) → least ls fs u (drop i path) x ≡ z → least ls fs v (drop (i + 1) path) y ≡ z
least_more ls fs u path i x y v z h e q inv =
    ap (λ a. least ls fs a (drop (i + 1) path) y) q
    ∙ ap (least ls fs (across (mesh_of ls) u (get_or path i 0)) (drop (i + 1) path)) e
    ∙ ap (λ p. least ls fs u p x) (sym (drop_more path i 0 h))
    ∙ inv

-- what a step does to the nets
turn_net : (b c : Bool) (x : ℤ) → only b (neg_ℤ x) -ℤ only c (neg_ℤ x) ≡ only c x -ℤ only b x
turn_net true true x = omega (arith, whole)
turn_net true false x = omega (arith, whole)
turn_net false true x = omega (arith, whole)
turn_net false false x = refl

step_net : (b : Bool) (t h at v : ℕ) (x : ℤ) → eqb t at ≡ b → (t ≡ at) ⊎ (h ≡ at) → only (eqb t v) (toward b x) -ℤ only (eqb h v) (toward b x) ≡ only (eqb at v) x -ℤ only (eqb (cond b h t) v) x
step_net true t h at v x e w = ap (λ a. only (eqb a v) x -ℤ only (eqb h v) x) (eqb-true t at e)
step_net false t h at v x e (inl w) = absurd (eqb-false t at e w)
step_net false t h at v x e (inr w) = turn_net (eqb t v) (eqb h v) x ∙ ap (λ a. only (eqb a v) x -ℤ only (eqb t v) x) w

join_nets : (n' n m u a b s : ℤ) → n' ≡ n +ℤ s → n ≡ m +ℤ (u -ℤ a) → s ≡ a -ℤ b → n' ≡ m +ℤ (u -ℤ b)
join_nets n' n m u a b s e f g = omega (arith, whole)

-- where a path leads does not depend on what is open
destination_same : (m : Mesh) (o p : ℕ → ℕ → Bool) (u : ℕ) (path : List ℕ) → destination (record { mesh = m; opens = o }) u path ≡ destination (record { mesh = m; opens = p }) u path
destination_same m o p u [] = refl
destination_same m o p u (l ∷ rest) = destination_same m o p (across m u l) rest

-- a path that a search found is a route for what is free on each of its links
pub route_of : (ls : List Arc) (fs : List ℤ) (x u : ℕ) (path : List ℕ) (w : ℕ) → Lawful (mesh_of ls) → SimplePath (residual ls fs 1) u path w → OpenPath (residual ls fs x) u path → Route ls fs x u path w
route_of ls fs x u path w laws p o = record { steps = o; once = links_once (residual ls fs 1) laws u path w p; arrives = destination_same (mesh_of ls) (residual ls fs x).opens (residual ls fs 1).opens u path ∙ p.arrives }

module _ (ls : List Arc) (fs : List ℤ) (x l : ℕ) (z : ℤ) where
  -- another link has as much free as before
  open_set : (u : ℕ) (path : List ℕ) → AllByRecursion (λ m. l ≡ m → ⊥) path → OpenPath (residual ls fs x) u path → OpenPath (residual ls (set fs l z) x) u path
  open_set u [] a o = tt
  open_set u (m ∷ rest) a o = (
    record {
      listed = o.0.listed;
      touching = o.0.touching;
      clear = ap (λ f. leb x (room_on (get_or ls m blank).limit f (ahead ls u m))) (get_or-set_other fs l m z (pos 0) (λ e. a.0 (sym e))) ∙ o.0.clear;
    },
    open_set (across (mesh_of ls) u m) rest a.1 o.1,
  )

-- one link more is raised
pub onward_more : (ls : List Arc) (was fs : List ℤ) (x u at w l : ℕ) (rest : List ℕ) (fs' : List ℤ) (at' : ℕ) → length ls ≤ length fs → Onward ls was fs x u at w (l ∷ rest) → fs' ≡ set fs l (get_or fs l (pos 0) +ℤ toward (ahead ls at l) (pos x)) → at' ≡ across (mesh_of ls) at l → Onward ls was fs' x u at' w rest
onward_more ls was fs x u at w l rest fs' at' long o e q =
    let y : ℤ = toward (ahead ls at l) (pos x) in
    let z : ℤ = get_or fs l (pos 0) +ℤ y in
    let step : Step (residual ls fs x) at l = o.route.steps.0 in
    let listed : l < length ls = step.listed in
    let place : l < length fs = omega arith in
    let room : x ≤ free ls fs at l = leb-true x (free ls fs at l) step.clear in
    let next : Onward ls was (set fs l z) x u (across (mesh_of ls) at l) w rest = record {
      moved = record {
        within = within_set limit_of ls fs l z blank place o.moved.within (raise_fits (ahead ls at l) (get_or ls l blank).limit x (get_or fs l (pos 0)) (o.moved.within l blank listed) room);
        nets = λ v. join_nets _ (net tail_of head_of ls fs v) (net tail_of head_of ls was v) (only (eqb u v) (pos x)) (only (eqb at v) (pos x)) (only (eqb (across (mesh_of ls) at l) v) (pos x)) _ (leaving_set tail_of head_of (λ c. eqb c v) ls fs l y blank listed place) (o.moved.nets v) (step_net (ahead ls at l) (get_or ls l blank).tail (get_or ls l blank).head at v (pos x) refl (touch_cases (mesh_of ls) at l step.touching));
        beyond = drop-set-lt (length ls) fs l z listed ∙ o.moved.beyond;
      };
      route = record {
        steps = open_set ls fs x l z (across (mesh_of ls) at l) rest o.route.once.0 o.route.steps.1;
        once = o.route.once.1;
        arrives = destination_same (mesh_of ls) (residual ls (set fs l z) x).opens (residual ls fs x).opens (across (mesh_of ls) at l) rest ∙ o.route.arrives;
      };
    } in
    subst (λ f. Onward ls was f x u at' w rest) (sym e) (subst (λ a. Onward ls was (set fs l z) x u a w rest) (sym q) next)

pub onward_at : (ls : List Arc) (was fs : List ℤ) (x u at w : ℕ) (path : List ℕ) (i : ℕ) → i < length path → Onward ls was fs x u at w (drop i path) → Onward ls was fs x u at w (get_or path i 0 ∷ drop (i + 1) path)
onward_at ls was fs x u at w path i h o = subst (Onward ls was fs x u at w) (drop_more path i 0 h) o

-- what one push asks
pub push_fits : (ls : List Arc) (was fs : List ℤ) (x u at w l : ℕ) (rest : List ℕ) → AllSound ls → Onward ls was fs x u at w (l ∷ rest) → (nat_abs (get_or fs l (pos 0)) ≤ most_limit) × (nat_abs (get_or fs l (pos 0) +ℤ toward (ahead ls at l) (pos x)) ≤ most_limit)
push_fits ls was fs x u at w l rest sound o =
    let step : Step (residual ls fs x) at l = o.route.steps.0 in
    let small : (get_or ls l blank).limit ≤ most_limit = (sound l blank step.listed).3 in
    let here : nat_abs (get_or fs l (pos 0)) ≤ (get_or ls l blank).limit = o.moved.within l blank step.listed in
    let fits = raise_fits (ahead ls at l) (get_or ls l blank).limit x (get_or fs l (pos 0)) here (leb-true x (free ls fs at l) step.clear) in
    (omega arith, omega (arith, fits))
