-- The chain of the marks back from a reached cabinet is a simple path from the start.
use Rattle.std.proofs.Common.{◌≡◌, ℕ, zero, suc, ◌+◌, ◌-◌, ◌<◌, ◌≤◌, true, Option, Some, List, [], ◌∷◌, ◌++◌, length, take, drop, set, sym, refl, ap, ◌∙◌, subst, inl, inr, arith}
use Rattle.std.specs.List.{between, AllByRecursion}
use Rattle.std.proofs.lemmas.List.{drop-set, append_assoc}
use Rattle.std.proofs.ByRecursion.{All-push, All-weaker}
use Rattle.search.specs.Graphs.{Graph, Step, across}
use Rattle.search.specs.Spreads.{mark, reached, level_of, from_of, over_of, chain, Stepped, Tree}
use Rattle.search.specs.Paths.{OpenPath, visited, destination, Distinct, SimplePath}
use Rattle.search.specs.declared.marks.Mark.{Mark}

module _ (g : Graph) (l : ℕ) where
  open_push : (u : ℕ) (ls : List ℕ) → OpenPath g u ls → Step g (destination g u ls) l → OpenPath g u (ls ++ (l ∷ []))
  open_push u [] o s = (s, tt)
  open_push u (k ∷ ls) o s = (o.0, open_push (across g.mesh u k) ls o.1 s)

  destination_push : (u : ℕ) (ls : List ℕ) → destination g u (ls ++ (l ∷ [])) ≡ across g.mesh (destination g u ls) l
  destination_push u [] = refl
  destination_push u (k ∷ ls) = destination_push (across g.mesh u k) ls

  visited_push : (u : ℕ) (ls : List ℕ) → visited g u (ls ++ (l ∷ [])) ≡ visited g u ls ++ (across g.mesh (destination g u ls) l ∷ [])
  visited_push u [] = refl
  visited_push u (k ∷ ls) = ap (λ (vs : List ℕ). u ∷ vs) (visited_push (across g.mesh u k) ls)

distinct_push : (xs : List ℕ) (y : ℕ) → Distinct xs → AllByRecursion (λ x. x ≡ y → ⊥) xs → Distinct (xs ++ (y ∷ []))
distinct_push [] y d a = (tt, tt)
distinct_push (x ∷ xs) y d a = (All-push (λ z. x ≡ z → ⊥) xs y d.0 a.0, distinct_push xs y d.1 a.1)

module _ (g : Graph) (start : ℕ) (ms : List (Option Mark)) (tree : Tree g start ms) where
  -- the path, with the cabinets on it no higher than its end
  record Climb (ls : List ℕ) (c k : ℕ) : Type 0 where
    path : SimplePath g start ls c
    below : AllByRecursion (λ x. level_of (mark ms x) ≤ k) (visited g start ls)

  climbed_more : (ls : List ℕ) (c k : ℕ) → level_of (mark ms c) ≡ suc k → Stepped g ms c (mark ms c) → Climb ls (from_of (mark ms c)) k → Climb (ls ++ ((over_of (mark ms c)) ∷ [])) c (suc k)
  climbed_more ls c k h s b =
      let u = (from_of (mark ms c)) in
      let l = (over_of (mark ms c)) in
      let p = b.path in
      let to : across g.mesh (destination g start ls) l ≡ c = ap (λ (x : ℕ). across g.mesh x l) p.arrives ∙ s.leads in
      let all : visited g start (ls ++ (l ∷ [])) ≡ visited g start ls ++ (c ∷ []) =
      visited_push g l start ls ∙ ap (λ (x : ℕ). visited g start ls ++ (x ∷ [])) to in
      let fresh : AllByRecursion (λ x. x ≡ c → ⊥) (visited g start ls) =
      All-weaker (λ x. level_of (mark ms x) ≤ k) (λ x. x ≡ c → ⊥) (λ x le e. let z : level_of (mark ms x) ≡ level_of (mark ms c) = ap (λ (y : ℕ). level_of (mark ms y)) e in omega arith) (visited g start ls) b.below in
      record {
        path = record {
          open_steps = open_push g l start ls p.open_steps (subst (λ (x : ℕ). Step g x l) (sym p.arrives) s.step);
          arrives = destination_push g l start ls ∙ to;
          simple = subst Distinct (sym all) (distinct_push (visited g start ls) c p.simple fresh);
        };
        below = subst (AllByRecursion (λ x. level_of (mark ms x) ≤ suc k)) (sym all)
            (All-push (λ x. level_of (mark ms x) ≤ suc k) (visited g start ls) c (All-weaker (λ x. level_of (mark ms x) ≤ k) (λ x. level_of (mark ms x) ≤ suc k) (λ x le. omega arith) (visited g start ls) b.below) (omega arith));
      }

  climbed : (k c : ℕ) → c < 64 → reached ms c ≡ true → level_of (mark ms c) ≡ k → Climb (chain ms c k) c k
  climbed zero c lt r h = elim (tree.comes c lt r) [
    | inl b ↦ record { path = record { open_steps = tt; arrives = sym b.0; simple = (tt, tt) }; below = (subst (λ (x : ℕ). level_of (mark ms x) ≤ 0) b.0 (omega arith), tt) }
    | inr s ↦ absurd (omega (arith, s.next))
  ]
  climbed (suc k) c lt r h = elim (tree.comes c lt r) [
    | inl b ↦ absurd (omega (arith, b.1))
    | inr s ↦ climbed_more (chain ms (from_of (mark ms c)) k) c k h s (climbed k (from_of (mark ms c)) (tree.near c lt) s.known (omega (arith, s.next)))
  ]

  pub chain_path : (goal n : ℕ) → goal < 64 → reached ms goal ≡ true → n ≡ level_of (mark ms goal) → (ls : List ℕ) → ls ≡ chain ms goal n → SimplePath g start ls goal
  chain_path goal n lt r h ls e = subst (λ (x : List ℕ). SimplePath g start x goal) (sym e) (climbed n goal lt r (sym h)).path

-- what is still to be written from `at` on, and what has been, is the chain from the goal
abbrev pub Tracing : List (Option Mark) → ℕ → ℕ → List ℕ → ℕ → ℕ → Type 0
Tracing ms goal count path at left = chain ms at left ++ between left count path ≡ chain ms goal count

between_more : (xs : List ℕ) (i n x : ℕ) → i < n → i < length xs → between i n (set xs i x) ≡ x ∷ between (i + 1) n xs
between_more xs i n x lt long =
    let z : n - i ≡ suc (n - (i + 1)) = omega arith in
    ap (λ (k : ℕ). take k (drop i (set xs i x))) z ∙ ap (take (suc (n - (i + 1)))) (drop-set xs i x long)

step : (ms : List (Option Mark)) (goal count : ℕ) (path : List ℕ) (at k : ℕ) → k < count → k < length path → Tracing ms goal count path at (suc k) → Tracing ms goal count (set path k (over_of (mark ms at))) (from_of (mark ms at)) k
step ms goal count path at k lt long t =
    let e : k + 1 ≡ suc k = omega arith in
    ap (λ (xs : List ℕ). chain ms (from_of (mark ms at)) k ++ xs) (between_more path k count (over_of (mark ms at)) lt long ∙ ap (λ (i : ℕ). (over_of (mark ms at)) ∷ between i count path) e)
    ∙ sym (append_assoc (chain ms (from_of (mark ms at)) k) ((over_of (mark ms at)) ∷ []) (between (suc k) count path))
    ∙ t

-- the marked link is written
pub tracing_more : (ms : List (Option Mark)) (goal count : ℕ) (path : List ℕ) (at : ℕ) (m : Mark) → mark ms at ≡ Some m → m.level ≤ count → count ≤ length path → level_of (mark ms m.from) + 1 ≡ m.level → Tracing ms goal count path at (level_of (mark ms at)) → Tracing ms goal count (set path (m.level - 1) m.over) m.from (level_of (mark ms m.from))
tracing_more ms goal count path at m is le long falls t =
    let k = level_of (mark ms m.from) in
    let here : level_of (mark ms at) ≡ suc k = ap level_of is ∙ omega arith in
    let last : k ≡ m.level - 1 = omega arith in
    subst (λ (i : ℕ). Tracing ms goal count (set path i m.over) m.from k) last
    (subst (λ (o : Option Mark). Tracing ms goal count (set path k (over_of o)) (from_of o) k) is
    (step ms goal count path at k (omega arith) (omega arith) (subst (Tracing ms goal count path at) here t)))
