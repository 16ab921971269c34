-- A path without a repeated cabinet has no link twice.
use Rattle.std.proofs.Common.{◌≡◌, ℕ, ◌<◌, true, List, [], ◌∷◌, sym, ◌∙◌, subst, inl, inr}
use Rattle.std.specs.List.{AllByRecursion}
use Rattle.search.specs.Graphs.{Graph, Lawful, touches, across}
use Rattle.search.specs.Laws.{EndOf, OnceLaw}
use Rattle.search.specs.Paths.{OpenPath, visited, Distinct}
use Rattle.search.proofs.Meshes.{across_first, across_second, touch_cases}

module _ (g : Graph) (laws : Lawful g.mesh) where
  -- from its other end a link leads back
  back : (u c l : ℕ) → l < g.mesh.links → EndOf g.mesh u l → EndOf g.mesh c l → (u ≡ c → ⊥) → across g.mesh c l ≡ u
  back u c l h (inl a) (inl b) ne = absurd (ne (sym a ∙ b))
  back u c l h (inl a) (inr b) ne = across_second g.mesh c l (λ e. laws.apart l h (e ∙ sym b)) ∙ a
  back u c l h (inr a) (inl b) ne = across_first g.mesh c l b ∙ a
  back u c l h (inr a) (inr b) ne = absurd (ne (sym a ∙ b))

  first_visited : (P : ℕ → Type 0) (c : ℕ) (ls : List ℕ) → AllByRecursion P (visited g c ls) → P c
  first_visited P c [] a = a.0
  first_visited P c (l ∷ ls) a = a.0

  -- a link at u is on no open path that avoids u
  avoided : (u l : ℕ) → touches g.mesh u l ≡ true → (c : ℕ) (ls : List ℕ) → OpenPath g c ls → AllByRecursion (λ y. u ≡ y → ⊥) (visited g c ls) → AllByRecursion (λ k. l ≡ k → ⊥) ls
  avoided u l t c [] o a = tt
  avoided u l t c (k ∷ ls) o a = (
    λ e.
        let at_u = touch_cases g.mesh u k (subst (λ (x : ℕ). touches g.mesh u x ≡ true) e t) in
        let at_c = touch_cases g.mesh c k o.0.touching in
        first_visited (λ y. u ≡ y → ⊥) (across g.mesh c k) ls a.1 (sym (back u c k o.0.listed at_u at_c a.0)),
    avoided u l t (across g.mesh c k) ls o.1 a.1,
  )

  pub once_on : (u : ℕ) (ls : List ℕ) → OpenPath g u ls → Distinct (visited g u ls) → Distinct ls
  once_on u [] o a = tt
  once_on u (l ∷ ls) o a = (avoided u l o.0.touching (across g.mesh u l) ls o.1 a.0, once_on (across g.mesh u l) ls o.1 a.1)

pub links_once : OnceLaw
links_once g laws start ls goal p = once_on g laws start ls p.open_steps p.simple
