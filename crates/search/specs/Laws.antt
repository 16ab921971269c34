-- Laws of rows and of paths.
use Rattle.std.specs.Prelude.{◌≡◌, ℕ, ◌<◌, ◌⊎◌, List, [], ◌∷◌}
use Rattle.std.specs.List.{ContainsAt as Has, AllByRecursion}
use Rattle.search.specs.Graphs.{Mesh, Graph, Lawful, incident}
use Rattle.search.specs.Paths.{Distinct, SimplePath}

-- The cabinet v is one of the two ends of the link l.
abbrev pub EndOf : Mesh → ℕ → ℕ → Type 0
EndOf m v l = (m.first l ≡ v) ⊎ (m.second l ≡ v)

-- Each number is above the one before.
abbrev pub Ascending : List ℕ → Type 0
Ascending [] = Unit {0}
Ascending (x ∷ xs) = AllByRecursion (λ y. x < y) xs × Ascending xs

-- A row holds links of the cabinet alone, holds them all, and holds them in ascending order, so each once.
pub record Row (m : Mesh) (v : ℕ) (row : List ℕ) : Type 0 where
  pub only : AllByRecursion (λ l. (l < m.links) × EndOf m v l) row
  pub every : (l : ℕ) → l < m.links → EndOf m v l → Has row l
  pub ascending : Ascending row

-- Every link stands in the rows of its two ends and nowhere else, in ascending order.
abbrev pub RowLaw : Type 0
RowLaw = (m : Mesh) (v : ℕ) → Row m v (incident m v)

-- A path without a repeated cabinet has no link twice.
abbrev pub OnceLaw : Type 0
OnceLaw = (g : Graph) → Lawful g.mesh → (start : ℕ) (ls : List ℕ) (goal : ℕ) → SimplePath g start ls goal → Distinct ls
