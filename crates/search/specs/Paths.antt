-- Paths of open steps, and what shows that there is none.
use Rattle.std.specs.Prelude.{◌≡◌, ℕ, ◌<◌, Bool, true, false, List, [], ◌∷◌, take, drop, Some, None, Option, ◌≢◌, slice_index_or}
use Rattle.std.specs.List.{AllByRecursion}
use Rattle.search.specs.Graphs.{Graph, Step, across}

-- The links ls, taken in turn from the cabinet u, are open steps.
abbrev pub OpenPath : Graph → ℕ → List ℕ → Type 0
OpenPath g u [] = Unit {0}
OpenPath g u (l ∷ ls) = Step g u l × OpenPath g (across g.mesh u l) ls

-- The cabinet that the links ls lead to from u.
abbrev pub destination : Graph → ℕ → List ℕ → ℕ
destination g u [] = u
destination g u (l ∷ ls) = destination g (across g.mesh u l) ls

-- The cabinets on the way from u over the links ls, both ends with them.
abbrev pub visited : Graph → ℕ → List ℕ → List ℕ
visited g u [] = u ∷ []
visited g u (l ∷ ls) = u ∷ visited g (across g.mesh u l) ls

-- No two numbers of the list are equal.
abbrev pub Distinct : List ℕ → Type 0
Distinct [] = Unit {0}
Distinct (x ∷ xs) = AllByRecursion (λ y. x ≢ y) xs × Distinct xs

-- A path of open steps from the start to the goal, without a repeated cabinet.
pub record SimplePath (g : Graph) (start : ℕ) (ls : List ℕ) (goal : ℕ) : Type 0 where
  pub open_steps : OpenPath g start ls
  pub arrives : destination g start ls ≡ goal
  pub simple : Distinct (visited g start ls)

-- The set of the cabinets v with `side` true at v holds the start, lacks the goal and is left by no open step.
pub record Separates (g : Graph) (start goal : ℕ) (side : List Bool) : Type 0 where
  pub inside : slice_index_or side start false ≡ true
  pub outside : slice_index_or side goal false ≡ false
  pub closed : (u l : ℕ) → u < 64 → slice_index_or side u false ≡ true → Step g u l → slice_index_or side (across g.mesh u l) false ≡ true

-- No path of open steps leads from the start to the goal.
abbrev pub Unreachable : Graph → ℕ → ℕ → Type 0
Unreachable g start goal = (ls : List ℕ) → OpenPath g start ls → destination g start ls ≢ goal

-- A path was found: its n links stand at the front of the caller's list, the later places and the side are unchanged.
pub record Reached (g : Graph) (start goal n : ℕ) (path path' : List ℕ) (side side' : List Bool) : Type 0 where
  pub way : SimplePath g start (take n path') goal
  pub short : n < 64
  pub rest : drop n path' ≡ drop n path
  pub side_kept : side' ≡ side

-- There is no path: the side separates the start from the goal, and the caller's list is unchanged.
pub record Parted (g : Graph) (start goal : ℕ) (path path' : List ℕ) (side' : List Bool) : Type 0 where
  pub separates : Separates g start goal side'
  pub unreachable : Unreachable g start goal
  pub path_kept : path' ≡ path

-- The answer of a search, with what it leaves in the two lists that it was lent.
abbrev pub Found : Graph → ℕ → ℕ → Option ℕ → List ℕ → List ℕ → List Bool → List Bool → Type 0
Found g start goal (Some n) path path' side side' = Reached g start goal n path path' side side'
Found g start goal None path path' side side' = Parted g start goal path path' side'
