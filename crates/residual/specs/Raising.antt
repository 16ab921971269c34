-- Raising a flow along a path.
use Rattle.std.specs.Prelude.{◌≡◌, ℕ, min, List, [], ◌∷◌, length, drop, ℤ, pos, ◌+ℤ◌, ◌-ℤ◌, ◌==◌}
use Rattle.flow.specs.Nets.{only, net}
use Rattle.flow.specs.Answers.{Within}
use Rattle.search.specs.Graphs.{across}
use Rattle.search.specs.Paths.{OpenPath, destination, Distinct}
use Rattle.engine.specs.declared.arc.Arc.{Arc}
use Rattle.engine.specs.Arcs.{tail_of, head_of, limit_of}
use Rattle.residual.specs.Meshes.{mesh_of, free, residual}

-- the least of x and what is free on each link of a path from u
abbrev pub least : List Arc → List ℤ → ℕ → List ℕ → ℕ → ℕ
least ls fs u [] x = x
least ls fs u (l ∷ path) x = least ls fs (across (mesh_of ls) u l) path (min x (free ls fs u l))

-- x more can go from u to w over the links of a path, none of which stands twice
pub record Route (ls : List Arc) (fs : List ℤ) (x u : ℕ) (path : List ℕ) (w : ℕ) : Type 0 where
  pub steps : OpenPath (residual ls fs x) u path
  pub once : Distinct path
  pub arrives : destination (residual ls fs x) u path ≡ w

-- the flow `after` has x more from u to w than the flow `was`, and the same places beyond the links
pub record Moved (ls : List Arc) (was after : List ℤ) (x u w : ℕ) : Type 0 where
  pub within : Within limit_of ls after
  pub nets : (v : ℕ) → net tail_of head_of ls after v ≡ net tail_of head_of ls was v +ℤ (only (u == v) (pos x) -ℤ only (w == v) (pos x))
  pub beyond : drop (length ls) after ≡ drop (length ls) was
