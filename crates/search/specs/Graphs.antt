-- Meshes, and which steps over their links are open.
use Rattle.std.specs.Prelude.{◌≡◌, ℕ, ◌<◌, ◌≤◌, Bool, true, if◌then◌else◌, ◌||◌, List, length, filter, ◌==◌, ◌≢◌, slice_index_or}
use Rattle.std.specs.List.{range_with_len}

-- Links are numbered from 0, and each has two ends.
pub record Mesh : Type 0 where
  pub links : ℕ
  pub first : ℕ → ℕ
  pub second : ℕ → ℕ

-- The mesh of a list of links, by what tells their two ends; `none` stands where the list has no link.
abbrev pub mesh_by : {T : Type 0} → (T → ℕ) → (T → ℕ) → T → List T → Mesh
mesh_by first second none links = record {
  links = length links;
  first = λ l. first (slice_index_or links l none);
  second = λ l. second (slice_index_or links l none);
}

-- There are at most 512 links, and each joins two different cabinets below 64.
pub record Lawful (m : Mesh) : Type 0 where
  pub few : m.links ≤ 512
  pub first_in : (l : ℕ) → l < m.links → m.first l < 64
  pub second_in : (l : ℕ) → l < m.links → m.second l < 64
  pub apart : (l : ℕ) → l < m.links → m.first l ≢ m.second l

-- The cabinet v is an end of the link l.
abbrev pub touches : Mesh → ℕ → ℕ → Bool
touches m v l = m.first l == v || m.second l == v

-- The links that touch the cabinet v, each once, in ascending order.
abbrev pub incident : Mesh → ℕ → List ℕ
incident m v = filter (touches m v) (range_with_len 0 m.links)

-- The end of the link l that is not the cabinet u.
abbrev pub across : Mesh → ℕ → ℕ → ℕ
across m u l = (if m.first l == u then m.second l else m.first l)

-- A mesh, and whether the step from a cabinet over a link is open.
pub record Graph : Type 0 where
  pub mesh : Mesh
  pub opens : ℕ → ℕ → Bool

-- The step from the cabinet u over the link l may be taken: u is an end of l, and the step is open.
pub record Step (g : Graph) (u l : ℕ) : Type 0 where
  pub listed : l < g.mesh.links
  pub touching : touches g.mesh u l ≡ true
  pub clear : g.opens u l ≡ true
