-- What a separating set shows.
use Rattle.std.proofs.Common.{◌≡◌, ℕ, ◌<◌, Bool, true, false, Option, List, [], ◌∷◌, get_or, sym, ap, ◌∙◌}
use Rattle.std.proofs.lemmas.Bool.{both_ways}
use Rattle.search.specs.Graphs.{Graph, Lawful, across}
use Rattle.search.specs.Spreads.{reached, Ended, Told}
use Rattle.search.specs.Paths.{OpenPath, destination, Separates, Unreachable}
use Rattle.search.specs.declared.marks.Mark.{Mark}
use Rattle.search.proofs.Meshes.{across_in}

pub separates : (g : Graph) → Lawful g.mesh → (start goal : ℕ) (ms : List (Option Mark)) (side : List Bool) → start < 64 → goal < 64 → Ended g start goal ms → reached ms goal ≡ false → Told ms side → Separates g start goal side
separates g laws start goal ms side s_in g_in r out t = record {
  inside = t start s_in ∙ r.tree.begins;
  outside = t goal g_in ∙ out;
  closed = λ u l lt h s. t (across g.mesh u l) (across_in g.mesh u l laws s.listed) ∙ r.closed out u lt (sym (t u lt) ∙ h) l s;
}

-- A path of open steps does not leave the set.
stays : (g : Graph) → Lawful g.mesh → (start goal : ℕ) (side : List Bool) → Separates g start goal side → (u : ℕ) (ls : List ℕ) → u < 64 → get_or side u false ≡ true → OpenPath g u ls → get_or side (destination g u ls) false ≡ true
stays g laws start goal side p u [] lt h o = h
stays g laws start goal side p u (l ∷ ls) lt h o =
    stays g laws start goal side p (across g.mesh u l) ls (across_in g.mesh u l laws o.0.listed) (p.closed u l lt h o.0) o.1

-- So none leads to the goal.
pub unreachable : (g : Graph) → Lawful g.mesh → (start goal : ℕ) (side : List Bool) → start < 64 → Separates g start goal side → Unreachable g start goal
unreachable g laws start goal side lt p ls o e =
    both_ways (get_or side goal false) p.outside (ap (λ (c : ℕ). get_or side c false) (sym e) ∙ stays g laws start goal side p start ls lt p.inside o)
