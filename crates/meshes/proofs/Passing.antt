-- The whole table passes the test: computed once, over all its rows.
use Rattle.std.proofs.Common.{◌≡◌, ℕ, ◌<◌, Bool, true, List, [], ◌∷◌, get_or, refl, subst, lit<}
use Rattle.std.specs.List.{list_all}
use Rattle.std.proofs.lemmas.List.Sums.{AllPass-from_list_all}
use Rattle.flow.specs.Tests.{all_below, is_shared, is_conserved}
use Rattle.plan.specs.Judging.{lowest_failing}
use Rattle.meshes.specs.declared.worked.Worked.{Worked}
use Rattle.meshes.specs.declared.worked.Worked.TheVariants.{NoLinks, SameWay, HeadOn, HeadOnChain, OneSource, Trunk, TrunkTurned, Ring, RingResized, TrunkInTrial, HeadOnEven, HeadOnOver}
use Rattle.meshes.specs.Table.{example, WholeTable}
use Rattle.meshes.proofs.Testing.{passes, shown}

-- all worked meshes, and the place of each
abbrev all : List Worked
all = NoLinks ∷ SameWay ∷ HeadOn ∷ HeadOnChain ∷ OneSource ∷ Trunk ∷ TrunkTurned ∷ Ring ∷ RingResized ∷ TrunkInTrial ∷ HeadOnEven ∷ HeadOnOver ∷ []

listed : (mesh : Worked) → (k : ℕ) × (k < 12) × (get_or all k NoLinks ≡ mesh)
listed NoLinks = (0, lit< tt, refl)
listed SameWay = (1, lit< tt, refl)
listed HeadOn = (2, lit< tt, refl)
listed HeadOnChain = (3, lit< tt, refl)
listed OneSource = (4, lit< tt, refl)
listed Trunk = (5, lit< tt, refl)
listed TrunkTurned = (6, lit< tt, refl)
listed Ring = (7, lit< tt, refl)
listed RingResized = (8, lit< tt, refl)
listed TrunkInTrial = (9, lit< tt, refl)
listed HeadOnEven = (10, lit< tt, refl)
listed HeadOnOver = (11, lit< tt, refl)

abbrev passed : Worked → Bool
passed mesh = passes (example mesh)

all_pass : list_all passed all ≡ true
unfolding all_below is_shared is_conserved lowest_failing
all_pass = refl

pub whole_table : WholeTable
whole_table mesh =
    let at = listed mesh in
    shown (example mesh) (subst (λ (m : Worked). passed m ≡ true) at.2 (AllPass-from_list_all passed all all_pass at.0 NoLinks at.1))
