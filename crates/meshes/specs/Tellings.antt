-- What a refusal is told as.
use Rattle.std.specs.Prelude.{ℕ, List, ◌++◌, codes, decimal}
use Rattle.meshes.specs.declared.refusal.Refusal.{Refusal}

-- a refusal is told by its number and its place
abbrev pub refusal_text : Refusal → List ℕ
refusal_text r = decimal r.number ++ (codes " at " ++ decimal r.place)
