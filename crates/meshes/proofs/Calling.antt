-- Calls that are accepted one after another, computed.
use Rattle.std.proofs.Common.{◌≡◌, Bool, true, false, not, ◌&&◌, List, [], ◌∷◌, ◌++◌, is_some, Some, None, Option, refl}
use Rattle.std.specs.List.{remove}
use Rattle.std.proofs.lemmas.Bool.{and_parts, false≢true}
use Rattle.mesh.specs.declared.fault.Fault.{Fault}
use Rattle.mesh.specs.Links.{between}
use Rattle.book.specs.History.{State, state, Call, refusal, resized, slots_of, Goes}
use Rattle.book.specs.History.Call.{Add, Resize, Drop, Name, Begin, Close, Draw, Admit}
use Rattle.meshes.specs.Examples.{Leads}

-- what an accepted call leads to, but for a draw, whose plan the engine chooses
abbrev done : State → Call → State
done s (Add a b n) = state (s.rows ++ (between a b n ∷ [])) s.pairs s.trial None
done s (Resize l n) = state (resized s.rows l n) s.pairs s.trial None
done s (Drop l) = state (remove s.rows l) s.pairs s.trial None
done s (Name p) = state s.rows (Some p) s.trial None
done s (Begin l) = state (resized s.rows l 0) s.pairs (Some (record { link = l; slots = slots_of s.rows l })) None
done s (Close u) = state (resized s.rows u.link u.slots) s.pairs None None
done s Draw = s
done s (Admit h) = state s.rows s.pairs s.trial (Some h)

abbrev is_draw : Call → Bool
is_draw (Add a b n) = false
is_draw (Resize l n) = false
is_draw (Drop l) = false
is_draw (Name p) = false
is_draw (Begin l) = false
is_draw (Close u) = false
is_draw Draw = true
is_draw (Admit h) = false

goes : (s : State) (c : Call) → not (is_draw c) ≡ true → Goes s c (done s c)
goes s (Add a b n) e = refl
goes s (Resize l n) e = refl
goes s (Drop l) e = refl
goes s (Name p) e = refl
goes s (Begin l) e = refl
goes s (Close u) e = refl
goes s Draw e = absurd (false≢true e)
goes s (Admit h) e = refl

unrefused : (o : Option Fault) → not (is_some o) ≡ true → o ≡ None
unrefused None e = refl
unrefused (Some f) e = absurd (false≢true e)

-- the calls are accepted one after another, and where they lead
abbrev pub are_accepted : State → List Call → Bool
are_accepted s [] = true
are_accepted s (c ∷ cs) = not (is_draw c) && not (is_some (refusal s c)) && are_accepted (done s c) cs

abbrev pub after : State → List Call → State
after s [] = s
after s (c ∷ cs) = after (done s c) cs

pub leads : (s : State) (cs : List Call) → are_accepted s cs ≡ true → Leads s cs (after s cs)
leads s [] e = refl
leads s (c ∷ cs) e =
    let a = and_parts (not (is_draw c) && not (is_some (refusal s c))) (are_accepted (done s c) cs) e in
    let b = and_parts (not (is_draw c)) (not (is_some (refusal s c))) a.0 in
    (done s c, (unrefused (refusal s c) b.1, goes s c b.0), leads (done s c) cs a.1)
