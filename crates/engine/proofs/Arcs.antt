-- Links by their places in a list.
use Rattle.std.proofs.Common.{List}
use Rattle.std.proofs.ByRecursion.{All-from_get_or, All-get_or, all_kept_by}
use Rattle.flow.specs.Ranges.{cabinets}
use Rattle.flow.specs.Nets.{Inside}
use Rattle.flow.specs.Trimming.{can_carry, trimmed}
use Rattle.engine.specs.declared.arc.Arc.{Arc}
use Rattle.engine.specs.Arcs.{tail_of, head_of, limit_of, Sound, AllSound}

-- the ends of sound links are cabinets
pub sound_inside : (ls : List Arc) → AllSound ls → Inside tail_of head_of cabinets ls
sound_inside ls sound k d h = ((sound k d h).0, (sound k d h).1)

-- links that are kept stay sound
pub sound_trimmed : (ls : List Arc) → AllSound ls → AllSound (trimmed limit_of ls)
sound_trimmed ls sound k d h =
    All-get_or Sound (trimmed limit_of ls) k d h (all_kept_by (can_carry limit_of) Sound ls (All-from_get_or Sound ls d (λ i l. sound i d l)))
