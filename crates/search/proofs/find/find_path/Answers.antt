use Rattle.std.proofs.Common.{◌≡◌, ℕ, true, false, take, drop, is_some, sym, refl, ap, subst, arith}
use Rattle.search.specs.Spreads.{mark, reached, level_of, chain}
use Rattle.search.proofs.Chains.{chain_path}
use Rattle.search.proofs.Partings.{separates, unreachable}
use Rattle.search.proofs.find.find_path.Goals as goal

pub returns-in-Some : goal.returns-in-Some
returns-in-Some g c =
    let s = c.spread_from-marks.ensures in
    let ms = c.spread_from-marks.result in
    let known : reached ms c.args.goal ≡ true = ap is_some c.in-Some.is in
    let level : level_of (mark ms c.args.goal) ≡ c.in-Some.mark.level = ap level_of c.in-Some.is in
    record {
      way = chain_path _ c.args.start ms s.tree c.args.goal _ c.requires.goal known (sym level) _ (subst (λ (n : ℕ). take n c.trace.new.path ≡ chain ms c.args.goal n) level c.trace.ensures.way);
      short = omega (arith, s.tree.low c.args.goal c.requires.goal known, level);
      rest = subst (λ (n : ℕ). drop n c.trace.new.path ≡ drop n c.args.path.now) level c.trace.ensures.rest;
      side_kept = refl;
    }

pub returns-in_default : goal.returns-in_default
returns-in_default g c =
    let laws = g.G.Ground.lawful c.args.ground.now in
    let out : reached c.spread_from-marks.result c.args.goal ≡ false = ap is_some c.in_default.is in
    let p = separates _ laws c.args.start c.args.goal _ _ c.requires.start c.requires.goal c.spread_from-marks.ensures out c.tell.ensures in
    record { separates = p; unreachable = unreachable _ laws c.args.start c.args.goal _ c.requires.start p; path_kept = refl }
