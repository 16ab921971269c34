use Rattle.std.proofs.Common.{◌≡◌, false, ◌||◌, eqb, ap₂, rules, sym, ne_eqb}
use Rattle.flow.specs.declared.stream.Stream.TheVariants.{One, Two}
use Rattle.sheet.proofs.sheet.Sheet.route.Goals as goal

pub returns-in_err-stream-clause-route : goal.returns-in_err-stream-clause-route
returns-in_err-stream-clause-route c =
    let none = c.in_err-stream.ensures.1 in
    let e : (eqb c.args.stream 1 || eqb c.args.stream 2) ≡ false = ap₂ ◌||◌ (ne_eqb c.args.stream 1 (λ q. none One (sym q))) (ne_eqb c.args.stream 2 (λ q. none Two (sym q))) in
    search rules
