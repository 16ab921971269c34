use Rattle.std.proofs.Common.{◌≡◌, false, Some, None, Option, sym, refl, ◌∙◌, subst}
use Rattle.std.specs.Prelude.{is_some}
use Rattle.std.proofs.lemmas.Bool.{true≢false}
use Rattle.residual.specs.Networks.{links_in}
use Rattle.preflow.specs.declared.way.Best.{Best}
use Rattle.preflow.specs.Ways.{UpTo}
use Rattle.preflow.proofs.Lowers.{feed_least}
use Rattle.preflow.proofs.lowest.Landscape.lowest.Goals as goal

none_of : (o : Option Best) → is_some o ≡ false → o ≡ None
none_of None e = refl
none_of (Some b) e = absurd (true≢false e)

pub returns-clause-least : goal.returns-clause-least
returns-clause-least c m up =
    let job = c.args.self.now.residual.network.now.job.now in
    let none = none_of c.into_drain-drain.result (sym c.is_some.ensures ∙ c.if-is_some.false) in
    feed_least (links_in c.args.self.now.residual.network.now) job.at job.most c.args.amounts c.args.self.now.residual.flow.now c.args.self.now.heights.now c.args.at c.requires.amounts (sym c.into_drain-drain.ensures ∙ none) c.over_links.result c.over_links.ensures.least m (subst (λ (o : Option Best). UpTo o m) c.into_feed.ensures up)
