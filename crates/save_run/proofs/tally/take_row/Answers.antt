use Rattle.std.proofs.Common.{[], ◌∷◌, sym, subst}
use Rattle.feed_reader.specs.Feeds.{points_in}
use Rattle.feed_reader.specs.declared.row.Row.{Row}
use Rattle.save_run.specs.Grouping.{GroupsTake}
use Rattle.save_run.proofs.tally.take_row.Goals as goal

pub returns-in_ok-take-in-Point-clause-points : goal.returns-in_ok-take-in-Point-clause-points
returns-in_ok-take-in-Point-clause-points c =
    subst (λ (row : Row). GroupsTake c.args.grouped.now c.take.new.self (points_in (row ∷ []))) (sym c.in-Point.is) c.in_ok-take-in-Point.ensures.taken
