use Rattle.query_syntax.proofs.Validity.{fit_region}
use Rattle.query_syntax.proofs.filters.region_filter.Goals as goal

pub returns-clause-fits : goal.returns-clause-fits
returns-clause-fits c = rw c.set_region.ensures (λ verb takes window fits. fit_region c.args.schema.now verb c.args.filters.now c.in_ok-tile.tile takes window fits c.in_ok-tile.ensures.valid)
