use Rattle.std.proofs.Common.{arith}
use Rattle.query_syntax.proofs.Validity.{fit_time}
use Rattle.query_syntax.proofs.filters.time_filter.Goals as goal

pub returns-clause-fits : goal.returns-clause-fits
returns-clause-fits c = rw c.set_time.ensures (λ verb takes bins fits. fit_time c.args.schema.now verb c.args.filters.now c.in_ok-from.from c.in_ok-to.to takes bins fits (omega arith) c.in_ok-to.ensures.within.1)
