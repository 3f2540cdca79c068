use Rattle.time_table.proofs.BlockCounts.{digits_are}
use Rattle.time_table.proofs.series.digits.Goals as goal

pub returns-clause-digits : goal.returns-clause-digits
returns-clause-digits c = digits_are c.args.n c.ranges.n.fits
