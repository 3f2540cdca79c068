use Rattle.std.proofs.Common.{arith}
use Rattle.time_table.proofs.run.put_new.Goals as goal

pub overflow_add-row : goal.overflow_add-row
overflow_add-row g c = omega (arith, c.requires.fits.half, c.total_of.ensures)

pub put_last-requires : goal.put_last-requires
put_last-requires g c = omega (arith, c.requires.fits.small, c.total_of.ensures)
