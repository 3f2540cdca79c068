use Rattle.std.proofs.Common.{arith}
use Rattle.image_cube.proofs.TableCounts.{all-told}
use Rattle.image_cube.proofs.save.tell_tables.Goals as goal

pub returns : goal.returns
returns g c = all-told c.args.arena.now c.loop-i.i (omega (arith, c.len-i-end.ensures, c.loop-i-test.false)) c.loop-i.invariant
