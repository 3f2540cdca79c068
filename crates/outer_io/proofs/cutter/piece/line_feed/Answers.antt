use Rattle.std.proofs.Common.{◌==◌}
use Rattle.outer_io.proofs.FirstPlace.{first_place}
use Rattle.outer_io.proofs.cutter.piece.line_feed.Goals as goal

pub returns : goal.returns
returns c = first_place (λ b. b == 10) c.args.bytes.now c.memchr.result c.memchr.ensures
