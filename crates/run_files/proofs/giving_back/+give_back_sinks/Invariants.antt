use Rattle.std.proofs.Common.{vec_len}
use Rattle.run_files.proofs.giving_back.+give_back_sinks.Given as goal

abbrev pub decreases-give_back_sinks : goal.decreases-give_back_sinks
decreases-give_back_sinks g l = vec_len l.sinks
