use Rattle.std.proofs.Common.{vec_len}
use Rattle.run_files.proofs.giving_back.+give_back_sources.Given as goal

abbrev pub decreases-give_back_sources : goal.decreases-give_back_sources
decreases-give_back_sources g l = vec_len l.sources
