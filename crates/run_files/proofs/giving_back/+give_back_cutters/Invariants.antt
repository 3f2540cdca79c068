use Rattle.std.proofs.Common.{vec_len}
use Rattle.run_files.proofs.giving_back.+give_back_cutters.Given as goal

abbrev pub decreases-give_back_cutters : goal.decreases-give_back_cutters
decreases-give_back_cutters g l = vec_len l.cutters
