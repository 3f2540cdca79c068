use Rattle.std.proofs.Common.{vec_len}
use Rattle.plan_run.proofs.returning.+give_back_scripts.Given as goal

abbrev pub decreases-give_back_scripts : goal.decreases-give_back_scripts
decreases-give_back_scripts g l = vec_len l.sessions
