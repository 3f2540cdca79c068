use Rattle.std.proofs.Common.{vec_len}
use Rattle.plan_run.proofs.unrun.+give_back_sessions.Given as goal

abbrev pub decreases-give_back_sessions : goal.decreases-give_back_sessions
decreases-give_back_sessions g l = vec_len l.sessions
