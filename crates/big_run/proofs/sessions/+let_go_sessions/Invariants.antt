use Rattle.std.proofs.Common.{vec_len}
use Rattle.big_run.proofs.sessions.+let_go_sessions.Given as goal

abbrev pub decreases-let_go_sessions : goal.decreases-let_go_sessions
decreases-let_go_sessions l = vec_len l.sessions
