use Rattle.std.proofs.Common.{vec_len}
use Rattle.cube_crew.proofs.sessions.+close_sessions.Given as goal

abbrev pub decreases-close_sessions : goal.decreases-close_sessions
decreases-close_sessions g l = vec_len l.works
