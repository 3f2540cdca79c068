use Rattle.std.proofs.Common.{vec_len}
use Rattle.cube_crew.proofs.sessions.+leave_sessions.Given as goal

abbrev pub decreases-leave_sessions : goal.decreases-leave_sessions
decreases-leave_sessions g l = vec_len l.works
