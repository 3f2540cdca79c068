use Rattle.std.proofs.Common.{vec_len}
use Rattle.plan_run.proofs.seating.+seat_sessions.Given as goal

abbrev pub decreases-seat_sessions : goal.decreases-seat_sessions
decreases-seat_sessions g l = vec_len l.scripts
