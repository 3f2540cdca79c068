use Rattle.std.proofs.Common.{◌≡◌, take}
use Rattle.plan_run.specs.ThreadEnds.{sessions_end}
use Rattle.plan_run.proofs.ends.sessions_end.Given as goal

abbrev pub invariant-loop-session : goal.invariant-loop-session
invariant-loop-session g l = l.end ≡ sessions_end (take l.session-index l.sessions)
