-- What owns nothing says the same to every thread, so it may go to any, and any may share it.
use Rattle.std.proofs.Common.{List}
use base.Shift.{Keyless}
use mir.Val.{Val}
use denote.RattleType.{RattleType}
use Rattle.ghost_values.proofs.Walks.{marker_owned}

-- what both structs own names no thread
pub keyless : (A : RattleType) (vs : List Val) → Keyless (marker_owned A vs)
keyless A vs = ((λ vss. (tt, ((λ uss. (tt, tt)), tt))), tt)
