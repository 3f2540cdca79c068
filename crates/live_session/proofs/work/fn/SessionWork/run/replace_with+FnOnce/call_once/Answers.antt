use Rattle.std.proofs.Common.{rules}
use Rattle.live_session.proofs.work.fn.SessionWork.run.replace_with+FnOnce.call_once.Goals as goal

pub replace_with-requires : goal.replace_with-requires
replace_with-requires g c = search rules
