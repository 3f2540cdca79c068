use Rattle.std.proofs.Common.{vec_len}
use Rattle.plan_run.proofs.returning.+give_back_fed.Given as goal

abbrev pub decreases-give_back_fed : goal.decreases-give_back_fed
decreases-give_back_fed g l = vec_len l.feeds
