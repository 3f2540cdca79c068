use Rattle.std.proofs.Common.{vec_len}
use Rattle.big_run.proofs.feeds.+let_go_feeds.Given as goal

abbrev pub decreases-let_go_feeds : goal.decreases-let_go_feeds
decreases-let_go_feeds l = vec_len l.feeds
