use Rattle.std.proofs.Common.{vec_len}
use Rattle.run_files.proofs.giving_back.+give_back_feeds.Given as goal

abbrev pub decreases-give_back_feeds : goal.decreases-give_back_feeds
decreases-give_back_feeds g l = vec_len l.feeds
