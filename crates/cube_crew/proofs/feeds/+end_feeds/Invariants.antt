use Rattle.std.proofs.Common.{vec_len}
use Rattle.cube_crew.proofs.feeds.+end_feeds.Given as goal

abbrev pub decreases-end_feeds : goal.decreases-end_feeds
decreases-end_feeds g l = vec_len l.works
