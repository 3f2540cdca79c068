use Rattle.std.proofs.Common.{vec_len}
use Rattle.cube_crew.proofs.feeds.+seat_feeds.Given as goal

abbrev pub decreases-seat_feeds : goal.decreases-seat_feeds
decreases-seat_feeds g l = vec_len l.jobs
