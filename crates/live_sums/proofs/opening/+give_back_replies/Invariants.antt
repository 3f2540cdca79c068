use Rattle.std.proofs.Common.{vec_len}
use Rattle.live_sums.proofs.opening.+give_back_replies.Given as goal

abbrev pub decreases-give_back_replies : goal.decreases-give_back_replies
decreases-give_back_replies g l = vec_len l.replies
