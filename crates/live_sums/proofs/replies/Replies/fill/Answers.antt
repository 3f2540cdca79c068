use Rattle.std.proofs.Common.{Ok, ap}
use Rattle.live_sums.proofs.NextReplies.{unread_ended}
use Rattle.live_sums.proofs.replies.Replies.fill.Goals as goal

pub returns-then-is_whole-clause-line : goal.returns-then-is_whole-clause-line
returns-then-is_whole-clause-line g c = c.in-Ok.ensures.line (ap (λ b. Ok b) c.if-is_whole.true)

pub returns-else-is_whole-clause-ended : goal.returns-else-is_whole-clause-ended
returns-else-is_whole-clause-ended g c w e =
    let ended = c.in-Ok.ensures.ended (ap (λ b. Ok b) c.if-is_whole.false) in
    unread_ended g.S.Source.left c.args.self.now (record c.args.self.now { source = c.read_line.new.source; held = c.read_line.new.held }) w (cc) ended.0 ended.1
