use Rattle.std.proofs.Common.{sym, ◌∙◌}
use Rattle.live_sums.proofs.BytesRead.{found, not_found}
use Rattle.live_sums.proofs.reading.has_feed.Goals as goal

pub returns-clause-there : goal.returns-clause-there
returns-clause-there c e = found c.args.bytes.now c.line_feed.result c.line_feed.ensures (sym c.is_some.ensures ∙ e)

pub returns-clause-none : goal.returns-clause-none
returns-clause-none c e = not_found c.args.bytes.now c.line_feed.result c.line_feed.ensures (sym c.is_some.ensures ∙ e)
