use Rattle.std.proofs.Common.{◌∙◌, ap}
use Rattle.reply_sums.specs.Areas.{is_none_left}
use Rattle.reply_sums.proofs.AreaSums.{none_left}
use Rattle.reply_sums.proofs.cursor.Cursor.is_done.Goals as goal

pub returns : goal.returns
returns c = none_left c.self.inside.rows.now c.self.inside.taken ∙ ap is_none_left c.self.view_is
