use Rattle.std.proofs.Common.{◌∙◌}
use Rattle.time_table.specs.Fews.{few_rows}
use Rattle.time_table.proofs.TotalBeforeEnd.{below_from-counts}
use Rattle.time_table.proofs.few.Few.below.Goals as goal

pub returns : goal.returns
returns c = c.total_below.ensures ∙ below_from-counts (few_rows c.args.self.now) c.args.bin_end c.requires
