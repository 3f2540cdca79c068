use Rattle.std.proofs.Common.{◌+◌, arith}
use Rattle.group_insert.proofs.Runs.{gather_more}
use Rattle.group_insert.proofs.count.gather_run.Goals as goal

pub loop-len-preserved : goal.loop-len-preserved
loop-len-preserved c =
    gather_more c.args.part.now c.args.from c.loop-len.place c.loop-len.least (c.from-least.result + 1) c.loop-len.len c.one_bin-end.result.0 _ c.one_bin-end.result.1 c.loop-len.run (omega arith) (omega arith) c.loop-len.invariant (c.one_bin-end.ensures _) (omega arith)
