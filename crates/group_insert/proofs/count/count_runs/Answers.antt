use Rattle.std.proofs.Common.{◌∙◌}
use Rattle.group_insert.proofs.Runs.{run_steps, run_totals}
use Rattle.group_insert.proofs.count.count_runs.Goals as goal

pub loop-from-preserved : goal.loop-from-preserved
loop-from-preserved c = record {
  added = run_steps c.args.work.now.slots c.loop-from.work.slots _ c.args.table.0 c.loop-from.from c.gather_run-to.result.0 c.args.part.now _ c.loop-from.invariant.added c.gather_run-to.ensures.gathered c.in_ok-count_run.ensures.counted;
  total = run_totals c.args.work.now.slots c.loop-from.work.slots _ c.args.table.0 _ c.loop-from.from c.gather_run-to.result.0 c.args.part.now _ c.loop-from.invariant.added c.gather_run-to.ensures.gathered c.loop-from.invariant.total c.in_ok-count_run.ensures.counted;
  start = c.count_run.ensures.start ∙ c.loop-from.invariant.start;
}
