use Rattle.std.proofs.Common.{◌-◌, ◌≤◌, arith, get_or, sym, ap, subst, ◌∙◌}
use Rattle.time_table.specs.Counts.{BinCounts, count_of, take_many}
use Rattle.time_table.proofs.Runs.{taken_next, take_run-more}
use Rattle.time_table.proofs.table.TimeTable.take_run.Goals as goal

pub take_many-requires-clause-there : goal.take_many-requires-clause-there
take_many-requires-clause-there c =
    subst (λ (m : BinCounts). (get_or c.args.run.now (c.loop-left.left - 1) (0, 0)).1 ≤ count_of m (get_or c.args.run.now (c.loop-left.left - 1) (0, 0)).0) (sym c.loop-left.invariant.taken)
    (taken_next c.args.self.now c.args.run.now (c.loop-left.left - 1) c.loop-left.left (0, 0) (omega arith) (omega arith) c.requires.there)

pub loop-left-preserved : goal.loop-left-preserved
loop-left-preserved c = record {
  within = omega arith;
  taken = c.take_many.ensures.taken
      ∙ ap (λ (m : BinCounts). take_many m (get_or c.args.run.now (c.loop-left.left - 1) (0, 0)).0 (get_or c.args.run.now (c.loop-left.left - 1) (0, 0)).1) c.loop-left.invariant.taken
      ∙ sym (take_run-more c.args.self.now c.args.run.now (c.loop-left.left - 1) c.loop-left.left (0, 0) (omega arith) (omega arith));
}
