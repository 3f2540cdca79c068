use Rattle.std.proofs.lemmas.Result.{on_ok_weaker}
use Rattle.group_insert.proofs.Runs.{one_counted}
use Rattle.group_insert.proofs.count.count_part.Goals as goal

pub returns-then-part-eq1-clause-added : goal.returns-then-part-eq1-clause-added
returns-then-part-eq1-clause-added c =
    on_ok_weaker c.count_point.result (λ e. one_counted c.args.work.now.slots c.count_point.new.work.slots c.args.table.0 c.args.part.now _ c.if-part-eq1.true c.requires.in_range c.requires.is_table e) c.count_point.ensures.counted
