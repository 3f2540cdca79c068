use Rattle.std.proofs.Common.{length}
use Rattle.time_table.specs.Forms.{rows_of, find_cost}
use Rattle.time_table.proofs.TableForms.{find_cost-le}
use Rattle.time_table.proofs.SeriesTotals.{each_cost-pass, each_cost-search}
use Rattle.time_table.proofs.form.Form.before_each.Goals as goal

pub returns-then-is_short-clause-cost : goal.returns-then-is_short-clause-cost
returns-then-is_short-clause-cost g c =
    each_cost-pass (length c.args.totals.now) (find_cost c.args.self.now) (length (rows_of c.args.self.now)) c.pass.new.steps c.args.steps.now c.pass.ensures.cost c.if-is_short.ensures (find_cost-le c.args.self.now c.requires.form)

pub returns-else-is_short-clause-cost : goal.returns-else-is_short-clause-cost
returns-else-is_short-clause-cost g c =
    each_cost-search (length c.args.totals.now) (find_cost c.args.self.now) (length (rows_of c.args.self.now)) c.search_each.new.steps c.args.steps.now c.search_each.ensures.cost c.if-is_short.ensures (find_cost-le c.args.self.now c.requires.form)
