use Rattle.time_table.proofs.RowLists.{form_of_rows}
use Rattle.time_table.proofs.table.TimeTable.of_rows.Goals as goal

pub returns : goal.returns
returns c = form_of_rows c.in_ok-form.form c.args.rows.now c.in_ok-form.ensures.0 c.requires.fit c.in_ok-form.ensures.1
