use Rattle.time_table.proofs.RowLists.{single_totals}
use Rattle.time_table.proofs.rows.single_of.Goals as goal

pub returns : goal.returns
returns g c = single_totals c.args.rows.now _ c.requires.fit c.requires.few c.in_ok-made.ensures.made
