use Rattle.std.proofs.Common.{◌<◌, ◌^◌, IfSome, rules}
use Rattle.shape_test.proofs.Rowwise.{row_told, row_past}
use Rattle.shape_test.proofs.rows.first_row.Goals as goal

pub returns-then-from : goal.returns-then-from
returns-then-from g c =
    let small : IfSome c.next_row.result (λ row. row.0 < 2 ^ 32) = search rules in
    row_told c.args.table.now c.args.from c.next_row.result c.next_row.ensures.next small

pub returns-else-from : goal.returns-else-from
returns-else-from g c = row_past c.args.table.now c.args.from c.requires c.if-from.false
