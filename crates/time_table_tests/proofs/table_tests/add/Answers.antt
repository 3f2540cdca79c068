use Rattle.std.proofs.Common.{◌≡◌, ap, subst, ◌∙◌}
use Rattle.std.specs.Prelude.{OnOk}
use Rattle.time_table.specs.Counts.{add_many, total_count}
use Rattle.time_table.proofs.AddLaws.{total_count-add_many}
use Rattle.time_table_tests.proofs.table_tests.add.Goals as goal

pub returns : goal.returns
returns g c =
    let is : c.add_many.new.self ≡ add_many c.args.table.now c.args.bin c.args.amount =
    subst (λ r. OnOk r (c.add_many.new.self ≡ add_many c.args.table.now c.args.bin c.args.amount)) c.expect.ensures c.add_many.ensures.added in
    ap total_count is ∙ total_count-add_many c.args.table.now c.args.bin c.args.amount
