use Rattle.std.proofs.Common.{◌≡◌, ap, subst, ◌∙◌}
use Rattle.std.specs.Prelude.{OnOk}
use Rattle.std.specs.FinMap.{contains_key}
use Rattle.time_table.specs.Counts.{BinCounts, add_one, total_count}
use Rattle.time_table.proofs.AddLaws.{contains_key-add_many, total_count-add_many}
use Rattle.time_table_tests.proofs.single_tests.add_one.Goals as goal

pub returns : goal.returns
returns g c =
    let is : c.add.new.self ≡ add_one c.args.table.now c.args.bin =
    subst (λ r. OnOk r (c.add.new.self ≡ add_one c.args.table.now c.args.bin)) c.expect.ensures c.add.ensures.added in
    record {
      total = ap total_count is ∙ total_count-add_many c.args.table.now c.args.bin 1;
      there = ap (λ (m : BinCounts). contains_key m c.args.bin) is ∙ contains_key-add_many c.args.table.now c.args.bin 1;
    }
