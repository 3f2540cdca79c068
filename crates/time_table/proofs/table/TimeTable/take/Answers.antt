use Rattle.std.proofs.Common.{◌<◌, subst, arith}
use Rattle.time_table.specs.Counts.{AllCounted, count_of}
use Rattle.time_table.proofs.CountLaws.{count_of-some}
use Rattle.time_table.proofs.TableForms.{AllCounted-form}
use Rattle.time_table.proofs.table.TimeTable.take.Goals as goal

pub take_many-requires-clause-there : goal.take_many-requires-clause-there
take_many-requires-clause-there c =
    let some : 0 < count_of c.args.self.now c.args.bin = count_of-some c.args.self.now c.args.bin (subst AllCounted c.self.view_is (AllCounted-form c.self.inside.form c.self.invariant)) c.requires in
    omega arith
