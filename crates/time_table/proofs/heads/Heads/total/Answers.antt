use Rattle.std.proofs.Common.{◌-◌, arith}
use Rattle.time_table.proofs.TwoRowLists.{last_total_at}
use Rattle.time_table.proofs.heads.Heads.total.Goals as goal

pub returns : goal.returns
returns g c = last_total_at 0 (c.len.result - 1) c.args.self.now.items c.at.result (omega arith) c.at.ensures.item
