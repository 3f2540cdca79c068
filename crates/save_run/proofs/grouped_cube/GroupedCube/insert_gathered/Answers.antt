use Rattle.std.proofs.Common.{ap, arith, length}
use Rattle.save_run.proofs.Groups.{inserts, more_size}
use Rattle.save_run.proofs.grouped_cube.GroupedCube.insert_gathered.Goals as goal

pub returns-clause-taken : goal.returns-clause-taken
returns-clause-taken c = inserts c.args.self.now _ c.as_slice.result.now c.as_slice.ensures.value c.in_ok-insert_all.ensures.counted c.in_ok-insert_all.ensures.least c.clear.ensures.items

pub returns-clause-size : goal.returns-clause-size
returns-clause-size c =
    let more = more_size c.args.self.now.cube c.insert_all.new.self c.as_slice.result.now c.in_ok-insert_all.ensures.counted in
    let all = ap length c.as_slice.ensures.value in
    let none = ap length c.clear.ensures.items in
    omega (arith, more, all, none)
