use Rattle.plain_cube.proofs.InsertedPoints.{all_inserted, counts_kept}
use Rattle.plain_cube.proofs.cube.PlainCubeGrow.insert_all.Goals as goal

pub returns-clause-counted : goal.returns-clause-counted
returns-clause-counted c = all_inserted c.args.self.now.points.items c.insert_all.new.self.points.items c.args.points.now c.insert_all.result c.insert_all.ensures.inserted

pub returns-clause-unchanged : goal.returns-clause-unchanged
returns-clause-unchanged c h counts = counts_kept c.args.self.now.points.items c.insert_all.new.self.points.items h counts c.insert_all.result c.insert_all.ensures.unchanged
