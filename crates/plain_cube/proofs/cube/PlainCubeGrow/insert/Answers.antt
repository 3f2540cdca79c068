use Rattle.plain_cube.proofs.InsertedPoints.{counts_inserted, counts_kept}
use Rattle.plain_cube.proofs.cube.PlainCubeGrow.insert.Goals as goal

pub returns-clause-counted : goal.returns-clause-counted
returns-clause-counted c h counts = counts_inserted c.args.self.now.points.items c.insert.new.self.points.items h counts c.args.point c.insert.result c.insert.ensures.inserted

pub returns-clause-unchanged : goal.returns-clause-unchanged
returns-clause-unchanged c h counts = counts_kept c.args.self.now.points.items c.insert.new.self.points.items h counts c.insert.result c.insert.ensures.unchanged
