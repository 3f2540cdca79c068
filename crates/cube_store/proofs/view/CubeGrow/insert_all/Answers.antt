use Rattle.cube_store.proofs.Growth.{all_grown, counts_kept}
use Rattle.cube_store.proofs.view.CubeGrow.insert_all.Goals as goal

pub returns-clause-counted : goal.returns-clause-counted
returns-clause-counted c = all_grown c.args.self.now c.insert_all.new.self c.args.points.now c.insert_all.result c.insert_all.ensures.counted

pub returns-clause-unchanged : goal.returns-clause-unchanged
returns-clause-unchanged c h counts = counts_kept c.args.self.now c.insert_all.new.self h c.insert_all.result c.insert_all.ensures.unchanged c.insert_all.ensures.schema counts
