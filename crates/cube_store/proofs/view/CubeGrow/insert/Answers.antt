use Rattle.cube_store.proofs.Growth.{counts_grown}
use Rattle.cube_store.proofs.view.CubeGrow.insert.Goals as goal

pub returns-clause-counted : goal.returns-clause-counted
returns-clause-counted c h counts = counts_grown c.args.self.now c.insert.new.self c.args.point h c.insert.result c.insert.ensures.counted counts
