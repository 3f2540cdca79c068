use Rattle.cube_store.specs.Holding.{CubeCounts, IsLeastCubeOf}
use Rattle.save_run.proofs.Groups.{said_at_end}
use Rattle.save_run.proofs.grouped_cube.GroupedCube.into_cube.Goals as goal

pub returns-clause-counted : goal.returns-clause-counted
returns-clause-counted c h counts = said_at_end CubeCounts c.args.self c.insert_gathered.new.self h c.in_ok-insert_gathered.ensures.taken.counted c.in_ok-insert_gathered.ensures.none counts

pub returns-clause-least : goal.returns-clause-least
returns-clause-least c many h least = said_at_end IsLeastCubeOf c.args.self c.insert_gathered.new.self h (c.in_ok-insert_gathered.ensures.taken.least many) c.in_ok-insert_gathered.ensures.none least
