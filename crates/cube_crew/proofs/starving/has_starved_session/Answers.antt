use Rattle.std.proofs.Common.{rules}
use Rattle.std.proofs.lemmas.List.Elements.{All-more}
use Rattle.cube_crew.specs.Starving.{FoundMemory}
use Rattle.cube_crew.proofs.Zips.{All-taken}
use Rattle.cube_crew.proofs.starving.has_starved_session.Goals as goal

pub loop-work-preserved : goal.loop-work-preserved
loop-work-preserved g c = All-more FoundMemory c.args.works.now c.loop-work.work-index c.work-item.result c.loop-work-test.true c.loop-work.invariant (search rules)

pub returns : goal.returns
returns g c enough = All-taken FoundMemory c.args.works.now c.loop-work.work-index c.loop-work-test.false c.loop-work.invariant
