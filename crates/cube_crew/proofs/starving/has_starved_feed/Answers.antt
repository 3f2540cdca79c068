use Rattle.std.proofs.Common.{subst}
use Rattle.std.proofs.lemmas.List.Elements.{All-more}
use Rattle.cube_crew.specs.Starving.{FoundRoom}
use Rattle.cube_crew.proofs.Zips.{All-taken}
use Rattle.cube_crew.proofs.starving.has_starved_feed.Goals as goal

pub loop-work-preserved : goal.loop-work-preserved
loop-work-preserved g c = All-more FoundRoom c.args.works.now c.loop-work.work-index c.work-item.result c.loop-work-test.true c.loop-work.invariant (subst FoundRoom c.work-item.is (c.lacked_room.ensures c.if-lacked_room.false))

pub returns : goal.returns
returns g c enough = All-taken FoundRoom c.args.works.now c.loop-work.work-index c.loop-work-test.false c.loop-work.invariant
