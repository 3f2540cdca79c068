use Rattle.std.proofs.Common.{arith, true, false}
use Rattle.cube_crew.proofs.Zips.{AllZip-length}
use Rattle.cube_crew.specs.Crewed.{LeavesTranscript, closing_of}
use Rattle.cube_store.specs.Numbers.{OwnsAllButRoot}
use Rattle.live_session.specs.State.{ends_of}
use Rattle.plan_run.proofs.run.run_parts.Goals as goal

pub close_run-requires-clause-room : goal.close_run-requires-clause-room
close_run-requires-clause-room g c κs within =
    let crewed = c.in-Ok.crewed in
    let ran = c.in-Ok.ensures.crewed in
    let parts = c.args.parts in
    let schema = c.args.plan.now.schema in
    let asks = AllZip-length (LeavesTranscript (ends_of g.P.In.Source g.P.Out.Sink) OwnsAllButRoot schema false (closing_of crewed)) parts.jobs.asks crewed.asks ran.asks in
    let finals = AllZip-length (LeavesTranscript (ends_of g.P.In.Source g.P.Out.Sink) OwnsAllButRoot schema true (closing_of crewed)) parts.jobs.finals crewed.finals ran.finals in
    omega (arith, asks, finals, c.requires.room)
