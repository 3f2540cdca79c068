use Rattle.top_call.proofs.DemoEnds.{ended_at_once, ends_by_feed, ends_by_script}
use Rattle.run_files.specs.Outside.{of_place, of_sink}
use Rattle.top_call.proofs.demo.run_demo.Goals as goal

pub returns-in_default : goal.returns-in_default
returns-in_default g c = ended_at_once (of_place g.P.Place) (of_sink g.O.Sink) c.args.feed.now c.args.script.now c.args.place.now c.args.out.now

pub returns-in-Ok-load : goal.returns-in-Ok-load
returns-in-Ok-load g c =
    ends_by_script (of_place g.P.Place) (of_sink g.O.Sink)
    c.args.feed.now c.args.script.now c.args.place.now c.load.new.place c.answer_file.new.place c.args.out.now c.answer_file.new.out _ c.in-Ok.ensures.schema _
    _ c.in-Ok-load.ensures.schema c.answer_file.result c.in-Ok-load.ensures.loads c.answer_file.ensures.file c.answer_file.ensures.faults

pub returns : goal.returns
returns g c =
    ends_by_feed (of_place g.P.Place) (of_sink g.O.Sink)
    c.args.feed.now c.args.script.now c.args.place.now c.args.place.now c.load.new.place c.args.out.now c.args.out.now _ c.in-Ok.ensures.schema _ c.in-Err.stop c.in-Err.ensures.loads
