use Rattle.std.proofs.Common.{Option, Ok, Err, Result, ap, subst, sym}
use Rattle.cube_store.specs.declared.cube.Cube.{Cube}
use Rattle.run_files.specs.Outside.{at, of_place, of_sink, PlaceSeen, SinkSeen}
use Rattle.run_files.specs.declared.stop.Stop.{Stop}
use Rattle.image_run.specs.Ends.{LoadEnds}
use Rattle.image_run.specs.Names.{image_names}
use Rattle.image_run.specs.Taking.{TakesImage}
use Rattle.image_run.specs.declared.end.ImageEnd.{ImageEnd}
use Rattle.image_run.proofs.LoadEnds.{ended_by_image, ended_by_plan, ended_by_refusal, ended_taking, ended_with, ended_without}
use Rattle.run_files.proofs.Apart.{residual_is}
use Rattle.image_run.proofs.load.load_files.Given.{Over}
use Rattle.image_run.proofs.load.load_files.Goals as goal

-- what is seen of the place
abbrev place_of : (g : Over) → PlaceSeen g.row.P.Denot
place_of g = of_place g.P.Place

-- and of the sink
abbrev sink_of : (g : Over) → SinkSeen g.row.O.Denot
sink_of g = of_sink g.O.Sink

pub returns-in_err-plan : goal.returns-in_err-plan
returns-in_err-plan g c =
    subst (λ (r : Result ImageEnd Stop). LoadEnds (place_of g) (sink_of g) (at c.args.place.now c.args.out.now) (at c.load_plan.new.place c.load_plan.new.out) (image_names c.args.names.now) r) (sym (residual_is c.from_residual.result c.in_err-plan.field-0.0 c.from_residual.ensures.1))
    (ended_by_plan (place_of g) (sink_of g) c.args.names.now.plan.now c.args.names.now.image.now c.args.names.now.script.now c.args.place.now c.load_plan.new.place c.args.out.now c.load_plan.new.out c.in_err-plan.field-0.0 c.in_err-plan.ensures.leaves (λ e. c.in_err-plan.ensures.read (ap (λ k. Err k) e)) c.in_err-plan.ensures.plan)

pub returns-in_err-bytes : goal.returns-in_err-bytes
returns-in_err-bytes g c =
    subst (λ (r : Result ImageEnd Stop). LoadEnds (place_of g) (sink_of g) (at c.args.place.now c.args.out.now) (at c.read_file.new.place c.load_plan.new.out) (image_names c.args.names.now) r) (sym (residual_is c.from_residual-in_err-bytes.result c.in_err-bytes.field-0.0 c.from_residual-in_err-bytes.ensures.1))
    (ended_by_image (place_of g) (sink_of g) c.args.names.now.plan.now c.args.names.now.image.now c.args.names.now.script.now c.args.place.now c.load_plan.new.place c.read_file.new.place c.args.out.now c.load_plan.new.out c.in_ok-plan.plan c.in_ok-plan.ensures.leaves c.in_ok-plan.ensures.plan c.in_err-bytes.field-0.0 c.in_err-bytes.ensures.leaves (λ e. c.in_err-bytes.ensures.read (ap (λ k. Err k) e)) c.in_err-bytes.ensures.ends)

pub returns-in_err-cube : goal.returns-in_err-cube
returns-in_err-cube g c =
    subst (λ (r : Result ImageEnd Stop). LoadEnds (place_of g) (sink_of g) (at c.args.place.now c.args.out.now) (at c.read_file.new.place c.take_image.new.out) (image_names c.args.names.now) r) (sym (residual_is c.from_residual-in_err-cube.result c.in_err-cube.field-0.0 c.from_residual-in_err-cube.ensures.1))
    (ended_taking (place_of g) (sink_of g) c.args.names.now.plan.now c.args.names.now.image.now c.args.names.now.script.now c.args.place.now c.load_plan.new.place c.read_file.new.place c.args.out.now c.load_plan.new.out c.in_ok-plan.plan c.in_ok-plan.ensures.leaves c.in_ok-plan.ensures.plan c.in_ok-bytes.bytes c.in_ok-bytes.ensures.leaves c.in_ok-bytes.ensures.bytes c.take_image.new.out c.in_err-cube.field-0.0 c.in_err-cube.ensures)

pub returns-in_err-answer_file-in-Some : goal.returns-in_err-answer_file-in-Some
returns-in_err-answer_file-in-Some g c =
    let t = subst (λ (o : Option Cube). TakesImage (sink_of g) c.load_plan.new.out c.take_image.new.out c.in_ok-plan.plan.schema c.in_ok-bytes.bytes (Ok o)) c.in-Some.is c.in_ok-cube.ensures in
    subst (λ (r : Result ImageEnd Stop). LoadEnds (place_of g) (sink_of g) (at c.args.place.now c.args.out.now) (at c.answer_file.new.place c.answer_file.new.out) (image_names c.args.names.now) r) (sym (residual_is c.from_residual-in_err-answer_file-in-Some.result c.in_err-answer_file-in-Some.field-0.0 c.from_residual-in_err-answer_file-in-Some.ensures.1))
    (ended_without (place_of g) (sink_of g) c.args.names.now.plan.now c.args.names.now.image.now c.args.names.now.script.now c.args.place.now c.load_plan.new.place c.read_file.new.place c.args.out.now c.load_plan.new.out c.in_ok-plan.plan c.in_ok-plan.ensures.leaves c.in_ok-plan.ensures.plan c.in_ok-bytes.bytes c.in_ok-bytes.ensures.leaves c.in_ok-bytes.ensures.bytes c.answer_file.new.place c.take_image.new.out c.answer_file.new.out c.in-Some.cube t.0 t.1 c.in_err-answer_file-in-Some.field-0.0 c.in_err-answer_file-in-Some.ensures.file c.in_err-answer_file-in-Some.ensures.faults)

pub returns-in-Some : goal.returns-in-Some
returns-in-Some g c =
    let t = subst (λ (o : Option Cube). TakesImage (sink_of g) c.load_plan.new.out c.take_image.new.out c.in_ok-plan.plan.schema c.in_ok-bytes.bytes (Ok o)) c.in-Some.is c.in_ok-cube.ensures in
    ended_with (place_of g) (sink_of g) c.args.names.now.plan.now c.args.names.now.image.now c.args.names.now.script.now c.args.place.now c.load_plan.new.place c.read_file.new.place c.args.out.now c.load_plan.new.out c.in_ok-plan.plan c.in_ok-plan.ensures.leaves c.in_ok-plan.ensures.plan c.in_ok-bytes.bytes c.in_ok-bytes.ensures.leaves c.in_ok-bytes.ensures.bytes c.answer_file.new.place c.take_image.new.out c.answer_file.new.out c.in-Some.cube t.0 t.1 c.in_ok-answer_file-in-Some.field-0 c.in_ok-answer_file-in-Some.ensures.file c.in_ok-answer_file-in-Some.ensures.faults

pub returns : goal.returns
returns g c =
    ended_by_refusal (place_of g) (sink_of g) c.args.names.now.plan.now c.args.names.now.image.now c.args.names.now.script.now c.args.place.now c.load_plan.new.place c.read_file.new.place c.args.out.now c.load_plan.new.out c.in_ok-plan.plan c.in_ok-plan.ensures.leaves c.in_ok-plan.ensures.plan c.in_ok-bytes.bytes c.in_ok-bytes.ensures.leaves c.in_ok-bytes.ensures.bytes c.take_image.new.out (subst (λ (o : Option Cube). TakesImage (sink_of g) c.load_plan.new.out c.take_image.new.out c.in_ok-plan.plan.schema c.in_ok-bytes.bytes (Ok o)) c.in-None.is c.in_ok-cube.ensures)
