use Rattle.std.proofs.Common.{Result, Err, sym, subst, ◌∙◌, ap, ap₂}
use Rattle.run_files.specs.Outside.{of_place, of_sink}
use Rattle.run_files.specs.Stops.{joined_ends}
use Rattle.run_files.specs.declared.stop.Stop.{Stop}
use Rattle.save_run.specs.Writing.{WritesFile}
use Rattle.run_files.proofs.Apart.{residual_is}
use Rattle.save_run.proofs.Written.{not_created, written}
use Rattle.save_run.proofs.writing.write_file.Goals as goal

pub returns-in_err-sink : goal.returns-in_err-sink
returns-in_err-sink g c =
    let p = of_place g.P.Place in
    subst (λ (r : Result (Unit {0}) Stop). WritesFile p c.args.place.now c.create_file.new.place c.args.name.now c.args.bytes.now r) (sym (residual_is c.from_residual.result c.in_err-sink.field-0.0 c.from_residual.ensures.1))
    (not_created p c.args.place.now c.create_file.new.place c.args.name.now c.args.bytes.now c.in_err-sink.field-0.0 c.in_err-sink.ensures.opens (λ e. c.in_err-sink.ensures.no_read (ap (λ k. Err k) e)))

pub returns : goal.returns
returns g c =
    let p = of_place g.P.Place in
    let s = of_sink g.P.Out.Sink in
    let put = c.put-put.result in
    let kept = c.give_back_out-kept.result in
    subst (λ (r : Result (Unit {0}) Stop). WritesFile p c.args.place.now c.give_back_out-kept.new.self c.args.name.now c.args.bytes.now r)
    (sym (c.joined_ends.ensures ∙ ap₂ joined_ends c.write_end.ensures c.write_end-2.ensures))
    (written p s c.args.place.now c.create_file.new.place c.give_back_out-kept.new.self c.args.name.now c.args.bytes.now c.in_ok-sink.sink c.put-put.new.self c.in_ok-sink.ensures.opens c.in_ok-sink.ensures.output put kept
    (record { gains = c.put-put.ensures.put; cause = c.put-put.ensures.cause; kept_name = c.put-put.ensures.name })
    (record { holds = c.give_back_out-kept.ensures.holds; others = c.give_back_out-kept.ensures.others; counts = c.give_back_out-kept.ensures.counts; created = c.give_back_out-kept.ensures.created; reading = c.give_back_out-kept.ensures.reading }))
