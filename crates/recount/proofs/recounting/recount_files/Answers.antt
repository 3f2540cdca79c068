use Rattle.std.proofs.Common.{Result, Err, ap, subst, sym}
use Rattle.run_files.proofs.Apart.{residual_is}
use Rattle.run_files.specs.Outside.{of_place, of_sink, PlaceSeen, SinkSeen}
use Rattle.run_files.specs.declared.stop.Stop.{Stop}
use Rattle.recount.specs.Ends.{RecountEnds}
use Rattle.recount.specs.Names.{audit_names}
use Rattle.recount.specs.declared.audit.Audit.{Audit}
use Rattle.recount.proofs.Ends.{ended_by_plan, ended_by_saying, ended_by_texts}
use Rattle.recount.proofs.recounting.recount_files.Given.{Over}
use Rattle.recount.proofs.recounting.recount_files.Goals as goal

-- what is seen of the place
abbrev place_of : (g : Over) → PlaceSeen g.row.P.Denot
place_of g = of_place g.P.Place

-- and of the sink
abbrev sink_of : (g : Over) → SinkSeen g.row.O.Denot
sink_of g = of_sink g.O.Sink

pub audit_texts-requires-clause-feeds : goal.audit_texts-requires-clause-feeds
audit_texts-requires-clause-feeds g c = c.in_ok-plan.ensures.plan.plan.files.feeds.1

pub audit_texts-requires-clause-short : goal.audit_texts-requires-clause-short
audit_texts-requires-clause-short g c = c.in_ok-texts.ensures.short

pub returns-in_err-plan : goal.returns-in_err-plan
returns-in_err-plan g c =
    subst (λ (r : Result Audit Stop). RecountEnds (place_of g) (sink_of g) c.args.place.now c.load_plan.new.place c.args.out.now c.load_plan.new.out (audit_names c.args.names.now) r) (sym (residual_is c.from_residual.result c.in_err-plan.field-0.0 c.from_residual.ensures.1))
    (ended_by_plan (place_of g) (sink_of g) c.args.names.now.plan.now c.args.names.now.journal.now c.args.names.now.script.now c.args.names.now.replies.now c.args.place.now c.load_plan.new.place c.args.out.now c.load_plan.new.out c.in_err-plan.field-0.0 c.in_err-plan.ensures.leaves (λ e. c.in_err-plan.ensures.read (ap (λ k. Err k) e)) c.in_err-plan.ensures.plan)

pub returns-in_err-texts : goal.returns-in_err-texts
returns-in_err-texts g c =
    subst (λ (r : Result Audit Stop). RecountEnds (place_of g) (sink_of g) c.args.place.now c.read_texts.new.place c.args.out.now c.load_plan.new.out (audit_names c.args.names.now) r) (sym (residual_is c.from_residual-in_err-texts.result c.in_err-texts.field-0.0 c.from_residual-in_err-texts.ensures.1))
    (ended_by_texts (place_of g) (sink_of g) c.args.names.now.plan.now c.args.names.now.journal.now c.args.names.now.script.now c.args.names.now.replies.now c.args.place.now c.load_plan.new.place c.read_texts.new.place c.args.out.now c.load_plan.new.out c.in_ok-plan.plan c.in_ok-plan.ensures.leaves c.in_ok-plan.ensures.plan c.in_err-texts.field-0.0 c.in_err-texts.ensures)

pub returns : goal.returns
returns g c =
    ended_by_saying (place_of g) (sink_of g) c.args.names.now.plan.now c.args.names.now.journal.now c.args.names.now.script.now c.args.names.now.replies.now c.args.place.now c.load_plan.new.place c.read_texts.new.place c.args.out.now c.load_plan.new.out c.in_ok-plan.plan c.in_ok-plan.ensures.leaves c.in_ok-plan.ensures.plan
    c.in_ok-texts.texts c.in_ok-texts.ensures c.audit_texts.new.out c.audit_texts.result c.audit_texts.ensures
