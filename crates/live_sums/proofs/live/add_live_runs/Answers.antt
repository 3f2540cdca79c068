use Rattle.std.proofs.Common.{[], ◌∷◌, inl, inr, refl, sym, subst}
use Rattle.run_files.proofs.Apart.{ok_not_err, residual_is}
use Rattle.run_files.proofs.PlanReads.{lacks_plan}
use Rattle.run_files.proofs.SourceReturns.{takes_more, takes_none}
use Rattle.run_files.specs.GivingBack.{TakesSources}
use Rattle.run_files.specs.Outside.{at, of_parts, of_place, of_sink}
use Rattle.live_sums.specs.Ends.{LiveEnds, asked_at, session_names}
use Rattle.live_sums.proofs.live.add_live_runs.Goals as goal

pub returns-in_err-plan : goal.returns-in_err-plan
returns-in_err-plan g c =
    let f = c.in_err-plan.field-0.0 in
    let p = of_place g.P.Place in
    let s = of_sink g.O.Sink in
    subst (LiveEnds (of_parts g.P.Place g.P.In.Source g.P.Out.Sink) s (session_names c.args.names.now) (at c.args.place.now c.args.out.now) (at c.load_plan.new.place c.load_plan.new.out)) (sym (residual_is c.from_residual.result f c.from_residual.ensures.1))
    (inl (lacks_plan p s c.args.place.now c.load_plan.new.place c.args.out.now c.load_plan.new.out c.args.names.now.plan.now f c.in_err-plan.ensures.leaves c.in_err-plan.ensures.read c.in_err-plan.ensures.plan))

pub returns-in_err-lines : goal.returns-in_err-lines
returns-in_err-lines g c =
    let f = c.in_err-lines.field-0.0 in
    inr (record {
      planned = at c.load_plan.new.place c.load_plan.new.out;
      opened = c.in_ok-plan.ensures.leaves;
      silent = c.in_ok-plan.ensures.plan.silent (ok_not_err _ _);
      questions = inl (record { stop = f; opens = c.in_err-lines.ensures.opens; end_is = residual_is c.from_residual-in_err-lines.result f c.from_residual-in_err-lines.ensures.1; quiet = refl });
      plan = c.in_ok-plan.plan;
      plan_is = c.in_ok-plan.ensures.plan.plan;
    })

pub returns : goal.returns
returns g c =
    let p = of_place g.P.Place in
    let F = g.P.In.Source.faults in
    inr (record {
      plan = c.in_ok-plan.plan;
      plan_is = c.in_ok-plan.ensures.plan.plan;
      planned = at c.load_plan.new.place c.load_plan.new.out;
      opened = c.in_ok-plan.ensures.leaves;
      silent = c.in_ok-plan.ensures.plan.silent (ok_not_err _ _);
      questions = inr (record {
        reached = c.open_questions.new.place;
        opens = c.in_ok-lines.ensures.opens;
        lines = c.in_ok-lines.lines;
        unread = c.in_ok-lines.ensures.lines;
        last = asked_at c.run_session-end.new.place c.run_session-end.new.lines [] c.run_session-end.new.out;
        session = c.run_session-end.ensures;
        given = subst (λ source. TakesSources p c.run_session-end.new.place c.give_back_in.new.self (F source ∷ [])) c.into_source.ensures
            (takes_more p c.run_session-end.new.place c.run_session-end.new.place c.give_back_in.new.self [] (F c.into_source.result) (takes_none p c.run_session-end.new.place) c.give_back_in.ensures.rose c.give_back_in.ensures.quiet c.give_back_in.ensures.files c.give_back_in.ensures.opened c.give_back_in.ensures.writing);
        same = refl;
      });
    })
