use Rattle.std.proofs.Common.{[], arith, ap, List, Ok, inl, inr, length, refl, subst, ◌∙◌}
use Rattle.live_sums.proofs.Opened.{gives_nothing, holds_in_front, opens_lacked}
use Rattle.live_sums.specs.Ends.{AnswersRuns, asked_at}
use Rattle.live_sums.specs.Opening.{ask_names, reply_names}
use Rattle.run_files.specs.GivingBack.{TakesSinks}
use Rattle.run_files.specs.Outside.{of_parts, of_place, of_sink}
use Rattle.run_files.specs.declared.stop.Stop.TheVariants.{NoMemory}
use Rattle.live_sums.proofs.live.run_session.Goals as goal

pub returns-in_default : goal.returns-in_default
returns-in_default g c = inl (record {
  reached = c.args.place.now;
  stop = NoMemory;
  creates = opens_lacked (of_place g.P.Place) c.args.place.now c.args.place.now [] (ask_names c.args.names.now) refl;
  asks = [];
  given_end = Ok tt;
  given = gives_nothing (of_place g.P.Place) (of_sink g.P.Out.Sink) c.args.place.now;
  end_is = refl;
  quiet = (refl, refl);
})

pub returns-in-Err : goal.returns-in-Err
returns-in-Err g c = inl (record {
  reached = c.create_asks.new.place;
  stop = c.in-Err.stop;
  creates = c.in-Err.ensures.creates;
  asks = c.create_asks.new.asks.items;
  given_end = c.give_back_sinks-given.result;
  given = c.give_back_sinks-given.ensures;
  end_is = c.ended_with.ensures;
  quiet = (refl, refl);
})

pub returns : goal.returns
returns g c =
    let created = c.create_asks.new in
    let left = c.answer_runs-end.new in
    let last = asked_at left.place left.lines left.asks left.out in
    let same = c.answer_runs-end.auto.asks ∙ ap (λ (l : List g.row.P-Out.Denot). length l) c.as_mut_slice.ensures.value in
    inr (record {
      reached = created.place;
      creates = c.in-Ok-create_asks.ensures.creates;
      asks = created.asks.items;
      empty = c.in-Ok-create_asks.ensures.asks;
      last = last;
      answered = c.answer_runs-end.result;
      answers = subst (λ (asks : List g.row.P-Out.Denot). AnswersRuns (of_parts g.P.Place g.P.In.Source g.P.Out.Sink) (of_sink g.O.Sink) c.args.schema.now (reply_names c.args.names.now) (asked_at created.place c.args.lines.now asks c.args.out.now) last c.answer_runs-end.result)
          c.as_mut_slice.ensures.value c.answer_runs-end.ensures;
      given_end = c.give_back_sinks-given-2.result;
      given = holds_in_front (λ (asks : List g.row.P-Out.Denot). TakesSinks (of_place g.P.Place) (of_sink g.P.Out.Sink) left.place c.give_back_sinks-given-2.new.place asks c.give_back_sinks-given-2.result)
          left.asks _ created.asks.len (omega (arith, created.asks.ok.0, same)) c.give_back_sinks-given-2.ensures;
      end_is = c.ended_with-2.ensures;
      same = (refl, refl);
    })
