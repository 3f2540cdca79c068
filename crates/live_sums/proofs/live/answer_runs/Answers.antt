use Rattle.std.proofs.Common.{arith, ap, ◌≡◌, [], List, Some, inl, inr, length, map, refl, subst, ◌∙◌}
use Rattle.std.proofs.lemmas.List.Elements.{All-map}
use Rattle.live_sums.proofs.Opened.{holds_in_front, opens_given_back, opens_lacked}
use Rattle.live_sums.specs.Ends.{live_parts}
use Rattle.live_sums.specs.Opening.{reply_names}
use Rattle.live_sums.specs.Sessions.{ServesAll}
use Rattle.live_sums.specs.Turns.{stage}
use Rattle.live_sums.specs.declared.replies.Replies.{Replies}
use Rattle.run_files.specs.GivingBack.{TakesSources}
use Rattle.run_files.specs.Outside.{of_parts, of_place, of_sink}
use Rattle.run_files.specs.declared.stop.Stop.TheVariants.{NoMemory}
use Rattle.live_sums.proofs.live.answer_runs.Goals as goal

pub returns-in_default : goal.returns-in_default
returns-in_default g c = inl (record {
  stop = NoMemory;
  opens = opens_lacked (of_place g.P.Place) c.args.place.now c.args.place.now (reply_names c.args.names.now) [] refl;
  end_is = refl;
  quiet = (refl, refl, refl);
})

pub returns-in-Err : goal.returns-in-Err
returns-in-Err g c = inl (record {
  stop = c.in-Err.stop;
  opens = opens_given_back (of_place g.P.Place) c.args.place.now c.open_replies.new.place c.give_back_replies.new.place (reply_names c.args.names.now) (Some c.in-Err.stop) (map (λ (run : Replies g.row.P-In.Denot). g.P.In.Source.faults run.source) c.open_replies.new.replies.items)
      c.in-Err.ensures.opens c.give_back_replies.ensures (All-map (λ n. n ≡ 0) (λ (run : Replies g.row.P-In.Denot). g.P.In.Source.faults run.source) c.open_replies.new.replies.items c.open_replies.ensures.quiet);
  end_is = refl;
  quiet = (refl, refl, refl);
})

pub returns : goal.returns
returns g c =
    let opened = c.open_replies.new.replies in
    let left = c.serve-served.new in
    let same = c.serve-served.auto.runs ∙ ap (λ (l : List (Replies g.row.P-In.Denot)). length l) c.as_mut_slice.ensures.value in
    inr (record {
      reached = c.open_replies.new.place;
      opens = c.in-Ok-open_replies.ensures.opens;
      runs = opened.items;
      unread = c.in-Ok-open_replies.ensures.unread;
      served = c.serve-served.result;
      last = left.runs;
      middle = left.out;
      serves = subst (λ (before : List (Replies g.row.P-In.Denot)). ServesAll (live_parts (of_parts g.P.Place g.P.In.Source g.P.Out.Sink) (of_sink g.O.Sink)) c.args.schema.now (stage c.args.asks.now before c.args.out.now) (stage left.asks left.runs left.out) c.serve-served.result)
          c.as_mut_slice.ensures.value c.serve-served.ensures.serves;
      given = holds_in_front (λ (runs : List (Replies g.row.P-In.Denot)). TakesSources (of_place g.P.Place) c.open_replies.new.place c.give_back_replies-2.new.place (map (λ (run : Replies g.row.P-In.Denot). g.P.In.Source.faults run.source) runs))
          left.runs _ opened.len (omega (arith, opened.ok.0, same)) c.give_back_replies-2.ensures;
      says = c.say_end.ensures.says;
    })
