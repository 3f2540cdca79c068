use Rattle.std.proofs.Common.{◌≤◌, ◌+◌, ◌∙◌, ℕ, List, [], Err, None, length, take, take_all, refl, sym, ap, subst, arith}
use Rattle.std.specs.List.{AllZip}
use Rattle.std.proofs.lemmas.List.{length-map}
use Rattle.run_files.proofs.Apart.{residual_is, same_stop}
use Rattle.run_files.proofs.Lists.{AllZip-length}
use Rattle.run_files.specs.Outside.{of_place, of_sink}
use Rattle.run_files.specs.Scripted.{IsOutput, OpensScripts}
use Rattle.live_sums.proofs.Opened.{creates_ended, creates_more, names_next, opens_none, outputs_more}
use Rattle.live_sums.specs.Opening.{ask_names}
use Rattle.live_sums.specs.declared.opening.RunNames.{RunNames}
use Rattle.live_sums.proofs.opening.create_asks.Goals as goal

pub loop-i-init : goal.loop-i-init
loop-i-init g c = record {
  creates = opens_none (of_place g.P.Place) c.args.place.now c.args.place.now refl;
  outputs = subst (λ (items : List g.row.P-Out.Denot). AllZip (IsOutput (of_sink g.P.Out.Sink) (g.P.Place.files c.args.place.now)) [] items) (sym c.requires.empty.0) tt;
  room = c.requires.room;
  len = c.requires.empty.1;
}

pub loop-i-preserved : goal.loop-i-preserved
loop-i-preserved g c =
    let p = of_place g.P.Place in
    let s = of_sink g.P.Out.Sink in
    let so_far = c.loop-i.invariant in
    let i = c.loop-i.i in
    let runs = c.args.runs.now in
    record {
      creates = creates_more p c.args.place.now c.loop-i.place c.create_ask.new.place (ask_names runs) i _ (names_next (λ (run : RunNames). run.ask.now) runs i _ c.loop-i-test.true) so_far.creates c.in_ok-ask.ensures.creates;
      outputs = subst (λ (items : List g.row.P-Out.Denot). AllZip (IsOutput s (g.P.Place.files c.args.place.now)) (take (i + 1) (ask_names runs)) items) (sym c.push_reserved.ensures.items)
          (outputs_more p s c.args.place.now c.loop-i.place (ask_names runs) c.loop-i.asks.items i _ c.in_ok-ask.ask (names_next (λ (run : RunNames). run.ask.now) runs i _ c.loop-i-test.true) so_far.creates so_far.outputs c.in_ok-ask.ensures.output);
      room = subst (λ n. length runs ≤ n) (sym c.push_reserved.ensures.capacity) so_far.room;
      len = c.push_reserved.ensures.len ∙ ap (λ n. n + 1) so_far.len;
    }

pub returns-in_err-ask-clause-creates : goal.returns-in_err-ask-clause-creates
returns-in_err-ask-clause-creates g c =
    let f = c.in_err-ask.field-0.0 in
    creates_ended (of_place g.P.Place) c.args.place.now c.loop-i.place c.create_ask.new.place (ask_names c.args.runs.now) c.loop-i.i _ c.from_residual.result f
    (names_next (λ (run : RunNames). run.ask.now) c.args.runs.now c.loop-i.i _ c.loop-i-test.true) (residual_is c.from_residual.result f c.from_residual.ensures.1)
    (λ e. c.in_err-ask.ensures.no_read (ap (λ k. Err k) (same_stop _ _ e))) c.loop-i.invariant.creates c.in_err-ask.ensures.creates

pub returns-clause-creates : goal.returns-clause-creates
returns-clause-creates g c =
    let size = length-map c.args.runs.now (λ (run : RunNames). run.ask.now) in
    let past = c.loop-i-test.false in
    subst (λ (ns : List (List ℕ)). OpensScripts (of_place g.P.Place) c.args.place.now c.loop-i.place [] ns None) (take_all c.loop-i.i (ask_names c.args.runs.now) (omega (arith, size, past))) c.loop-i.invariant.creates

pub returns-clause-asks : goal.returns-clause-asks
returns-clause-asks g c =
    let past = c.loop-i-test.false in
    let size = length-map c.args.runs.now (λ (run : RunNames). run.ask.now) in
    subst (λ (ns : List (List ℕ)). AllZip (IsOutput (of_sink g.P.Out.Sink) (g.P.Place.files c.args.place.now)) ns c.loop-i.asks.items) (take_all c.loop-i.i (ask_names c.args.runs.now) (omega (arith, size, past))) c.loop-i.invariant.outputs

pub returns-clause-size : goal.returns-clause-size
returns-clause-size g c =
    sym (AllZip-length (IsOutput (of_sink g.P.Out.Sink) (g.P.Place.files c.args.place.now)) (ask_names c.args.runs.now) c.loop-i.asks.items (returns-clause-asks g c)) ∙ length-map c.args.runs.now (λ (run : RunNames). run.ask.now)
