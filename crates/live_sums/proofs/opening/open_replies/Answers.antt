use Rattle.std.proofs.Common.{◌≡◌, ◌≤◌, ◌+◌, ◌∙◌, ℕ, All, List, [], None, length, take, take_all, refl, sym, ap, subst, arith}
use Rattle.std.specs.List.{AllZip}
use Rattle.std.proofs.lemmas.List.Elements.{All-nil, All-push}
use Rattle.std.proofs.lemmas.List.{length-map}
use Rattle.run_files.proofs.Apart.{residual_is}
use Rattle.run_files.proofs.Lists.{AllZip-length}
use Rattle.run_files.specs.Outside.{of_place}
use Rattle.run_files.specs.Scripted.{OpensScripts}
use Rattle.live_sums.proofs.Opened.{names_next, opens_ended, opens_more, opens_none, unread_more}
use Rattle.live_sums.specs.Opening.{NoneRead, reply_names}
use Rattle.live_sums.specs.declared.opening.RunNames.{RunNames}
use Rattle.live_sums.specs.declared.replies.Replies.{Replies}
use Rattle.live_sums.proofs.opening.open_replies.Goals as goal

pub loop-i-init : goal.loop-i-init
loop-i-init g c = record {
  opens = opens_none (of_place g.P.Place) c.args.place.now c.args.place.now refl;
  unread = subst (λ (items : List (Replies g.row.P-In.Denot)). AllZip (NoneRead g.P.In.Source.left g.P.In.Source.faults (g.P.Place.files c.args.place.now)) [] items) (sym c.requires.empty.0) tt;
  quiet = subst (λ (items : List (Replies g.row.P-In.Denot)). All (λ run. g.P.In.Source.faults run.source ≡ 0) items) (sym c.requires.empty.0) (All-nil _);
  len = c.requires.empty.1;
  room = c.requires.room;
}

pub loop-i-preserved : goal.loop-i-preserved
loop-i-preserved g c =
    let p = of_place g.P.Place in
    let left = g.P.In.Source.left in
    let faults = g.P.In.Source.faults in
    let i = c.loop-i.i in
    let names = reply_names c.args.runs.now in
    let run = c.in_ok-opened.opened in
    let so_far = c.loop-i.invariant in
    let items = c.push_reserved.ensures.items in
    record {
      opens = opens_more p c.args.place.now c.loop-i.place c.open_run.new.place names i _ (names_next (λ (run : RunNames). run.replies.now) c.args.runs.now i _ c.loop-i-test.true) so_far.opens c.in_ok-opened.ensures.opens;
      unread = subst (λ (runs : List (Replies g.row.P-In.Denot)). AllZip (NoneRead left faults (g.P.Place.files c.args.place.now)) (take (i + 1) names) runs) (sym items)
          (unread_more p left faults c.args.place.now c.loop-i.place names c.loop-i.replies.items i _ run (names_next (λ (run : RunNames). run.replies.now) c.args.runs.now i _ c.loop-i-test.true) so_far.opens so_far.unread c.in_ok-opened.ensures.unread);
      quiet = subst (λ (runs : List (Replies g.row.P-In.Denot)). All (λ run. faults run.source ≡ 0) runs) (sym items) (All-push (λ run. faults run.source ≡ 0) c.loop-i.replies.items run so_far.quiet c.in_ok-opened.ensures.unread.fresh);
      len = c.push_reserved.ensures.len ∙ ap (λ n. n + 1) so_far.len;
      room = subst (λ n. length c.args.runs.now ≤ n) (sym c.push_reserved.ensures.capacity) so_far.room;
    }

pub returns-in_err-opened-clause-opens : goal.returns-in_err-opened-clause-opens
returns-in_err-opened-clause-opens g c =
    let f = c.in_err-opened.field-0.0 in
    opens_ended (of_place g.P.Place) c.args.place.now c.loop-i.place c.open_run.new.place (reply_names c.args.runs.now) c.loop-i.i _ c.from_residual.result f
    (names_next (λ (run : RunNames). run.replies.now) c.args.runs.now c.loop-i.i _ c.loop-i-test.true) (residual_is c.from_residual.result f c.from_residual.ensures.1)
    c.loop-i.invariant.opens c.in_err-opened.ensures.opens

pub returns-clause-opens : goal.returns-clause-opens
returns-clause-opens g c =
    let past = c.loop-i-test.false in
    let size = length-map c.args.runs.now (λ (run : RunNames). run.replies.now) in
    subst (λ (ns : List (List ℕ)). OpensScripts (of_place g.P.Place) c.args.place.now c.loop-i.place ns [] None) (take_all c.loop-i.i (reply_names c.args.runs.now) (omega (arith, size, past))) c.loop-i.invariant.opens

pub returns-clause-unread : goal.returns-clause-unread
returns-clause-unread g c =
    let size = length-map c.args.runs.now (λ (run : RunNames). run.replies.now) in
    let past = c.loop-i-test.false in
    subst (λ (ns : List (List ℕ)). AllZip (NoneRead g.P.In.Source.left g.P.In.Source.faults (g.P.Place.files c.args.place.now)) ns c.loop-i.replies.items) (take_all c.loop-i.i (reply_names c.args.runs.now) (omega (arith, size, past))) c.loop-i.invariant.unread

pub returns-clause-size : goal.returns-clause-size
returns-clause-size g c =
    sym (AllZip-length (NoneRead g.P.In.Source.left g.P.In.Source.faults (g.P.Place.files c.args.place.now)) (reply_names c.args.runs.now) c.loop-i.replies.items (returns-clause-unread g c)) ∙ length-map c.args.runs.now (λ (run : RunNames). run.replies.now)
