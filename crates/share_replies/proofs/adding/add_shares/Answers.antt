use Rattle.std.proofs.Common.{◌≡◌, [], ◌∷◌, List, ℕ, Option, IfOk, None, Err, map, ◌∙◌, ap, subst, sym}
use Rattle.std.specs.Prelude.{string_bytes}
use Rattle.outer_io.specs.Files.{Files, file_or_empty}
use Rattle.outer_io.specs.Lines.{lines}
use Rattle.run_files.proofs.Stages.{same_files}
use Rattle.run_files.specs.Outside.{file_of, of_place, of_sink}
use Rattle.run_files.specs.Planned.{IsPlanOf}
use Rattle.session_core.specs.Asked.{asked}
use Rattle.share_replies.specs.Ends.{OutcomeOver, given_names}
use Rattle.share_replies.specs.Shares.{together}
use Rattle.share_replies.proofs.Outcomes.{some_plan, under_plan}
use Rattle.run_files.proofs.Apart.{residual_is}
use Rattle.share_replies.specs.Causes.{EndsByFiles, LeavesSink, OpensShares}
use Rattle.share_replies.proofs.ShareEnds.{ended_after, ended_by_plan}
use Rattle.share_replies.proofs.adding.add_shares.Goals as goal

pub returns-clause-law : goal.returns-clause-law
returns-clause-law g c files told =
    let p = of_place g.P.Place in
    let names = c.args.names.now in
    let plan = c.in_ok-plan.plan in
    let script = file_or_empty files names.script.now in
    let ps = asked plan.schema (lines script) in
    let texts = map (file_or_empty files) (map string_bytes names.replies.now) in
    let after = g.O.Sink.held c.put_outcome.new.out in
    let kept : g.P.Place.files c.load_plan.new.place ≡ g.P.Place.files c.args.place.now = same_files p c.args.place.now c.load_plan.new.place (names.plan.now ∷ []) None c.in_ok-plan.ensures.leaves in
    let quiet = (c.in_ok-plan.ensures.plan.silent (λ e. cc)).held in
    let is = subst (λ (f : Option (List ℕ)). IsPlanOf f plan) (ap (λ (fs : Option Files). file_of fs names.plan.now) told) c.in_ok-plan.ensures.plan.plan in
    some_plan plan _ script texts (g.O.Sink.held c.args.out.now) after c.put_outcome.result
    (under_plan plan _ ps texts (g.O.Sink.held c.args.out.now) after c.put_outcome.result is
    (λ shares are. subst (λ (before : Option (List ℕ)). IfOk c.put_outcome.result (OutcomeOver plan.schema ps (together shares) before after)) quiet
    (c.put_outcome.ensures.law plan.schema (together shares) ps (c.sums_of-sums.ensures.law files shares (kept ∙ told) are))))

pub returns-clause-shares : goal.returns-clause-shares
returns-clause-shares g c =
    let p = of_place g.P.Place in
    let s = of_sink g.O.Sink in
    (ended_after p s (given_names c.args.names.now) c.args.place.now c.load_plan.new.place c.sums_of-sums.new.place c.args.out.now c.load_plan.new.out c.put_outcome.new.out c.in_ok-plan.plan c.in_ok-plan.ensures.leaves c.in_ok-plan.ensures.plan
    c.sums_of-sums.result c.put_outcome.result c.sums_of-sums.ensures.stage c.sums_of-sums.ensures.decides c.put_outcome.ensures.says).says

pub returns-in_err-plan-clause-causes : goal.returns-in_err-plan-clause-causes
returns-in_err-plan-clause-causes g c =
    let p = of_place g.P.Place in
    let s = of_sink g.O.Sink in
    let names = given_names c.args.names.now in
    let k = c.in_err-plan.field-0.0 in
    subst (EndsByFiles (g.P.Place.files c.args.place.now) names) (sym (residual_is c.from_residual.result k c.from_residual.ensures.1))
    (ended_by_plan p s names c.args.place.now c.load_plan.new.place c.args.out.now c.load_plan.new.out k c.in_err-plan.ensures.leaves (λ e. c.in_err-plan.ensures.read (ap (λ k. Err k) e)) c.in_err-plan.ensures.plan).causes

pub returns-clause-causes : goal.returns-clause-causes
returns-clause-causes g c =
    let p = of_place g.P.Place in
    let s = of_sink g.O.Sink in
    (ended_after p s (given_names c.args.names.now) c.args.place.now c.load_plan.new.place c.sums_of-sums.new.place c.args.out.now c.load_plan.new.out c.put_outcome.new.out c.in_ok-plan.plan c.in_ok-plan.ensures.leaves c.in_ok-plan.ensures.plan
    c.sums_of-sums.result c.put_outcome.result c.sums_of-sums.ensures.stage c.sums_of-sums.ensures.decides c.put_outcome.ensures.says).causes

pub returns-in_err-plan-clause-opens : goal.returns-in_err-plan-clause-opens
returns-in_err-plan-clause-opens g c =
    let p = of_place g.P.Place in
    let s = of_sink g.O.Sink in
    let names = given_names c.args.names.now in
    let k = c.in_err-plan.field-0.0 in
    subst (OpensShares p c.args.place.now c.load_plan.new.place names) (sym (residual_is c.from_residual.result k c.from_residual.ensures.1))
    (ended_by_plan p s names c.args.place.now c.load_plan.new.place c.args.out.now c.load_plan.new.out k c.in_err-plan.ensures.leaves (λ e. c.in_err-plan.ensures.read (ap (λ k. Err k) e)) c.in_err-plan.ensures.plan).opens

pub returns-clause-opens : goal.returns-clause-opens
returns-clause-opens g c =
    let p = of_place g.P.Place in
    let s = of_sink g.O.Sink in
    (ended_after p s (given_names c.args.names.now) c.args.place.now c.load_plan.new.place c.sums_of-sums.new.place c.args.out.now c.load_plan.new.out c.put_outcome.new.out c.in_ok-plan.plan c.in_ok-plan.ensures.leaves c.in_ok-plan.ensures.plan
    c.sums_of-sums.result c.put_outcome.result c.sums_of-sums.ensures.stage c.sums_of-sums.ensures.decides c.put_outcome.ensures.says).opens

pub returns-in_err-plan-clause-sink : goal.returns-in_err-plan-clause-sink
returns-in_err-plan-clause-sink g c =
    let p = of_place g.P.Place in
    let s = of_sink g.O.Sink in
    let names = given_names c.args.names.now in
    let k = c.in_err-plan.field-0.0 in
    subst (LeavesSink s c.args.out.now c.load_plan.new.out (g.P.Place.files c.args.place.now) names) (sym (residual_is c.from_residual.result k c.from_residual.ensures.1))
    (ended_by_plan p s names c.args.place.now c.load_plan.new.place c.args.out.now c.load_plan.new.out k c.in_err-plan.ensures.leaves (λ e. c.in_err-plan.ensures.read (ap (λ k. Err k) e)) c.in_err-plan.ensures.plan).sink

pub returns-clause-sink : goal.returns-clause-sink
returns-clause-sink g c =
    let p = of_place g.P.Place in
    let s = of_sink g.O.Sink in
    (ended_after p s (given_names c.args.names.now) c.args.place.now c.load_plan.new.place c.sums_of-sums.new.place c.args.out.now c.load_plan.new.out c.put_outcome.new.out c.in_ok-plan.plan c.in_ok-plan.ensures.leaves c.in_ok-plan.ensures.plan
    c.sums_of-sums.result c.put_outcome.result c.sums_of-sums.ensures.stage c.sums_of-sums.ensures.decides c.put_outcome.ensures.says).sink
