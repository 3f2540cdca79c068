use Rattle.std.proofs.Common.{List, map, Ok, Option, Result, refl, sym, subst}
use Rattle.std.specs.Prelude.{string_bytes}
use Rattle.run_files.proofs.Apart.{residual_is, stopped}
use Rattle.run_files.specs.Outside.{of_sink}
use Rattle.run_files.specs.declared.stop.Stop.{Stop}
use Rattle.share_replies.specs.Ends.{AreSumsOver, SaysSums}
use Rattle.share_replies.specs.Refusals.{totals_of}
use Rattle.share_replies.specs.Texts.{PutsTotals}
use Rattle.share_replies.specs.declared.adding.Outcome.{Outcome}
use Rattle.share_replies.specs.declared.adding.Outcome.TheVariants as outcome
use Rattle.share_replies.specs.declared.fault.SharesFault.{SharesFault}
use Rattle.share_replies.specs.declared.summed.Summed.{Summed}
use Rattle.share_replies.proofs.PutSums.{totals_ended, totals_put}
use Rattle.share_replies.proofs.adding.put_outcome.Goals as goal

pub returns-in-Err-clause-law : goal.returns-in-Err-clause-law
returns-in-Err-clause-law g c schema s ps fact = c.say_fault.ensures.law schema s ps (subst (AreSumsOver schema s ps) c.in-Err.is fact).1

pub returns-in-Err-clause-says : goal.returns-in-Err-clause-says
returns-in-Err-clause-says g c =
    subst (λ (r : Result (List (Option Summed)) SharesFault). SaysSums (of_sink g.O.Sink) c.args.out.now c.say_fault.new.out (map string_bytes c.args.replies.now) r c.say_fault.result) (sym c.in-Err.is) c.say_fault.ensures.says

pub returns-in_err-put_sums-clause-says : goal.returns-in_err-put_sums-clause-says
returns-in_err-put_sums-clause-says g c =
    let seen = of_sink g.O.Sink in
    let k = c.in_err-put_sums.field-0.0 in
    let sums = c.in-Ok.sums in
    let put = subst (λ (own : List (Option Summed)). PutsTotals seen c.args.out.now c.put_sums.new.out (totals_of own) (stopped (Unit {0}) k)) c.as_slice.ensures c.in_err-put_sums.ensures.puts in
    subst (λ (r : Result (List (Option Summed)) SharesFault). SaysSums seen c.args.out.now c.put_sums.new.out (map string_bytes c.args.replies.now) r c.from_residual.result) (sym c.in-Ok.is)
    (subst (λ (r : Result Outcome Stop). SaysSums seen c.args.out.now c.put_sums.new.out (map string_bytes c.args.replies.now) (Ok sums) r) (sym (residual_is c.from_residual.result k c.from_residual.ensures.1))
    (totals_ended seen c.args.out.now c.put_sums.new.out (totals_of sums) k put, tt))

pub returns-clause-says : goal.returns-clause-says
returns-clause-says g c =
    let seen = of_sink g.O.Sink in
    let sums = c.in-Ok.sums in
    let put = subst (λ (own : List (Option Summed)). PutsTotals {T = Unit {0}} seen c.args.out.now c.put_sums.new.out (totals_of own) (Ok tt)) c.as_slice.ensures c.in_ok-put_sums.ensures.puts in
    subst (λ (r : Result (List (Option Summed)) SharesFault). SaysSums seen c.args.out.now c.put_sums.new.out (map string_bytes c.args.replies.now) r (Ok outcome.Added)) (sym c.in-Ok.is)
    (totals_put seen c.args.out.now c.put_sums.new.out (totals_of sums) outcome.Added put.puts, refl)
