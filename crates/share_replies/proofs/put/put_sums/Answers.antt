use Rattle.std.proofs.Common.{List, Option, Result, sym, subst, take, take_all, arith}
use Rattle.query_syntax.specs.declared.query.Parsed.{Parsed}
use Rattle.run_files.proofs.Apart.{residual_is}
use Rattle.run_files.specs.Outside.{of_sink, Puts}
use Rattle.run_files.specs.declared.stop.Stop.{Stop}
use Rattle.share_replies.specs.Refusals.{totals_of}
use Rattle.share_replies.specs.declared.summed.Summed.{Summed}
use Rattle.share_replies.specs.Sums.{IsSumOver}
use Rattle.share_replies.specs.Texts.{PutsSums, PutsTotals, totals_text}
use Rattle.share_replies.proofs.PutSums.{puts_more, sum_at, sums_length, totals_failed, totals_more, totals_put}
use Rattle.share_replies.proofs.TextSums.{take_at_item}
use Rattle.share_replies.proofs.put.put_sums.Goals as goal

pub loop-i-preserved : goal.loop-i-preserved
loop-i-preserved g c = record {
  law = λ schema s ps all.
      let a = g.O.Sink.held c.args.out.now in
      let b = g.O.Sink.held c.loop-i.out in
      let d = g.O.Sink.held c.put_sum.new.out in
      let at = sum_at schema s ps c.args.sums.now c.loop-i.i c.index-sums-i.result all (omega arith) in
      let here = subst (IsSumOver schema s at.asked) (sym c.index-sums-i.is) at.is in
      subst (λ (qs : List Parsed). PutsSums schema s qs a d) (sym at.front)
      (puts_more schema s (take c.loop-i.i ps) at.asked a b d (c.loop-i.invariant.law schema s ps all) (c.in_ok-put_sum.ensures.law schema s at.asked here));
  puts =
      totals_more (of_sink g.O.Sink) c.args.out.now c.loop-i.out c.put_sum.new.out c.args.sums.now c.loop-i.i c.index-sums-i.result (take_at_item c.args.sums.now c.loop-i.i c.index-sums-i.result c.index-sums-i.is (omega arith))
      c.loop-i.invariant.puts c.in_ok-put_sum.ensures.puts.puts;
}

pub returns-clause-law : goal.returns-clause-law
returns-clause-law g c schema s ps all =
    let same = sums_length schema s ps c.args.sums.now all in
    subst (λ (qs : List Parsed). PutsSums schema s qs (g.O.Sink.held c.args.out.now) (g.O.Sink.held c.loop-i.out)) (take_all c.loop-i.i ps (omega (arith, same))) (c.loop-i.invariant.law schema s ps all)

pub returns-in_err-put_sum-clause-puts : goal.returns-in_err-put_sum-clause-puts
returns-in_err-put_sum-clause-puts g c =
    let s = of_sink g.O.Sink in
    let k = c.in_err-put_sum.field-0.0 in
    subst (λ (r : Result (Unit {0}) Stop). PutsTotals s c.args.out.now c.put_sum.new.out (totals_of c.args.sums.now) r) (sym (residual_is c.from_residual.result k c.from_residual.ensures.1))
    (totals_failed s c.args.out.now c.loop-i.out c.put_sum.new.out c.args.sums.now c.loop-i.i c.index-sums-i.result k c.index-sums-i.is (omega arith) c.loop-i.invariant.puts c.in_err-put_sum.ensures.puts)

pub returns-clause-puts : goal.returns-clause-puts
returns-clause-puts g c =
    let s = of_sink g.O.Sink in
    totals_put s c.args.out.now c.loop-i.out (totals_of c.args.sums.now) tt
    (subst (λ (sums : List (Option Summed)). Puts s c.args.out.now c.loop-i.out (totals_text (totals_of sums))) (take_all c.loop-i.i c.args.sums.now (omega arith)) c.loop-i.invariant.puts)
