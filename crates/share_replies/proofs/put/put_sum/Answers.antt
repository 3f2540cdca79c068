use Rattle.std.proofs.Common.{◌∙◌, subst}
use Rattle.run_files.specs.Outside.{of_sink, Puts}
use Rattle.share_replies.specs.Sums.{IsSumOver}
use Rattle.share_replies.specs.Texts.{PutsSumLine}
use Rattle.share_replies.proofs.PutSums.{line_of_sum, on_ok}
use Rattle.share_replies.proofs.put.put_sum.Goals as goal

pub returns-in-Ok-clause-law : goal.returns-in-Ok-clause-law
returns-in-Ok-clause-law g c schema s p is =
    let before = g.O.Sink.held c.args.out.now in
    let after = g.O.Sink.held c.put_text-in-Ok.new.out in
    let line = c.as_slice.result.now in
    let own = line_of_sum schema s p c.in-Some.sum line (subst (IsSumOver schema s p) c.in-Some.is is) (c.as_slice.ensures ∙ c.in-Ok.ensures.line) c.in-Ok.ensures.fits in
    let sink = of_sink g.O.Sink in
    on_ok c.put_text-in-Ok.result (Puts sink c.args.out.now c.put_text-in-Ok.new.out line) (PutsSumLine schema s p before after) (λ (puts : Puts sink c.args.out.now c.put_text-in-Ok.new.out line). (line, own, puts.held)) c.put_text-in-Ok.ensures.puts
