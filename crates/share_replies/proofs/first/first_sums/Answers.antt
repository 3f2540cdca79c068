use Rattle.std.proofs.Common.{◌∷◌, [], List, ap, sym, subst, take, length, arith, length-append}
use Rattle.query_syntax.specs.declared.query.Parsed.{Parsed}
use Rattle.share_replies.specs.Shares.{nothing}
use Rattle.share_replies.specs.Sums.{SumsOver}
use Rattle.share_replies.proofs.TextSums.{sums_push, take_at_item}
use Rattle.share_replies.proofs.first.first_sums.Goals as goal

pub loop-i-preserved : goal.loop-i-preserved
loop-i-preserved c =
    let schema = c.args.schema.now in
    let front = take_at_item c.args.asked.now c.loop-i.i c.index-asked-i.result c.index-asked-i.is (omega arith) in
    let pushed = sums_push schema nothing (take c.loop-i.i c.args.asked.now) c.loop-i.sums c.index-asked-i.result c.in_ok-sum.sum c.loop-i.invariant.sums c.in_ok-sum.ensures.sum in
    record {
      sums = subst (λ (qs : List Parsed). SumsOver schema nothing qs c.add.new.self) (sym front) (subst (SumsOver schema nothing _) (sym c.in_ok-add.ensures.added) pushed);
      size = omega (arith, ap length c.in_ok-add.ensures.added, length-append c.loop-i.sums (c.in_ok-sum.sum ∷ []), c.loop-i.invariant.size);
    }
