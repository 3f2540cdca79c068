use Rattle.std.proofs.Common.{Err, ap}
use Rattle.live_sums.proofs.RunSums.{so_far_all, so_far_more, so_far_none, so_far_wrong, turn_is}
use Rattle.live_sums.proofs.Shallow.{one_shallow}
use Rattle.live_sums.proofs.turn.sum_of_runs.Goals as goal

pub add_next-requires : goal.add_next-requires
add_next-requires g c = one_shallow c.args.schema.now c.args.asked.now c.requires

pub loop-i-init : goal.loop-i-init
loop-i-init g c = so_far_none g.S.Source.left c.args.schema.now c.args.asked.now c.args.runs.now c.in_ok-sum.sum c.in_ok-sum.ensures.sum

pub loop-i-preserved : goal.loop-i-preserved
loop-i-preserved g c =
    so_far_more g.S.Source.left c.args.schema.now c.args.asked.now c.args.runs.now c.loop-i.runs c.loop-i.i c.loop-i.sum c.index-runs-i.result c.loop-i.invariant c.loop-i-test.true c.index-runs-i.is
    c.add_next.new.self c.in-Ok.next c.in-Ok.ensures.adds

pub returns-clause-sums : goal.returns-clause-sums
returns-clause-sums g c = so_far_all g.S.Source.left c.args.schema.now c.args.asked.now c.args.runs.now c.loop-i.runs c.loop-i.i c.loop-i.sum c.loop-i-test.false c.loop-i.invariant

pub returns-in-Err-clause-wrong : goal.returns-in-Err-clause-wrong
returns-in-Err-clause-wrong g c k w e =
    so_far_wrong g.S.Source.left c.args.schema.now c.args.asked.now c.args.runs.now c.loop-i.runs c.loop-i.i c.loop-i.sum c.index-runs-i.result c.loop-i.invariant c.loop-i-test.true c.index-runs-i.is
    c.add_next.new.self c.in-Err.fault c.fault_of_share.result k w c.fault_of_share.ensures (turn_is c.fault_of_share.result k w e) (λ f. c.in-Err.ensures.wrong w (ap (λ x. Err x) f))
