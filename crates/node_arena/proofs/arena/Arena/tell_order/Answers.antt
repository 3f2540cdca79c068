use Rattle.std.proofs.Common.{◌≤◌, length, ap, arith}
use Rattle.std.proofs.lemmas.List.{length-map}
use Rattle.node_arena.specs.Stored.{slot_from}
use Rattle.node_arena.proofs.LinkCounts.{rising_more, rising_ends}
use Rattle.node_arena.proofs.arena.Arena.tell_order.Goals as goal

pub loop-i-init : goal.loop-i-init
loop-i-init c = λ k l. absurd (omega arith)

pub loop-i-preserved : goal.loop-i-preserved
loop-i-preserved c = rising_more c.args.self.now c.loop-i.i c.loop-i.invariant c.count_at.ensures.in_order

pub returns : goal.returns
returns c =
    let past : length c.args.self.now ≤ c.loop-i.i = omega (arith, length-map c.self.inside.slots slot_from, ap length c.self.view_is) in
    rising_ends c.args.self.now c.loop-i.i c.loop-i.invariant past
