use Rattle.std.proofs.Common.{◌≡◌, ◌<◌, ◌≤◌, ◌^◌, length, ap, arith}
use Rattle.std.proofs.lemmas.List.{length-map}
use Rattle.node_arena.specs.Stored.{slot_from}
use Rattle.node_arena.proofs.LinkCounts.{total_more, total_ends, total_tells}
use Rattle.node_arena.proofs.arena.Arena.stat.Goals as goal

pub loop-i-preserved : goal.loop-i-preserved
loop-i-preserved c =
    let less : c.loop-i.i < length c.args.self.now = omega (arith, length-map c.self.inside.slots slot_from, ap length c.self.view_is) in
    total_more c.args.self.now c.loop-i.i c.loop-i.stat c.counted_with-stat.result (slot_from c.slot.result.now) less c.loop-i.invariant
    c.slot.ensures
    c.counted_with-stat.ensures.numbers c.counted_with-stat.ensures.in_order

pub returns-clause-in_order : goal.returns-clause-in_order
returns-clause-in_order c =
    let past : length c.args.self.now ≤ c.loop-i.i = omega (arith, length-map c.self.inside.slots slot_from, ap length c.self.view_is) in
    (total_ends c.args.self.now c.loop-i.i c.loop-i.stat c.loop-i.invariant past).1

pub returns-clause-links : goal.returns-clause-links
returns-clause-links c =
    let size : length c.args.self.now ≡ c.len-i-end.result = omega (arith, length-map c.self.inside.slots slot_from, ap length c.self.view_is) in
    let past : length c.args.self.now ≤ c.loop-i.i = omega arith in
    let few : length c.args.self.now < 2 ^ 64 = omega (arith, c.len-i-end.type_inv) in
    let ends = total_ends c.args.self.now c.loop-i.i c.loop-i.stat c.loop-i.invariant past in
    total_tells c.args.self.now c.loop-i.stat ends.0 ends.1 few
