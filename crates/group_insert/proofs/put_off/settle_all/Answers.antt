use Rattle.std.proofs.Common.{◌≡◌, ◌+◌, ◌<◌, ◌++◌, ◌∷◌, [], Some, length, ap, ◌∙◌, arith}
use Rattle.std.proofs.lemmas.List.{length_push}
use Rattle.std.proofs.lemmas.List.Elements.{All-pop}
use Rattle.group_insert.specs.Settling.{entries}
use Rattle.group_insert.proofs.Settlement.{settle_wants, settles_rest}
use Rattle.group_insert.proofs.put_off.settle_all.Goals as goal

pub settle-requires-clause-in_range : goal.settle-requires-clause-in_range
settle-requires-clause-in_range g c =
    (settle_wants c.args.kept c.args.work.now.slots c.loop-put_off.work.slots (entries c.args.put_off.now.items) c.loop-put_off.put_off.items c.pop.new.self.items c.in-Some.p c.in-Some.ensures.items
    (omega (arith, c.loop-put_off-test.true, c.len.ensures)) c.loop-put_off.invariant.settles c.requires.known).in_range

pub settle-requires-clause-is_node : goal.settle-requires-clause-is_node
settle-requires-clause-is_node g c =
    (settle_wants c.args.kept c.args.work.now.slots c.loop-put_off.work.slots (entries c.args.put_off.now.items) c.loop-put_off.put_off.items c.pop.new.self.items c.in-Some.p c.in-Some.ensures.items
    (omega (arith, c.loop-put_off-test.true, c.len.ensures)) c.loop-put_off.invariant.settles c.requires.known).is_node

pub settle-requires-clause-base : goal.settle-requires-clause-base
settle-requires-clause-base g c =
    (settle_wants c.args.kept c.args.work.now.slots c.loop-put_off.work.slots (entries c.args.put_off.now.items) c.loop-put_off.put_off.items c.pop.new.self.items c.in-Some.p c.in-Some.ensures.items
    (omega (arith, c.loop-put_off-test.true, c.len.ensures)) c.loop-put_off.invariant.settles c.requires.known).base

pub settle-requires-clause-inside : goal.settle-requires-clause-inside
settle-requires-clause-inside g c =
    (settle_wants c.args.kept c.args.work.now.slots c.loop-put_off.work.slots (entries c.args.put_off.now.items) c.loop-put_off.put_off.items c.pop.new.self.items c.in-Some.p c.in-Some.ensures.items
    (omega (arith, c.loop-put_off-test.true, c.len.ensures)) c.loop-put_off.invariant.settles c.requires.known).inside

pub settle-requires-clause-ends : goal.settle-requires-clause-ends
settle-requires-clause-ends g c =
    (settle_wants c.args.kept c.args.work.now.slots c.loop-put_off.work.slots (entries c.args.put_off.now.items) c.loop-put_off.put_off.items c.pop.new.self.items c.in-Some.p c.in-Some.ensures.items
    (omega (arith, c.loop-put_off-test.true, c.len.ensures)) c.loop-put_off.invariant.settles c.requires.known).ends

pub loop-put_off-preserved : goal.loop-put_off-preserved
loop-put_off-preserved g c =
    let some : c.args.kept < length c.loop-put_off.put_off.items = omega (arith, c.loop-put_off-test.true, c.len.ensures) in
    let e : length c.loop-put_off.put_off.items ≡ length (c.pop.new.self.items ++ c.in-Some.p ∷ []) = ap length c.in-Some.ensures.items in
    record {
      settles = settles_rest c.args.kept c.args.work.now.slots c.loop-put_off.work.slots (entries c.args.put_off.now.items) c.loop-put_off.put_off.items c.pop.new.self.items c.in-Some.p c.in-Some.ensures.items some c.loop-put_off.invariant.settles c.settle.new.work.slots c.in_ok-settle.ensures.set;
      long = omega (arith, some, e, length_push c.pop.new.self.items c.in-Some.p);
      within = (All-pop (λ p. p.from + p.between < 6) c.loop-put_off.put_off.items c.pop.new.self.items (Some c.in-Some.p) c.in-Some.ensures.items c.loop-put_off.invariant.within).0;
      start = c.in_ok-settle.ensures.start ∙ c.loop-put_off.invariant.start;
    }
