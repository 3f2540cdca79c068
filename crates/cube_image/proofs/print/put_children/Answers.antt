use Rattle.std.proofs.Common.{ap, length, arith}
use Rattle.cube_view.specs.Walks.{down}
use Rattle.cube_image.proofs.ChildLists.{linked_at}
use Rattle.cube_image.proofs.print.put_children.Goals as goal

pub put_child-requires : goal.put_child-requires
put_child-requires c =
    let all = ap length c.requires.all in
    let link = linked_at c.args.arena.now c.args.id.0 c.loop-i.i c.child_at-label.result c.child_at-label.ensures.in_order (omega (arith, all, c.requires.count, c.loop-i-test.true)) c.child_at-label.ensures.child in
    let target = c.requires.able.readable.targets c.args.id.0 (down c.child_at-label.result.0) c.child_at-label.result.1 link in
    omega (arith, target, c.requires.able.numbered)
