use Rattle.std.proofs.Common.{◌≡◌, take}
use Rattle.node_arena.proofs.children.Children.of_list.Given as goal

abbrev pub invariant-loop-child : goal.invariant-loop-child
invariant-loop-child l = l.children ≡ take l.child-index l.list
