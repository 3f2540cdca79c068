use Rattle.std.proofs.Common.{◌≡◌, ◌++◌, take, drop}
use Rattle.node_arena.specs.Calls.{share_all}
use Rattle.node_arena.proofs.children.Children.shared.Given as goal

abbrev pub invariant-loop-i : goal.invariant-loop-i
invariant-loop-i l = l.rows ≡ share_all (take l.i l.self) ++ drop l.i l.self
