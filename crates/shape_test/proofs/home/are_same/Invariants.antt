use Rattle.std.proofs.Common.{◌≡◌, ℕ, ◌<◌, get_or}
use Rattle.shape_test.specs.declared.home.Move.{Move}
use Rattle.shape_test.proofs.home.are_same.Given as goal

abbrev pub invariant-loop-i : goal.invariant-loop-i
invariant-loop-i l = (k : ℕ) (d : Move) → k < l.i → get_or l.a k d ≡ get_or l.b k d
