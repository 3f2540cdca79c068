use Rattle.std.proofs.Common.{ℕ, ◌-◌, ◌<◌, ◌≤◌}
use Rattle.shape_test.specs.Parts.{HaveCome}
use Rattle.shape_test.proofs.Descent.{SumsAt}
use Rattle.shape_test.proofs.merging.+sums_agree.Given as goal

abbrev pub decreases-sums_agree : goal.decreases-sums_agree
decreases-sums_agree g l = l.left

abbrev pub invariant-loop-label : goal.invariant-loop-label
invariant-loop-label g l = record {
  low : l.from ≤ 256;
  come : HaveCome l.from l.own.items l.i l.below.items l.at;
  agree : (m : ℕ) → m < l.from → SumsAt l.arena l.whole l.parts (l.left - 1) m;
}

abbrev pub decreases-loop-label : goal.decreases-loop-label
decreases-loop-label g l = 256 - l.from
