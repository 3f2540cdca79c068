use Rattle.std.proofs.Common.{◌≡◌, ℕ, ◌-◌, ◌<◌, ◌≤◌, get_or, length}
use Rattle.shape_test.specs.declared.parts.Part.{Part}
use Rattle.shape_test.proofs.parts.end_of_label.Given as goal

abbrev pub invariant-loop-end : goal.invariant-loop-end
invariant-loop-end l = record {
  behind : l.at ≤ l.end;
  within : l.end ≤ length l.parts;
  same : (k : ℕ) (d : Part) → l.at ≤ k → k < l.end → (get_or l.parts k d).label ≡ l.label;
}

abbrev pub decreases-loop-end : goal.decreases-loop-end
decreases-loop-end l = length l.parts - l.end
