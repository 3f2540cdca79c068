use Rattle.std.proofs.Common.{◌≡◌, ℕ, ◌<◌, [], get_or, length}
use Rattle.shape_test.specs.Owners.{IsHomeOf}
use Rattle.shape_test.proofs.homes.homes_back.Given as goal

abbrev pub invariant-loop-slot : goal.invariant-loop-slot
invariant-loop-slot l = record {
  size : length l.homes ≡ l.slot;
  each : (j : ℕ) → j < l.slot → IsHomeOf l.owners l.most j (get_or l.homes j []);
}
