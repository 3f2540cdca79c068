use Rattle.std.proofs.Common.{◌≡◌, ℕ, ◌+◌, ◌*◌, ◌<◌, ◌≤◌, get_or, length}
use Rattle.cube_view.specs.Bag.{amount}
use Rattle.cube_view.specs.Places.{is_before}
use Rattle.plain_cube.proofs.scans.count_before_each.Given as goal

abbrev pub invariant-loop-total : goal.invariant-loop-total
invariant-loop-total g l = record {
  end : l.end ≡ l.from + l.total-index * l.wide;
  told : (k : ℕ) → k < l.total-index → get_or l.totals k 0 ≡ amount (is_before l.schema l.address (l.from + k * l.wide)) l.points;
  cost : l.steps ≤ l.initial.steps + l.total-index * length l.points;
}
