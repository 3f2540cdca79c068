use Rattle.std.proofs.Common.{◌-◌, ◌<◌, ◌≤◌, length}
use Rattle.shape_test.specs.Owners.{LeadsBack}
use Rattle.shape_test.proofs.homes.home_back.Given as goal

abbrev pub invariant-loop-last : goal.invariant-loop-last
invariant-loop-last l = record {
  within : l.last < length l.owners;
  back : LeadsBack l.owners l.slot l.home l.last;
  short : length l.home ≤ l.most;
}

abbrev pub decreases-loop-last : goal.decreases-loop-last
decreases-loop-last l = l.most - length l.home
