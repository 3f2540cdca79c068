use Rattle.std.proofs.Common.{◌≡◌, ◌+◌, ◌*◌, ◌-◌, ◌≤◌, false, cond, get_or}
use Rattle.cube_view.specs.Bag.{amount, EachCounted}
use Rattle.query_walk.specs.Costs.{choices_from, sum_upto, choice_value_cost}
use Rattle.query_walk.proofs.Sets.{is_left_below}
use Rattle.query_walk.proofs.categories.+walk.Given as goal

abbrev pub decreases-total_from : goal.decreases-total_from
decreases-total_from g l = 3 * (4 - l.k) + 2

abbrev pub decreases-total_in_set : goal.decreases-total_in_set
decreases-total_in_set g l = 3 * (4 - l.k) + 1

abbrev pub decreases-total_at_value : goal.decreases-total_at_value
decreases-total_at_value g l = 3 * (4 - l.k)

abbrev pub invariant-total_in_set-loop-value : goal.invariant-total_in_set-loop-value
invariant-total_in_set-loop-value g l = record {
  total : EachCounted (g.V.CubeView.weight_at l.view) (g.V.CubeView.seen l.view) (λ h. l.sum ≡ amount (is_left_below (g.V.CubeView.schema l.view) l.query (g.V.CubeView.address l.view l.cursor) l.k l.set l.value) h);
  cost : EachCounted (g.V.CubeView.weight_at l.view) (g.V.CubeView.seen l.view) (λ h. l.steps ≤ l.initial.steps + sum_upto (λ v. cond (get_or l.set v false) (choice_value_cost (g.V.CubeView.costs l.view) (g.V.CubeView.schema l.view) h (choices_from (g.V.CubeView.schema l.view) l.query (l.k + 1)) (g.V.CubeView.address l.view l.cursor) v) 0) l.value);
}
