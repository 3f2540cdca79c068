use Rattle.std.proofs.Common.{◌+◌, ◌*◌, ◌-◌, ◌≤◌, false, cond, get_or}
use Rattle.cube_view.specs.Bag.{EachCounted}
use Rattle.query_walk.specs.Costs.{choices_from, sum_upto, value_walk_cost}
use Rattle.tile_drill.specs.Costs.{ends_cost}
use Rattle.tile_drill.specs.Series.{GainsEach}
use Rattle.tile_drill.proofs.Rows.{row_below}
use Rattle.tile_drill.proofs.sums.+walk.Given as goal

abbrev pub decreases-add_from : goal.decreases-add_from
decreases-add_from g l = 3 * (4 - l.k) + 2

abbrev pub decreases-add_in_set : goal.decreases-add_in_set
decreases-add_in_set g l = 3 * (4 - l.k) + 1

abbrev pub decreases-add_at_value : goal.decreases-add_at_value
decreases-add_at_value g l = 3 * (4 - l.k)

-- what the values so far have added, and what they cost
abbrev pub invariant-add_in_set-loop-value : goal.invariant-add_in_set-loop-value
invariant-add_in_set-loop-value g l = record {
  sums : EachCounted (g.V.CubeView.weight_at l.view) (g.V.CubeView.seen l.view) (GainsEach (row_below (g.V.CubeView.schema l.view) l.series (g.V.CubeView.address l.view l.cursor) l.k l.set l.value) l.initial.sums l.sums);
  cost : EachCounted (g.V.CubeView.weight_at l.view) (g.V.CubeView.seen l.view) (λ h. l.steps ≤ l.initial.steps + sum_upto (λ v. cond (get_or l.set v false) (value_walk_cost (g.V.CubeView.costs l.view) (g.V.CubeView.schema l.view) h (ends_cost (g.V.CubeView.costs l.view) (l.series.rows + 1)) (choices_from (g.V.CubeView.schema l.view) l.series.query (l.k + 1)) (g.V.CubeView.address l.view l.cursor) v) 0) l.value);
}
