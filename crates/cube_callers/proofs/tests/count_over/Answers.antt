use Rattle.std.proofs.Common.{arith}
use Rattle.std.proofs.Math.Bridge.{le_prop}
use Rattle.std.proofs.Math.Logic.{∥∥₁_elim}
use Rattle.cube_store.specs.Reading.{cube_costs}
use Rattle.cube_callers.proofs.FewSteps.{count_valid, count_few}
use Rattle.cube_callers.proofs.tests.count_over.Goals as goal

pub total-requires-clause-valid : goal.total-requires-clause-valid
total-requires-clause-valid g c κs within = count_valid _ _ c.in_ok-cube.ensures.schema c.count_of_value_a.ensures

pub returns : goal.returns
returns g c = ∥∥₁_elim c.in_ok-cube.ensures.bins le_prop (λ B.
    let cube = c.in_ok-cube.cube in
    let few = count_few c.args.spread (cube_costs cube.arena) B.points B.few c.cost_laws.ensures.bounds cube.schema c.count_of_value_a.result c.in_ok-cube.ensures.schema c.count_of_value_a.ensures (c.cost_laws.ensures.walks cube B.points B.counts) in
    let cost = c.total.ensures.cost B.points B.counts in
    omega (arith, few, cost))
