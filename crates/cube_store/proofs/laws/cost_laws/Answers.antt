use Rattle.cube_store.specs.Reading.{cube_costs}
use Rattle.cube_store.proofs.Costs.{tells_costs, bounds_bag_costs}
use Rattle.cube_store.proofs.WalkCosts.{address_cost-same}
use Rattle.cube_store.proofs.laws.cost_laws.Goals as goal

pub returns-clause-calls : goal.returns-clause-calls
returns-clause-calls c = tells_costs

pub returns-clause-walks : goal.returns-clause-walks
returns-clause-walks c cube h counts a W = address_cost-same cube.schema (cube_costs cube.arena) h (tells_costs cube h counts) a W

pub returns-clause-bounds : goal.returns-clause-bounds
returns-clause-bounds c = bounds_bag_costs
