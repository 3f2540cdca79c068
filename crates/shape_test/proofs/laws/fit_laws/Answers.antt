use Rattle.shape_test.proofs.SchemaConditions.{decides_cube, owns_bag}
use Rattle.shape_test.proofs.OneHome.{one_home}
use Rattle.shape_test.proofs.laws.fit_laws.Goals as goal

pub returns-clause-cube : goal.returns-clause-cube
returns-clause-cube c = decides_cube

pub returns-clause-bag : goal.returns-clause-bag
returns-clause-bag c = owns_bag

pub returns-clause-homes : goal.returns-clause-homes
returns-clause-homes c = one_home
