use Rattle.std.proofs.Common.{◌-◌, length}
use Rattle.cube_callers.proofs.agreement_tests.+table_from.Given as goal

abbrev pub decreases-table_from : goal.decreases-table_from
decreases-table_from g l = length (g.V.CubeView.schema l.view.now).categories - l.k
