use Rattle.query_walk.proofs.QueryBoxes.{valid_has_box}
use Rattle.query_walk.proofs.search.total.Goals as goal

pub total_in_box-requires-clause-has_box : goal.total_in_box-requires-clause-has_box
total_in_box-requires-clause-has_box g c κs within = valid_has_box (g.V.CubeView.schema c.args.view.now) c.args.query.now c.requires.valid
