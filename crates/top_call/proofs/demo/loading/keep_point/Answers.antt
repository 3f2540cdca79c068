use Rattle.top_call.proofs.Points.{one_more}
use Rattle.top_call.proofs.demo.loading.keep_point.Goals as goal

pub returns-in-Point-clause-few : goal.returns-in-Point-clause-few
returns-in-Point-clause-few g c =
    one_more c.insert.result (g.V.CubeView.weight_at c.args.cube.now) (g.V.CubeView.weight_at c.insert.new.self) (g.V.CubeView.seen c.args.cube.now) (g.V.CubeView.seen c.insert.new.self) _ (g.met.V.CubeView.bag c.args.cube.now).counted c.insert.ensures.counted
