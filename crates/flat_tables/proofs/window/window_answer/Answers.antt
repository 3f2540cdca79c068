use Rattle.std.proofs.Common.{ap, length}
use Rattle.flat_view.specs.Kept.{flat_points, flat_schema}
use Rattle.window_cover.proofs.QuadrantShares.{table_is}
use Rattle.flat_tables.proofs.window.window_answer.Goals as goal

pub returns : goal.returns
returns g c =
    table_is (flat_schema c.args.view.now) c.args.query.now (flat_points c.args.view.now) _ c.window_total.result c.new-rows.result c.add.new.self c.requires.verb c.new-rows.ensures c.in_ok-add.ensures.added c.window_total.ensures (ap length c.points.ensures)
