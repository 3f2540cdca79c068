use Rattle.std.proofs.Common.{◌∙◌}
use Rattle.window_cover.proofs.QuadrantShares.{table_is}
use Rattle.window_cover.proofs.window.window_answer.Goals as goal

pub returns-clause-table : goal.returns-clause-table
returns-clause-table g c h counts =
    table_is (g.V.CubeView.schema c.args.view.now) c.args.query.now h c.seen.result c.window_total.result c.new-rows.result c.add.new.self c.requires.verb c.new-rows.ensures c.in_ok-add.ensures.added (c.window_total.ensures.total h counts) (c.seen.ensures ∙ counts.number)
