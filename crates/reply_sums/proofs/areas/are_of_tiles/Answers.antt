use Rattle.std.proofs.Common.{List, sym, ◌∙◌, ap}
use Rattle.cube_view.specs.declared.address.Tile.{Tile}
use Rattle.query_syntax.proofs.TileLaws.{all_inside}
use Rattle.query_syntax.specs.TileOrder.{tiles_inside}
use Rattle.reply_sums.specs.Areas.{is_none_left, left_after}
use Rattle.reply_sums.proofs.areas.are_of_tiles.Goals as goal

pub returns : goal.returns
returns c =
    c.is_done.ensures
    ∙ (ap is_none_left (c.pass_over.ensures ∙ ap (left_after (tiles_inside c.args.down c.args.region)) c.new-rows.ensures)
    ∙ ap (λ (ts : List Tile). is_none_left (left_after ts c.args.rows.now)) (sym (all_inside c.args.region c.requires.region.0 c.requires.region.1 c.args.down)))
