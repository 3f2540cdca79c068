use Rattle.std.proofs.Common.{◌++◌, List, ◌∙◌, ap, subst, sym}
use Rattle.cube_view.specs.declared.address.Tile.{Tile}
use Rattle.query_syntax.specs.Queries.{whole_space}
use Rattle.window_cover.specs.Covers.{IsLeastCover}
use Rattle.window_cover.specs.Ways.{cover_inside}
use Rattle.window_cover.proofs.Fewest.{least}
use Rattle.window_cover.proofs.LargestTiles.{cover_is_inside}
use Rattle.window_cover.proofs.largest.cover.Goals as goal

pub returns-clause-tiles : goal.returns-clause-tiles
returns-clause-tiles c =
    c.in_ok-add_inside.ensures {u = tt}
    ∙ (ap (λ (ts : List Tile). ts ++ cover_inside c.args.schema.now.depth c.args.rect.now whole_space) c.new-tiles.ensures
    ∙ sym (cover_is_inside c.args.schema.now.depth c.args.rect.now))

pub returns-clause-least : goal.returns-clause-least
returns-clause-least c =
    let is = c.in_ok-add_inside.ensures {u = tt}
    ∙ (ap (λ (ts : List Tile). ts ++ cover_inside c.args.schema.now.depth c.args.rect.now whole_space) c.new-tiles.ensures
    ∙ sym (cover_is_inside c.args.schema.now.depth c.args.rect.now)) in
    subst (IsLeastCover c.args.schema.now.depth c.args.rect.now) (sym is) (least c.args.schema.now.depth c.args.rect.now)
