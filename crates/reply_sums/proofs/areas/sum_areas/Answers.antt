use Rattle.std.proofs.Common.{◌≡◌, true, Err, List, ◌++◌, rules, sym, ◌∙◌, ap}
use Rattle.cube_view.specs.declared.address.Tile.{Tile}
use Rattle.query_syntax.proofs.TileLaws.{all_inside}
use Rattle.query_syntax.specs.TileOrder.{tiles_below, tiles_inside}
use Rattle.query_syntax.specs.declared.table.RowOut.{RowOut}
use Rattle.reply_sums.specs.Areas.{areas_of_both, is_none_left, left_after, sum_areas}
use Rattle.reply_sums.proofs.AreaSums.{first_left, second_left, sum_found}
use Rattle.reply_sums.specs.Numbers.{are_rows_great}
use Rattle.reply_sums.proofs.areas.sum_areas.Goals.{else-is_done, then-is_done+else-is_done-2}
use Rattle.reply_sums.proofs.areas.sum_areas.Goals as goal

pub returns-in-Ok-clause-sum : goal.returns-in-Ok-clause-sum
returns-in-Ok-clause-sum c =
    let ts = tiles_inside c.args.down c.args.region in
    let r = c.in-Ok.ensures.rows ∙ ap (left_after ts) c.new-left.ensures in
    let o = c.in-Ok.ensures.others ∙ ap (left_after ts) c.new-others_left.ensures in
    let first : true ≡ is_none_left c.push_sums.new.rows = sym c.if-is_done.true ∙ c.is_done.ensures in
    let second : true ≡ is_none_left c.push_sums.new.others = sym c.if-is_done-2.true ∙ c.is_done-then-is_done.ensures in
    let sums =
    c.in-Ok.ensures.sums
    ∙ ap (λ (b : List RowOut). b ++ areas_of_both ts c.new-left.result c.new-others_left.result) c.new-sums.ensures
    ∙ (λ i. areas_of_both ts (c.new-left.ensures i) (c.new-others_left.ensures i))
    in
    ap (λ (us : List Tile). sum_areas us c.args.rows.now c.args.others.now) (all_inside c.args.region c.requires.region.0 c.requires.region.1 c.args.down)
    ∙ sum_found ts c.args.rows.now c.args.others.now c.push_sums.new.rows c.push_sums.new.others r o c.push_sums.new.sums first second sums

pub returns-in-Ok-2-clause-none : goal.returns-in-Ok-2-clause-none
returns-in-Ok-2-clause-none c e =
    let ts = tiles_inside c.args.down c.args.region in
    let r = c.in-Ok-2.ensures.rows ∙ ap (left_after ts) c.new-left.ensures in
    let o = c.in-Ok-2.ensures.others ∙ ap (left_after ts) c.new-others_left.ensures in
    ap (λ (us : List Tile). sum_areas us c.args.rows.now c.args.others.now) (all_inside c.args.region c.requires.region.0 c.requires.region.1 c.args.down)
    ∙ elim c.if-is_done.branch [
      | then-is_done+else-is_done-2 w ↦ second_left ts c.args.rows.now c.args.others.now c.push_sums.new.rows c.push_sums.new.others r o (sym w.if-is_done-2.false ∙ w.is_done-then-is_done.ensures)
      | else-is_done w ↦ first_left ts c.args.rows.now c.args.others.now c.push_sums.new.rows c.push_sums.new.others r o (sym w.if-is_done.false ∙ c.is_done.ensures)
    ]

pub returns-in-Err-TooMuch-clause-great : goal.returns-in-Err-TooMuch-clause-great
returns-in-Err-TooMuch-clause-great c =
    let ts = tiles_inside c.args.down c.args.region in
    let great : are_rows_great (areas_of_both (tiles_below c.args.down c.args.region) c.args.rows.now c.args.others.now) ≡ true =
    ap (λ (us : List Tile). are_rows_great (areas_of_both us c.args.rows.now c.args.others.now)) (all_inside c.args.region c.requires.region.0 c.requires.region.1 c.args.down)
    ∙ ((λ i. are_rows_great (areas_of_both ts (sym c.new-left.ensures i) (sym c.new-others_left.ensures i))) ∙ c.in-Err-TooMuch.ensures.great (ap (λ f. Err f) c.in-Err-TooMuch.field-0-is))
    in
    search rules
