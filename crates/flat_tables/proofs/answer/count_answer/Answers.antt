use Rattle.std.proofs.Common.{◌≡◌, ◌≤◌, ◌&&◌, not, true, [], ◌∷◌, ◌++◌, sym, ◌∙◌, ap, arith, length}
use Rattle.cube_view.specs.Bag.{amount, anywhere}
use Rattle.cube_view.specs.Places.{in_tile}
use Rattle.cube_view.specs.declared.schema.Schema.{Schema}
use Rattle.flat_view.specs.Kept.{flat_points, flat_schema}
use Rattle.query_syntax.proofs.TableRows.{rows_at}
use Rattle.query_syntax.proofs.ValidParts.{region_above, valid_parts}
use Rattle.query_syntax.specs.Boxes.{box, total}
use Rattle.query_syntax.specs.Tables.{has_table}
use Rattle.query_syntax.specs.Verbs.{is_window}
use Rattle.query_syntax.specs.declared.query.Verb.{Verb}
use Rattle.query_syntax.specs.declared.query.Verb.TheVariants.{Count}
use Rattle.query_syntax.specs.declared.table.RowOut.TheVariants as row
use Rattle.flat_tables.proofs.Parts.{part_weighs_little}
use Rattle.flat_tables.proofs.RegionTables.{region_table}
use Rattle.flat_tables.proofs.answer.count_answer.Goals as goal

pub in_tile-near-requires : goal.in_tile-near-requires
in_tile-near-requires g c = (valid_parts (flat_schema c.args.view.now) c.args.query.now c.requires.valid).region

pub box_total-requires-clause-region : goal.box_total-requires-clause-region
box_total-requires-clause-region g c =
    let r = region_above (flat_schema c.args.view.now) c.args.query.now c.requires.valid in
    let e = ap (λ (z : Schema). z.depth) c.schema.ensures in
    omega (arith, r, e)

pub box_total-requires-clause-light : goal.box_total-requires-clause-light
box_total-requires-clause-light g c =
    let z = flat_schema c.args.view.now in
    let few = part_weighs_little z (in_tile z.depth c.args.query.now.region) (flat_points c.args.view.now) c.args.view.now.sound c.args.view.now.few in
    omega (arith, few, ap (amount anywhere) c.in_tile-near.ensures)

pub returns : goal.returns
returns g c =
    let z = flat_schema c.args.view.now in
    let q = c.args.query.now in
    let near = c.in_tile-near.result.now in
    let asks : has_table q.verb && not (is_window q.verb) ≡ true = ap (λ (v : Verb). has_table v && not (is_window v)) c.requires.verb in
    let one = c.box_total.ensures ∙ ap (λ (s : Schema). total s (box q) near) c.schema.ensures in
    let rows = c.in_ok-add.ensures.added ∙ ap (λ l. l ++ row.One c.box_total.result ∷ []) c.new-rows.ensures ∙ ap (λ n. row.One n ∷ []) one ∙ sym (rows_at z q near Count c.requires.verb) in
    region_table z q (flat_points c.args.view.now) near c.add.new.self _ c.requires.valid asks c.in_tile-near.ensures rows (ap length c.points.ensures)
