use Rattle.std.proofs.Common.{◌∙◌, sym, drop, arith}
use Rattle.std.proofs.lemmas.List.{length-drop}
use Rattle.feed_reader.proofs.Columns.{places_length}
use Rattle.feed_reader.proofs.Parts.{after_third, row_of_record-parts, row_unless-none, row_unless-some}
use Rattle.feed_reader.proofs.row.row_of_record.Goals as goal

pub point-requires-clause-each : goal.point-requires-clause-each
point-requires-clause-each c =
    let places = c.args.places.now in
    let size = length-drop 3 places in
    let categories = rw (after_third places) at c.further_places-weight.ensures.categories in
    rw categories (places_length c.args.schema.now (drop 3 places) (omega (arith, size, c.requires, c.in-len3-up.len_at_least)))

pub returns-in-Ok : goal.returns-in-Ok
returns-in-Ok c =
    let further = rw (after_third c.args.places.now) at c.further_places-weight.ensures in
    let met = rw (c.field-x.ensures, c.field-y.ensures, c.field-time.ensures) at c.in-Ok.ensures in
    row_unless-none _ _ _ met.0 met.1
    ∙ sym (row_of_record-parts c.args.schema.now c.args.places.now c.args.fields.now _ _ (sym c.is_short.ensures ∙ c.if-is_short.false) c.in-len3-up.len_at_least further.weight further.categories)

pub returns-in-Err : goal.returns-in-Err
returns-in-Err c =
    let further = rw (after_third c.args.places.now) at c.further_places-weight.ensures in
    let met = rw (c.field-x.ensures, c.field-y.ensures, c.field-time.ensures) at c.in-Err.ensures in
    row_unless-some _ _ _ met
    ∙ sym (row_of_record-parts c.args.schema.now c.args.places.now c.args.fields.now _ _ (sym c.is_short.ensures ∙ c.if-is_short.false) c.in-len3-up.len_at_least further.weight further.categories)
