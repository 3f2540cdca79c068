use Rattle.std.proofs.Common.{length, refl, ap, ◌∙◌}
use Rattle.query_syntax.specs.Tables.{table}
use Rattle.query_syntax.specs.declared.table.Table.{Table}
use Rattle.reply_json.specs.ValidTables.{is_valid_reply-table}
use Rattle.reply_json.specs.Validity.{is_valid_reply}
use Rattle.reply_json.specs.declared.reply.Reply.{Reply}
use Rattle.recount.proofs.ReplyLines.{line_of_text, same_table, table_of_rows}
use Rattle.recount.proofs.comparing.is_table.Goals as goal

pub print_reply-requires : goal.print_reply-requires
print_reply-requires c =
    let z = c.args.schema.now in
    let q = c.args.query.now in
    let h = c.args.points.now in
    ap (λ (t : Table). is_valid_reply (Reply.Table t)) (table_of_rows z q h c.in_ok-rows.rows (length h) c.in_ok-rows.ensures refl) ∙ is_valid_reply-table z q h c.requires.verb

pub returns : goal.returns
returns c t of =
    let z = c.args.schema.now in
    let q = c.args.query.now in
    let h = c.args.points.now in
    let own : Table = record { rows = c.in_ok-rows.rows; seen = length h } in
    let bytes = c.as_slice.ensures ∙ line_of_text (Reply.Table own) c.in_ok-text.text c.add.new.self c.in_ok-text.ensures.text c.in_ok-add.ensures.added in
    same_table own t (table z q h) c.as_slice.result.now c.args.line.now c.same_bytes.result (table_of_rows z q h c.in_ok-rows.rows (length h) c.in_ok-rows.ensures refl) c.in_ok-text.ensures.fits bytes of c.same_bytes.ensures
