use Rattle.std.proofs.Common.{ap, ◌∙◌}
use Rattle.flat_view.specs.Kept.{flat_points, flat_schema}
use Rattle.query_syntax.specs.declared.table.Table.{Table}
use Rattle.reply_json.specs.ValidTables.{is_valid_reply-table}
use Rattle.reply_json.specs.Validity.{is_valid_reply}
use Rattle.reply_json.specs.declared.reply.Reply.{Reply}
use Rattle.flat_session.proofs.serving.serve_table.Goals as goal

pub print_reply_in-requires : goal.print_reply_in-requires
print_reply_in-requires g c = ap (λ (t : Table). is_valid_reply (Reply.Table t)) c.in_ok-table.ensures ∙ is_valid_reply-table (flat_schema c.args.view.now) c.args.query.now (flat_points c.args.view.now) c.requires.verb
