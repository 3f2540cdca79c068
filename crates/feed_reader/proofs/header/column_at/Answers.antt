use Rattle.std.proofs.Common.{◌∙◌, sym, arith}
use Rattle.feed_reader.proofs.Columns.{later_column}
use Rattle.feed_reader.proofs.header.column_at.Goals as goal

pub returns-in_default : goal.returns-in_default
returns-in_default c = c.further_column.ensures ∙ sym (later_column c.args.schema.now c.args.place (omega arith))
