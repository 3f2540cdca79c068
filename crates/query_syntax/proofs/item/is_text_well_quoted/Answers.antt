use Rattle.std.proofs.Common.{sym, ◌∙◌}
use Rattle.query_syntax.proofs.PieceQuotes.{unquoted_is_well_quoted}
use Rattle.query_syntax.proofs.item.is_text_well_quoted.Goals as goal

pub returns-then-has_no_quote : goal.returns-then-has_no_quote
returns-then-has_no_quote c = sym (unquoted_is_well_quoted c.args.text.now (sym c.has_no_quote.ensures ∙ c.if-has_no_quote.true))
