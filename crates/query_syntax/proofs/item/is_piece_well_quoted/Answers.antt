use Rattle.std.proofs.Common.{◌∙◌}
use Rattle.query_syntax.proofs.PieceQuotes.{quotes_test}
use Rattle.query_syntax.proofs.item.is_piece_well_quoted.Goals as goal

pub returns : goal.returns
returns c = c.has_no_quote.ensures ∙ quotes_test c.args.piece.now c.without_quotes.result.now c.without_quotes.ensures
