use Rattle.query_syntax.proofs.PieceQuotes.{text_is_bare}
use Rattle.query_syntax.proofs.item.bare_text.Goals as goal

pub returns : goal.returns
returns c = text_is_bare c.args.piece.now c.without_quotes.result.now c.without_quotes.ensures c.requires
