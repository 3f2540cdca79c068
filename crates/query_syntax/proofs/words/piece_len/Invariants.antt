use Rattle.std.proofs.Common.{◌≡◌, false}
use Rattle.query_syntax.specs.Words.{pieces_from}
use Rattle.query_syntax.proofs.BytePieces.{pieces_at}
use Rattle.query_syntax.proofs.words.piece_len.Given as goal

abbrev pub invariant-loop-i : goal.invariant-loop-i
invariant-loop-i l = pieces_at l.mark false l.bytes l.i ≡ pieces_from l.mark false l.bytes
