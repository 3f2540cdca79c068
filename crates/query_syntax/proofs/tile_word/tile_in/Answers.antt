use Rattle.std.proofs.Common.{◌≡◌, ◌∷◌, sym}
use Rattle.query_syntax.specs.Tiles.{tile_value}
use Rattle.query_syntax.specs.Words.{cut_pieces, slash}
use Rattle.query_syntax.proofs.BytePieces.{pieces-some, too_many_pieces}
use Rattle.query_syntax.proofs.tile_word.tile_in.Goals as goal

pub returns-in-Some-clause-value : goal.returns-in-Some-clause-value
unfolding tile_value
returns-in-Some-clause-value c =
    let first : cut_pieces slash c.args.word.now ≡ c.next_piece.result.0.now ∷ cut_pieces slash c.in_ok-rest.field-0.now = rw c.in_ok-rest.was at c.next_piece.ensures.pieces in
    let second : cut_pieces slash c.in_ok-rest.field-0.now ≡ c.next_piece-2.result.0.now ∷ cut_pieces slash c.in_ok-rest-2.field-0.now = rw c.in_ok-rest-2.was at c.next_piece-2.ensures.pieces in
    let third : cut_pieces slash c.in_ok-rest-2.field-0.now ≡ c.next_piece-3.result.0.now ∷ cut_pieces slash c.in-Some.field-0.now = rw c.in-Some.is at c.next_piece-3.ensures.pieces in
    rw (first, second, third) (sym (too_many_pieces c.args.depth _ _ _ _ (pieces-some slash c.in-Some.field-0.now)))
