use Rattle.std.proofs.Common.{◌≡◌, ◌∷◌, [], sym, ◌∙◌}
use Rattle.query_syntax.specs.Words.{cut_pieces, words, space}
use Rattle.query_syntax.proofs.BytePieces.{words-more, words-skip, words-last}
use Rattle.query_syntax.proofs.words.next_word.Goals as goal

pub returns-then-not-is_empty-clause-some : goal.returns-then-not-is_empty-clause-some
returns-then-not-is_empty-clause-some c =
    let cut : cut_pieces space c.loop-after.rest.now ≡ c.next_piece.result.0.now ∷ cut_pieces space c.in-Some.after.now = rw c.in-Some.is at c.next_piece.ensures.pieces in
    sym c.loop-after.invariant ∙ words-more c.loop-after.rest.now c.next_piece.result.0.now c.in-Some.after.now _ cut c.is_empty.ensures c.if-not-is_empty.true

pub loop-after-preserved : goal.loop-after-preserved
loop-after-preserved c =
    let cut : cut_pieces space c.loop-after.rest.now ≡ c.next_piece.result.0.now ∷ cut_pieces space c.in-Some.after.now = rw c.in-Some.is at c.next_piece.ensures.pieces in
    sym (words-skip c.loop-after.rest.now c.next_piece.result.0.now c.in-Some.after.now _ cut c.is_empty.ensures c.if-not-is_empty.false) ∙ c.loop-after.invariant

pub returns-in-None-clause-some : goal.returns-in-None-clause-some
returns-in-None-clause-some c =
    let cut : cut_pieces space c.loop-after.rest.now ≡ c.next_piece.result.0.now ∷ [] = rw c.in-None.is at c.next_piece.ensures.pieces in
    let e : words c.args.line.now ≡ _ = sym c.loop-after.invariant ∙ words-last c.loop-after.rest.now c.next_piece.result.0.now cut in
    rw e c.last_word.ensures.some

pub returns-in-None-clause-none : goal.returns-in-None-clause-none
returns-in-None-clause-none c =
    let cut : cut_pieces space c.loop-after.rest.now ≡ c.next_piece.result.0.now ∷ [] = rw c.in-None.is at c.next_piece.ensures.pieces in
    let e : words c.args.line.now ≡ _ = sym c.loop-after.invariant ∙ words-last c.loop-after.rest.now c.next_piece.result.0.now cut in
    rw e c.last_word.ensures.none
