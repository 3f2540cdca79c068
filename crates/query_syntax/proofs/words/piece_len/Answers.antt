use Rattle.std.proofs.Common.{◌≡◌, ◌≢◌, ◌+◌, ℕ, Bool, false, get_or, inr, sym, refl, ◌∙◌, ap, arith}
use Rattle.query_syntax.specs.Words.{quote, cut_pieces, cuts, quoted_after}
use Rattle.query_syntax.proofs.BytePieces.{pieces_at, is_cut, is_uncut, keeps_at, pieces_at-start, pieces_at-step, pieces_at-cut, pieces_at-end}
use Rattle.query_syntax.proofs.words.piece_len.Goals as goal
use Rattle.query_syntax.proofs.words.piece_len.Goals.{then-may_end+else-b-mark+else-b-eq34, else-may_end}

pub loop-i-init : goal.loop-i-init
loop-i-init c = pieces_at-start c.args.mark false c.args.bytes.now

pub loop-i-preserved : goal.loop-i-preserved
loop-i-preserved c =
    let bytes = c.args.bytes.now in
    let b : ℕ = get_or bytes c.loop-i.i 0 in
    let passed : (b ≢ c.args.mark) × (b ≢ quote) = elim c.if-may_end.branch [ then-may_end+else-b-mark+else-b-eq34 w ↦ (w.if-b-mark.false, w.if-b-eq34.false) | else-may_end w ↦ c.may_end.ensures w.if-may_end.false ] in
    let uncut : cuts c.args.mark false b ≡ false = is_uncut c.args.mark b false (inr passed.0) in
    let unquoted : quoted_after false b ≡ false = keeps_at b false passed.1 in
    ap (λ (q : Bool). pieces_at c.args.mark q bytes (c.loop-i.i + 1)) (sym unquoted)
    ∙ sym (pieces_at-step c.args.mark false bytes c.loop-i.i (omega arith) uncut) ∙ c.loop-i.invariant

pub returns-then-b-mark-clause-cut : goal.returns-then-b-mark-clause-cut
unfolding cut_pieces
returns-then-b-mark-clause-cut c = λ h.
    sym c.loop-i.invariant ∙ pieces_at-cut c.args.mark false c.args.bytes.now c.loop-i.i h (is_cut c.args.mark (get_or c.args.bytes.now c.loop-i.i 0) false c.if-b-mark.true refl)

pub returns-clause-whole : goal.returns-clause-whole
unfolding cut_pieces
returns-clause-whole c = λ _. sym c.loop-i.invariant ∙ pieces_at-end c.args.mark false c.args.bytes.now c.loop-i.i (omega arith)
