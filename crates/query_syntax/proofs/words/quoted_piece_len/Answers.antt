use Rattle.std.proofs.Common.{◌≡◌, ◌+◌, ℕ, Bool, false, get_or, inl, inr, sym, ◌∙◌, ap, arith}
use Rattle.query_syntax.specs.Words.{cut_pieces, cuts, quoted_after}
use Rattle.query_syntax.proofs.BytePieces.{pieces_at, is_cut, is_uncut, toggles_at, keeps_at, pieces_at-start, pieces_at-step, pieces_at-cut, pieces_at-end}
use Rattle.query_syntax.proofs.words.quoted_piece_len.Goals as goal
use Rattle.query_syntax.proofs.words.quoted_piece_len.Goals.{then-b-eq34, else-b-eq34}

pub loop-i-init : goal.loop-i-init
loop-i-init c = pieces_at-start c.args.mark _ c.args.bytes.now

pub loop-i-preserved : goal.loop-i-preserved
loop-i-preserved c =
    let b : ℕ = get_or c.args.bytes.now c.loop-i.i 0 in
    let uncut : cuts c.args.mark c.loop-i.quoted b ≡ false = is_uncut c.args.mark b c.loop-i.quoted (elim c.else-b-mark.either [ inl h ↦ inl h | inr h ↦ inr h ]) in
    let toggled : quoted_after c.loop-i.quoted b ≡ c.if-b-eq34.quoted = elim c.if-b-eq34.branch [ then-b-eq34 w ↦ toggles_at b c.loop-i.quoted w.if-b-eq34.true ∙ sym w.quoted-is | else-b-eq34 w ↦ keeps_at b c.loop-i.quoted w.if-b-eq34.false ∙ sym w.quoted-is ] in
    ap (λ (q : Bool). pieces_at c.args.mark q c.args.bytes.now (c.loop-i.i + 1)) (sym toggled)
    ∙ sym (pieces_at-step c.args.mark c.loop-i.quoted c.args.bytes.now c.loop-i.i (omega arith) uncut) ∙ c.loop-i.invariant

pub returns-then-not-quoted-clause-cut : goal.returns-then-not-quoted-clause-cut
unfolding cut_pieces
returns-then-not-quoted-clause-cut c = λ h.
    sym c.loop-i.invariant ∙ pieces_at-cut c.args.mark c.loop-i.quoted c.args.bytes.now c.loop-i.i h (is_cut c.args.mark (get_or c.args.bytes.now c.loop-i.i 0) c.loop-i.quoted c.if-b-mark.true c.if-not-quoted.true)

pub returns-clause-whole : goal.returns-clause-whole
unfolding cut_pieces
returns-clause-whole c = λ _. sym c.loop-i.invariant ∙ pieces_at-end c.args.mark c.loop-i.quoted c.args.bytes.now c.loop-i.i (omega arith)
