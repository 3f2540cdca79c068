use Rattle.std.proofs.Common.{◌∷◌, [], ◌++◌, if◌then◌else◌, Bool, Some, None, Ok, sym, ap, ◌∙◌, subst}
use Rattle.session_core.specs.Turns.{AsksNext}
use Rattle.recount.proofs.ScriptLines.{asked_then-added, asked_on, asked_last}
use Rattle.recount.proofs.asked.asked_of_lines.Goals as goal

pub returns-then-is_end-clause-asked : goal.returns-then-is_end-clause-asked
returns-then-is_end-clause-asked g c =
    let p = c.next_asked.new.parsed in
    let next = subst (λ (b : Bool). AsksNext g.S.Source.left g.S.Source.faults c.args.schema.now c.lines.cutter c.next_asked.new.cutter (if b then Some p else None)) c.if-not-branch.false c.in_ok-next_asked.ensures.asked in
    asked_last g.S.Source.left g.S.Source.faults c.args.schema.now c.args.cutter.now c.lines.cutter c.next_asked.new.cutter c.lines.asked p next.0 c.lines.invariant next.1 next.2 (sym c.is_end.ensures ∙ c.if-is_end.true)

pub lines-preserved : goal.lines-preserved
lines-preserved g c =
    let p = c.next_asked.new.parsed in
    let next = subst (λ (b : Bool). AsksNext g.S.Source.left g.S.Source.faults c.args.schema.now c.lines.cutter c.next_asked.new.cutter (if b then Some p else None)) c.if-not-branch.false c.in_ok-next_asked.ensures.asked in
    let valid = c.in_ok-next_asked.ensures.valid (ap (λ (b : Bool). Ok b) c.if-not-branch.false) in
    let goes = sym c.is_end.ensures ∙ c.if-is_end.false in
    let ps = c.lines.asked in
    asked_on g.S.Source.left g.S.Source.faults c.args.schema.now c.args.cutter.now c.lines.cutter c.next_asked.new.cutter ps _ p next.0 c.lines.invariant next.1 next.2 valid goes
    (c.in-Ok.ensures ∙ ap (λ (b : Bool). if b then ps ++ p ∷ [] else ps) c.asks_reply-is_wanted.ensures ∙ asked_then-added p ps goes)
