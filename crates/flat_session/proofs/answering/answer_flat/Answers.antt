use Rattle.std.proofs.Common.{false}
use Rattle.outer_io.specs.Lines.{lines}
use Rattle.outer_io.proofs.ProgressLaws.{of_lines}
use Rattle.session_core.proofs.WholeScripts.{script_refused, script_taken, taken, told_by}
use Rattle.flat_session.specs.Answers.{basis_of}
use Rattle.flat_session.specs.Putting.{PutsLineAnswers, PutsLinesFront}
use Rattle.flat_session.proofs.SoFar.{front_none}
use Rattle.flat_session.proofs.Whole.{all_of_end, all_of_too_much}
use Rattle.flat_session.proofs.answering.answer_flat.Goals as goal

pub returns-in-Ok-clause-all : goal.returns-in-Ok-clause-all
returns-in-Ok-clause-all g c =
    let of = basis_of c.args.view.now in
    let it = c.answer_lines-answered in
    taken it.result.end _ _ _
    (λ all ended. told_by (g.S.Source.left c.args.source) _ (λ script told. (
      of_lines g.S.Source.left c.args.source c.in-Ok.cutter script (PutsLineAnswers of it.result.lacked (g.O.Sink.held c.args.out.now) (g.O.Sink.held it.new.out)) c.in-Ok.ensures.made told all,
      script_taken g.S.Source.left c.args.source c.in-Ok.cutter script of.schema c.in-Ok.ensures.made told ended,
    )))
    (all_of_end it.result.end _ it.ensures.all) it.ensures.ended

pub returns-in-Ok-clause-too_much : goal.returns-in-Ok-clause-too_much
returns-in-Ok-clause-too_much g c e =
    let of = basis_of c.args.view.now in
    let it = c.answer_lines-answered in
    let stopped = it.ensures.too_much e in
    told_by (g.S.Source.left c.args.source) _ (λ script told. (
      of_lines g.S.Source.left c.args.source c.in-Ok.cutter script (PutsLineAnswers of it.result.lacked (g.O.Sink.held c.args.out.now) (g.O.Sink.held it.new.out)) c.in-Ok.ensures.made told (all_of_too_much it.result.end _ e it.ensures.all),
      script_refused g.S.Source.left c.args.source c.in-Ok.cutter script of.schema c.in-Ok.ensures.made told stopped.0 stopped.1,
    ))

pub returns-in-Ok-clause-part : goal.returns-in-Ok-clause-part
returns-in-Ok-clause-part g c =
    let it = c.answer_lines-answered in
    told_by (g.S.Source.left c.args.source) _ (λ script told.
    of_lines g.S.Source.left c.args.source c.in-Ok.cutter script (PutsLinesFront (basis_of c.args.view.now) it.result.lacked (g.O.Sink.held c.args.out.now) (g.O.Sink.held it.new.out)) c.in-Ok.ensures.made told it.ensures.part)

pub returns-in-Err-clause-part : goal.returns-in-Err-clause-part
returns-in-Err-clause-part g c = told_by (g.S.Source.left c.args.source) _ (λ script told. front_none g.S.Source (basis_of c.args.view.now) _ (g.O.Sink.held c.args.out.now) (lines script))
