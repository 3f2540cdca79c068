use Rattle.outer_io.specs.Lines.{lines}
use Rattle.outer_io.proofs.ProgressLaws.{of_lines}
use Rattle.session_core.specs.Answered.{PutsAll, PutsFront, basis}
use Rattle.session_core.proofs.SoFar.{part_none}
use Rattle.session_core.proofs.WholeScripts.{taken, told_by, script_taken, script_refused}
use Rattle.session_core.proofs.answering.answer_script.Goals as goal

pub returns-in-Ok-clause-all : goal.returns-in-Ok-clause-all
returns-in-Ok-clause-all g c =
    taken c.answer_lines-answered.result.end _ _ _
    (λ all ended. told_by (g.S.Source.left c.args.source) _ (λ script told. (
      of_lines g.S.Source.left c.args.source c.in-Ok.cutter script (PutsAll (basis g.V.CubeView c.args.view.now c.args.told) c.answer_lines-answered.result.lacked (g.O.Sink.held c.args.out.now) (g.O.Sink.held c.answer_lines-answered.new.out)) c.in-Ok.ensures.made told all,
      script_taken g.S.Source.left c.args.source c.in-Ok.cutter script (g.V.CubeView.schema c.args.view.now) c.in-Ok.ensures.made told ended,
    )))
    c.answer_lines-answered.ensures.all c.answer_lines-answered.ensures.ended

pub returns-in-Ok-clause-part : goal.returns-in-Ok-clause-part
returns-in-Ok-clause-part g c =
    told_by (g.S.Source.left c.args.source) _ (λ script told.
    of_lines g.S.Source.left c.args.source c.in-Ok.cutter script (PutsFront (basis g.V.CubeView c.args.view.now c.args.told) c.answer_lines-answered.result.lacked (g.O.Sink.held c.args.out.now) (g.O.Sink.held c.answer_lines-answered.new.out)) c.in-Ok.ensures.made told c.answer_lines-answered.ensures.part)

pub returns-in-Ok-clause-too_much : goal.returns-in-Ok-clause-too_much
returns-in-Ok-clause-too_much g c e =
    let stopped = c.answer_lines-answered.ensures.too_much e in
    told_by (g.S.Source.left c.args.source) _ (λ script told. (
      of_lines g.S.Source.left c.args.source c.in-Ok.cutter script (PutsAll (basis g.V.CubeView c.args.view.now c.args.told) c.answer_lines-answered.result.lacked (g.O.Sink.held c.args.out.now) (g.O.Sink.held c.answer_lines-answered.new.out)) c.in-Ok.ensures.made told stopped.0,
      script_refused g.S.Source.left c.args.source c.in-Ok.cutter script (g.V.CubeView.schema c.args.view.now) c.in-Ok.ensures.made told stopped.1 stopped.2,
    ))

pub returns-in-Err-clause-part : goal.returns-in-Err-clause-part
returns-in-Err-clause-part g c =
    told_by (g.S.Source.left c.args.source) _ (λ script told. part_none (basis g.V.CubeView c.args.view.now c.args.told) g.S.Source.left g.S.Source.faults c.requires (g.O.Sink.held c.args.out.now) (lines script))
