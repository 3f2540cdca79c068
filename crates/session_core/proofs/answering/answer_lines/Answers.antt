use Rattle.std.proofs.Common.{◌∙◌, ap, refl, Ok, Err}
use Rattle.session_core.specs.Answered.{basis}
use Rattle.session_core.proofs.SoFar.{answered_none, answered_next, answered_same, part_at_stop, part_at_fault, all_at_stop, puts_at_end, no_quit_at_end, ended_at_stop, large_at_start, fault_is, not_write}
use Rattle.session_core.proofs.answering.answer_lines.Goals as goal

pub turns-init : goal.turns-init
turns-init g c = record {
  answered = answered_none (basis g.V.CubeView c.args.view.now c.args.told) g.S.Source.left g.S.Source.faults c.requires.1 c.args.cutter.now _;
  going = c.requires.0;
  source = refl;
  sink = refl;
  name = refl;
  few = c.requires.1;
}

pub turns-preserved : goal.turns-preserved
turns-preserved g c =
    let so_far = c.turns.invariant in
    let (lack, noted, next) = c.in-Ok-true.ensures.goes_on (ap (λ x. Ok x) c.in-Ok-true.field-0-test) in record {
      answered = answered_next (basis g.V.CubeView c.args.view.now c.args.told) g.S.Source.left g.S.Source.faults c.requires.1 c.turns.lacked c.answer_next.new.lacked _ _ _ _ _ _ so_far.answered (lack, noted, next);
      going = next.1.going;
      source = next.1.passed.quiet ∙ so_far.source;
      sink = c.in-Ok-true.ensures.causes.1.quiet (λ e. cc) ∙ so_far.sink;
      name = c.in-Ok-true.ensures.name ∙ so_far.name;
      few = c.requires.1;
    }

pub returns-in-Ok-false-clause-all : goal.returns-in-Ok-false-clause-all
returns-in-Ok-false-clause-all g c =
    let stop = c.in-Ok-false.ensures.stops (ap (λ x. Ok x) c.in-Ok-false.field-0-test) in
    let lacked = c.answer_next.new.lacked in
    all_at_stop (basis g.V.CubeView c.args.view.now c.args.told) lacked g.S.Source.left g.S.Source.faults c.args.cutter.now c.turns.cutter c.answer_next.new.cutter _ _
    (answered_same (basis g.V.CubeView c.args.view.now c.args.told) g.S.Source.left g.S.Source.faults c.requires.1 c.turns.lacked lacked c.args.cutter.now c.turns.cutter _ _ _ c.turns.invariant.answered stop.1) stop.0

pub returns-in-Ok-false-clause-ended : goal.returns-in-Ok-false-clause-ended
returns-in-Ok-false-clause-ended g c =
    let stop = c.in-Ok-false.ensures.stops (ap (λ x. Ok x) c.in-Ok-false.field-0-test) in
    ended_at_stop (basis g.V.CubeView c.args.view.now c.args.told) c.turns.lacked g.S.Source.left g.S.Source.faults c.args.cutter.now c.turns.cutter c.answer_next.new.cutter _ _ c.turns.invariant.answered stop.0

pub returns-in-Ok-false-clause-part : goal.returns-in-Ok-false-clause-part
returns-in-Ok-false-clause-part g c =
    let stop = c.in-Ok-false.ensures.stops (ap (λ x. Ok x) c.in-Ok-false.field-0-test) in
    part_at_stop (basis g.V.CubeView c.args.view.now c.args.told) g.S.Source.left g.S.Source.faults c.requires.1 c.turns.lacked c.answer_next.new.lacked c.args.cutter.now c.turns.cutter _ _ _ c.turns.invariant.answered stop.1

pub returns-in-Err-clause-part : goal.returns-in-Err-clause-part
returns-in-Err-clause-part g c =
    part_at_fault (basis g.V.CubeView c.args.view.now c.args.told) g.S.Source.left g.S.Source.faults c.requires.1 c.turns.lacked c.answer_next.new.lacked c.args.cutter.now c.turns.cutter c.answer_next.new.cutter _ _ _ c.in-Err.fault c.turns.invariant.answered
    (λ e. c.in-Err.ensures.breaks_off (ap (λ f. Err f) e)) (c.in-Err.ensures.nothing c.in-Err.fault refl)

pub returns-in-Err-clause-too_much : goal.returns-in-Err-clause-too_much
returns-in-Err-clause-too_much g c e =
    let is = fault_is c.in-Err.fault _ e in
    let lacked = c.answer_next.new.lacked in
    let answered = answered_same (basis g.V.CubeView c.args.view.now c.args.told) g.S.Source.left g.S.Source.faults c.requires.1 c.turns.lacked lacked c.args.cutter.now c.turns.cutter _ _ _ c.turns.invariant.answered (c.in-Err.ensures.nothing c.in-Err.fault refl (not_write c.in-Err.fault is)) in
    let stopped = c.in-Err.ensures.too_much (ap (λ f. Err f) is) in (
      puts_at_end (basis g.V.CubeView c.args.view.now c.args.told) lacked g.S.Source.left g.S.Source.faults c.args.cutter.now c.turns.cutter _ _ answered stopped.1,
      large_at_start (basis g.V.CubeView c.args.view.now c.args.told) lacked g.S.Source.left g.S.Source.faults c.args.cutter.now c.turns.cutter _ _ answered stopped.0,
      no_quit_at_end (basis g.V.CubeView c.args.view.now c.args.told) lacked g.S.Source.left g.S.Source.faults c.args.cutter.now c.turns.cutter _ _ answered stopped.1,
    )
