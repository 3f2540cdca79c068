use Rattle.std.proofs.Common.{◌∙◌, [], ap, refl, false, Ok, Err}
use Rattle.outer_io.proofs.ProgressLaws.{passes_none}
use Rattle.session_core.proofs.SoFar.{fault_is, not_write}
use Rattle.flat_session.specs.Answers.{basis_of}
use Rattle.flat_session.proofs.Gained.{puts_none}
use Rattle.flat_session.proofs.SoFar.{answered_lacking, answers_next, end_at_stop, front_at_fault, front_so_far, left_at_end, left_at_stop, put_nothing, too_much_left}
use Rattle.flat_session.proofs.Whole.{all_with}
use Rattle.flat_session.proofs.answering.answer_lines.Goals as goal

pub turns-init : goal.turns-init
turns-init g c = record {
  so_far = record { lines = []; no_quit = refl; gained = puts_none (basis_of c.args.view.now) false _; passed = passes_none g.S.Source.left g.S.Source.faults c.args.cutter.now };
  name = refl;
  sink = refl;
  source = refl;
  going = c.requires;
}

pub turns-preserved : goal.turns-preserved
turns-preserved g c =
    let of = basis_of c.args.view.now in
    let lacked = c.answer_next.new.lacked in
    let before = answered_lacking g.S.Source of c.turns.lacked lacked c.answer_next.ensures.stays.1 _ _ _ _ c.turns.invariant.so_far in
    let next = c.in-Ok-true.ensures.goes_on (ap (λ x. Ok x) c.in-Ok-true.field-0-test) in record {
      so_far = answers_next g.S.Source of lacked _ _ _ _ _ _ before next;
      name = c.in-Ok-true.ensures.stays.0 ∙ c.turns.invariant.name;
      sink = c.in-Ok-true.ensures.causes.1.quiet (λ e. cc) ∙ c.turns.invariant.sink;
      source = next.1.passed.quiet ∙ c.turns.invariant.source;
      going = next.1.going;
    }

pub returns-in-Ok-false-clause-all : goal.returns-in-Ok-false-clause-all
returns-in-Ok-false-clause-all g c =
    let of = basis_of c.args.view.now in
    let lacked = c.answer_next.new.lacked in
    let before = answered_lacking g.S.Source of c.turns.lacked lacked c.answer_next.ensures.stays.1 _ _ _ _ c.turns.invariant.so_far in
    let stop = c.in-Ok-false.ensures.stops (ap (λ x. Ok x) c.in-Ok-false.field-0-test) in
    left_at_stop g.S.Source of lacked c.args.cutter.now c.turns.cutter c.answer_next.new.cutter _ _ (put_nothing g.S.Source of lacked c.args.cutter.now c.turns.cutter _ _ _ stop.1 before) stop.0

pub returns-in-Ok-false-clause-ended : goal.returns-in-Ok-false-clause-ended
returns-in-Ok-false-clause-ended g c =
    let stop = c.in-Ok-false.ensures.stops (ap (λ x. Ok x) c.in-Ok-false.field-0-test) in
    end_at_stop g.S.Source (basis_of c.args.view.now) c.turns.lacked c.args.cutter.now c.turns.cutter c.answer_next.new.cutter _ _ c.turns.invariant.so_far stop.0

pub returns-in-Ok-false-clause-part : goal.returns-in-Ok-false-clause-part
returns-in-Ok-false-clause-part g c =
    let of = basis_of c.args.view.now in
    let before = answered_lacking g.S.Source of c.turns.lacked c.answer_next.new.lacked c.answer_next.ensures.stays.1 _ _ _ _ c.turns.invariant.so_far in
    let stop = c.in-Ok-false.ensures.stops (ap (λ x. Ok x) c.in-Ok-false.field-0-test) in
    front_so_far g.S.Source of c.answer_next.new.lacked c.args.cutter.now c.turns.cutter _ _ (put_nothing g.S.Source of c.answer_next.new.lacked c.args.cutter.now c.turns.cutter _ _ _ stop.1 before)

pub returns-in-Err-clause-part : goal.returns-in-Err-clause-part
returns-in-Err-clause-part g c =
    let of = basis_of c.args.view.now in
    let lacked = c.answer_next.new.lacked in
    let before = answered_lacking g.S.Source of c.turns.lacked lacked c.answer_next.ensures.stays.1 _ _ _ _ c.turns.invariant.so_far in
    front_at_fault g.S.Source of lacked c.args.cutter.now c.turns.cutter c.answer_next.new.cutter _ _ _ c.in-Err.fault before (λ e. c.in-Err.ensures.breaks_off (ap (λ f. Err f) e)) (c.in-Err.ensures.nothing c.in-Err.fault refl)

pub returns-in-Err-clause-too_much : goal.returns-in-Err-clause-too_much
returns-in-Err-clause-too_much g c e =
    let is = fault_is c.in-Err.fault _ e in
    too_much_left g.S.Source (basis_of c.args.view.now) c.turns.lacked c.args.cutter.now c.turns.cutter _ _ c.turns.invariant.so_far (c.in-Err.ensures.too_much (ap (λ f. Err f) is))

pub returns-in-Err-clause-all : goal.returns-in-Err-clause-all
returns-in-Err-clause-all g c =
    let of = basis_of c.args.view.now in
    let lacked = c.answer_next.new.lacked in
    all_with c.in-Err.fault _ (λ is.
    let before = answered_lacking g.S.Source of c.turns.lacked lacked c.answer_next.ensures.stays.1 _ _ _ _ c.turns.invariant.so_far in
    left_at_end g.S.Source of lacked c.args.cutter.now c.turns.cutter _ _
    (put_nothing g.S.Source of lacked c.args.cutter.now c.turns.cutter _ _ _ (c.in-Err.ensures.nothing c.in-Err.fault refl (not_write c.in-Err.fault is)) before) (c.in-Err.ensures.too_much (ap (λ f. Err f) is)).1)
