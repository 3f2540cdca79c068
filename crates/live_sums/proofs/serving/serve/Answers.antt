use Rattle.std.proofs.Common.{Err, Ok, arith, refl, sym, ◌∙◌}
use Rattle.live_sums.proofs.SessionTurns.{answered_next, answered_none, fails_within, last_same, serves_all}
use Rattle.live_sums.proofs.RunSums.{turn_is}
use Rattle.live_sums.specs.Turns.{live_seen, stage}
use Rattle.live_sums.proofs.serving.serve.Goals as goal

pub turns-init : goal.turns-init
turns-init g c = record {
  answered = answered_none (live_seen g.A.Sink g.S.Source g.O.Sink) c.args.schema.now (stage c.args.asks.now c.args.runs.now c.args.out.now);
  few = omega arith;
  asks = refl;
  runs = refl;
}

pub turns-preserved : goal.turns-preserved
turns-preserved g c = record {
  answered =
      answered_next (live_seen g.A.Sink g.S.Source g.O.Sink) c.args.schema.now (stage c.args.asks.now c.args.runs.now c.args.out.now) (stage c.turns.asks c.turns.runs c.turns.out) (stage c.serve_line.new.asks c.serve_line.new.runs c.serve_line.new.out)
      c.turns.sums c.sums_in-sums.result c.in-Ok.went c.sums_in-sums.ensures.sums c.in-Ok.ensures.ends c.turns.invariant.answered;
  few = let few = c.sums_in-sums.ensures.few in let was = c.turns.invariant.few in omega (arith, few, was);
  asks = c.in-Ok.ensures.size.0 ∙ c.turns.invariant.asks;
  runs = c.in-Ok.ensures.size.1 ∙ c.turns.invariant.runs;
}

pub returns-in-Err-clause-serves : goal.returns-in-Err-clause-serves
returns-in-Err-clause-serves g c =
    serves_all (live_seen g.A.Sink g.S.Source g.O.Sink) c.args.schema.now (stage c.args.asks.now c.args.runs.now c.args.out.now) (stage c.turns.asks c.turns.runs c.turns.out) (stage c.serve_line.new.asks c.serve_line.new.runs c.serve_line.new.out)
    (record { sums = c.turns.sums; end = Err c.in-Err.fault }) c.turns.invariant.answered c.in-Err.ensures.ends

pub returns-in-Err-clause-place : goal.returns-in-Err-clause-place
returns-in-Err-clause-place g c k w e =
    let within = fails_within (live_seen g.A.Sink g.S.Source g.O.Sink) c.args.schema.now (stage c.turns.asks c.turns.runs c.turns.out) (stage c.serve_line.new.asks c.serve_line.new.runs c.serve_line.new.out) c.in-Err.fault k w c.in-Err.ensures.ends (turn_is c.in-Err.fault k w e) in
    let same = c.turns.invariant.runs in
    omega (arith, within, same)

pub returns-then-is_last-clause-serves : goal.returns-then-is_last-clause-serves
returns-then-is_last-clause-serves g c =
    serves_all (live_seen g.A.Sink g.S.Source g.O.Sink) c.args.schema.now (stage c.args.asks.now c.args.runs.now c.args.out.now) (stage c.turns.asks c.turns.runs c.turns.out) (stage c.serve_line.new.asks c.serve_line.new.runs c.serve_line.new.out)
    (record { sums = c.turns.sums; end = Ok tt }) c.turns.invariant.answered
    (last_same (live_seen g.A.Sink g.S.Source g.O.Sink) c.args.schema.now (stage c.turns.asks c.turns.runs c.turns.out) (stage c.serve_line.new.asks c.serve_line.new.runs c.serve_line.new.out) c.in-Ok.went (sym c.is_last.ensures ∙ c.if-is_last.true) c.in-Ok.ensures.ends)

pub returns-clause-serves : goal.returns-clause-serves
returns-clause-serves g c =
    let now = stage c.turns.asks c.turns.runs c.turns.out in
    serves_all (live_seen g.A.Sink g.S.Source g.O.Sink) c.args.schema.now (stage c.args.asks.now c.args.runs.now c.args.out.now) now now (record { sums = c.turns.sums; end = Ok tt }) c.turns.invariant.answered refl
