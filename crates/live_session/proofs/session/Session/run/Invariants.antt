use Rattle.std.proofs.Common.{◌-◌}
use Rattle.live_session.specs.State.{ends_of}
use Rattle.outer_io.specs.Lines.{input_limit}
use Rattle.live_session.proofs.RunSteps.{TookSoFar}
use Rattle.live_session.proofs.SessionRuns.{BetweenTurns}
use Rattle.live_session.proofs.session.Session.run.Given as goal

abbrev pub invariant-turns : goal.invariant-turns
invariant-turns g l =
    record {
      between : BetweenTurns (ends_of g.I.Source g.O.Sink) g.V.CubeView.is_stat
          l.initial.viewer.shown l.initial.viewer.learned l.initial.viewer.last l.initial.viewer.schema l.initial.mail l.initial.self
          l.viewer.shown l.viewer.learned l.viewer.last l.viewer.schema l.mail l.self;
      took : TookSoFar g.I.Source l.initial.viewer l.initial.self.source l.initial.steps l.viewer l.self.source l.steps;
    }

abbrev pub decreases-turns : goal.decreases-turns
decreases-turns g l = input_limit - l.self.source.given
