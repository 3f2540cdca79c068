use Rattle.std.proofs.Common.{◌∷◌, [], inl, inr, IfOk, ◌∙◌, ap, sym, subst, refl, true, false, Ok, Err, arith}
use Rattle.std.specs.Prelude.{IsTrue}
use Rattle.cube_view.specs.declared.schema.Schema.{Schema}
use Rattle.live_session.specs.Answered.{Answered, IsBroken}
use Rattle.live_session.specs.Bounds.{TakesSteps}
use Rattle.live_session.specs.News.{news_of}
use Rattle.live_session.specs.Saying.{IsNewsOf, IsShownTo}
use Rattle.live_session.specs.State.{ends_of}
use Rattle.live_session.specs.declared.turn.Turn.{Turn}
use Rattle.live_session.proofs.OneTurn.{asks_no_line, end_of, faults_after, has_news, if_some, known_some, may_ask, of_fault, prefix-same, reads_of, same_fault, shown_numbers, whole_news}
use Rattle.live_session.proofs.SoFarLaws.{done_turn, goes_final, goes_within}
use Rattle.outer_io.specs.Progress.{Passes}
use Rattle.query_syntax.specs.Meaning.{asks_valid}
use Rattle.query_syntax.specs.declared.query.Parsed.{Parsed}
use Rattle.session_core.specs.Asked.{line_meaning}
use Rattle.session_core.specs.Turns.{PassesLine}
use Rattle.session_core.proofs.SoFar.{fault_is}
use Rattle.live_session.proofs.TurnLaws.{Keeps, breaks_off, turned_answered, turned_end, turned_ended}
use Rattle.live_session.proofs.session.Session.turn.Goals as goal

pub returns-then-self-clause-turned : goal.returns-then-self-clause-turned
returns-then-self-clause-turned g c = record {
  turned = turned_ended (ends_of g.I.Source g.O.Sink) c.args.viewer.schema _ _ _ c.args.self.now refl (ap (λ s. s.ended) (sym c.self.view_is) ∙ c.if-self.true);
  broken = λ e. cc;
}

pub returns-then-self-clause-viewer : goal.returns-then-self-clause-viewer
returns-then-self-clause-viewer g c = asks_no_line g.I.Source c.args.viewer c.args.mail.now c.args.self.now c.args.self.now (ap (λ s. s.ended) (sym c.self.view_is) ∙ c.if-self.true)

pub returns-in-Ok-Some-clause-turned : goal.returns-in-Ok-Some-clause-turned
returns-in-Ok-Some-clause-turned g c =
    let viewer = c.answer_line-viewer.result.0 in
    let line = c.answer_line-viewer.ensures in
    let read = c.in-Ok-Some.ensures.reads in
    let A = IsShownTo viewer in
    let a = news_of c.args.viewer.shown c.args.viewer.learned c.args.mail.now in
    let b = news_of viewer.shown viewer.learned c.answer_line-viewer.new.mail in
    let news = has_news c.in-Ok-Some.parsed c.args.viewer.shown c.args.viewer.learned c.args.viewer.last c.args.mail.now viewer.shown viewer.learned c.answer_line-viewer.new.mail line.goes in
    let reads = reads_of g.I.Source.left g.I.Source.faults g.O.Sink.held c.args.viewer.schema c.schema.result.now c.args.self.now c.read_next.new.self c.in-Ok-Some.field-0 c.in-Ok-Some.parsed c.schema.ensures c.in-Ok-Some.field-0-is read.asked in
    let keeps : Keeps c.args.self.now c.read_next.new.self = (c.read_next.ensures.same.0, c.read_next.ensures.same.1, c.read_next.ensures.same.2, read.lacked) in record {
      turned =
          turned_answered (ends_of g.I.Source g.O.Sink) c.args.viewer.schema A a b c.finish-turn.result c.args.self.now c.read_next.new.self c.finish-turn.new.self c.in-Ok-Some.parsed reads keeps c.finish-turn.ensures.source news
          (subst (λ (z : Schema). IfOk c.finish-turn.result (Answered g.O.Sink.held z A a b c.read_next.new.self c.finish-turn.new.self c.in-Ok-Some.parsed)) line.same.1
          (c.finish-turn.ensures.puts.answered a b news (λ look. refl, refl)));
      broken = λ e.
          let faulty = of_fault _ c.finish-turn.result _ c.finish-turn.ensures.faults.ended e in
          breaks_off (ends_of g.I.Source g.O.Sink) c.args.viewer.schema A a b c.args.self.now c.read_next.new.self c.finish-turn.new.self c.in-Ok-Some.parsed reads keeps c.finish-turn.ensures.source news (faulty.1, faulty.2)
          (subst (λ (z : Schema). IsBroken g.O.Sink.held z A a b c.read_next.new.self c.finish-turn.new.self c.in-Ok-Some.parsed) line.same.1
          (c.finish-turn.ensures.puts.broken a b news (λ look. refl, refl) e));
    }

pub returns-in-Ok-Some-clause-faults : goal.returns-in-Ok-Some-clause-faults
returns-in-Ok-Some-clause-faults g c = (
  faults_after g.I.Source.left g.I.Source.faults g.O.Sink.held g.O.Sink.faults c.args.self.now c.read_next.new.self c.finish-turn.new.self c.finish-turn.result
      c.read_next.ensures.same.0 c.read_next.ensures.same.1 c.read_next.ensures.same.2 c.in-Ok-Some.ensures.reads.lacked c.finish-turn.ensures.source
      (c.in-Ok-Some.ensures.faults.read.quiet (λ e. cc)) c.finish-turn.ensures.others.0 c.finish-turn.ensures.others.1 c.finish-turn.ensures.faults,
  c.finish-turn.ensures.name ∙ ap g.O.Sink.name c.read_next.ensures.same.0,
)

pub returns-in-Ok-Some-clause-so_far : goal.returns-in-Ok-Some-clause-so_far
returns-in-Ok-Some-clause-so_far g c start taken s =
    let viewer = c.answer_line-viewer.result.0 in
    let line = c.answer_line-viewer.ensures in
    done_turn (ends_of g.I.Source g.O.Sink) c.args.viewer.schema g.V.CubeView.is_stat taken false
    (IsShownTo viewer)
    (shown_numbers viewer g.met.V.CubeView.structure)
    (news_of c.args.viewer.shown c.args.viewer.learned c.args.mail.now) (news_of viewer.shown viewer.learned c.answer_line-viewer.new.mail) start c.args.self.now c.finish-turn.new.self
    (goes_within c.args.viewer.schema g.V.CubeView.is_stat (news_of c.args.viewer.shown c.args.viewer.learned c.args.mail.now) (news_of viewer.shown viewer.learned c.answer_line-viewer.new.mail) line.goes.goes.seen line.goes.goes.told)
    c.finish-turn.result (ap (λ s. s.ended) (sym c.self.view_is) ∙ c.if-self.false) line.goes.mail.rises s
    (returns-in-Ok-Some-clause-turned g c).turned (returns-in-Ok-Some-clause-turned g c).broken (returns-in-Ok-Some-clause-faults g c).0

pub returns-in-Ok-None-clause-turned : goal.returns-in-Ok-None-clause-turned
returns-in-Ok-None-clause-turned g c =
    let ends = c.in-Ok-None.ensures.reads.end (ap (λ o. Ok o) c.in-Ok-None.field-0-is) in record {
      turned = turned_end (ends_of g.I.Source g.O.Sink) c.args.viewer.schema _ _ _ c.args.self.now c.read_next.new.self refl
          (end_of g.I.Source.left g.I.Source.faults g.O.Sink.held c.schema.result.now c.args.self.now c.read_next.new.self c.in-Ok-None.field-0 c.in-Ok-None.field-0-is c.in-Ok-None.ensures.reads.asked)
          ends.1 ends.0 c.read_next.ensures.same.0 c.read_next.ensures.same.1 c.read_next.ensures.same.2 c.in-Ok-None.ensures.reads.lacked;
      broken = λ e. cc;
    }

pub returns-in-Ok-None-clause-viewer : goal.returns-in-Ok-None-clause-viewer
returns-in-Ok-None-clause-viewer g c = asks_no_line g.I.Source c.args.viewer c.args.mail.now c.args.self.now c.read_next.new.self (c.in-Ok-None.ensures.reads.end (ap (λ o. Ok o) c.in-Ok-None.field-0-is)).0

pub returns-in-Err-clause-viewer : goal.returns-in-Err-clause-viewer
returns-in-Err-clause-viewer g c = asks_no_line g.I.Source c.args.viewer c.args.mail.now c.args.self.now c.read_next.new.self c.in-Err.ensures.faults.ended.0

pub returns-in-Err-clause-turned : goal.returns-in-Err-clause-turned
returns-in-Err-clause-turned g c = record {
  turned = tt;
  broken = λ e. absurd (c.in-Err.ensures.no_write (ap (λ f. Err f) (fault_is {T = Turn} c.in-Err.fault _ e)));
}

pub returns-in-Err-clause-so_far : goal.returns-in-Err-clause-so_far
returns-in-Err-clause-so_far g c start taken s =
    let news = news_of c.args.viewer.shown c.args.viewer.learned c.args.mail.now in
    done_turn (ends_of g.I.Source g.O.Sink) c.args.viewer.schema g.V.CubeView.is_stat taken false g.V.CubeView.is_stat (λ stat m. m) news news start c.args.self.now c.read_next.new.self
    (goes_within c.args.viewer.schema g.V.CubeView.is_stat news news (prefix-same c.args.viewer.shown.points c.args.viewer.shown.points refl) (prefix-same c.args.viewer.learned.points c.args.viewer.learned.points refl))
    (Err c.in-Err.fault) (ap (λ s. s.ended) (sym c.self.view_is) ∙ c.if-self.false) (omega arith) s tt
    (λ e. absurd (c.in-Err.ensures.no_write (ap (λ f. Err f) (fault_is {T = Turn} c.in-Err.fault _ e))))
    (same_fault g.I.Source.left g.I.Source.faults g.O.Sink.held g.O.Sink.faults c.args.self.now c.read_next.new.self c.in-Err.fault c.in-Err.ensures.faults)

pub returns-in-Ok-Some-clause-finals : goal.returns-in-Ok-Some-clause-finals
returns-in-Ok-Some-clause-finals g c =
    if_some c.args.viewer.last (λ w last start taken s.
    let viewer = c.answer_line-viewer.result.0 in
    let z = c.args.viewer.schema in
    let p = c.in-Ok-Some.parsed in
    let line = c.answer_line-viewer.ensures in
    let A = IsShownTo viewer in
    let a = news_of w w c.args.mail.now in
    let b = news_of w w c.answer_line-viewer.new.mail in
    let news = whole_news p w c.args.mail.now c.answer_line-viewer.new.mail line.goes.mail.asked in
    let reads = reads_of g.I.Source.left g.I.Source.faults g.O.Sink.held z c.schema.result.now c.args.self.now c.read_next.new.self c.in-Ok-Some.field-0 p c.schema.ensures c.in-Ok-Some.field-0-is c.in-Ok-Some.ensures.reads.asked in
    let is : IsNewsOf viewer p b = (λ look. known_some _ c.args.viewer.last w last (line.goes.look look).1, (known_some _ viewer.last w (line.same.0 ∙ last) viewer.within).1) in
    done_turn (ends_of g.I.Source g.O.Sink) z g.V.CubeView.is_stat taken true A
    (shown_numbers viewer g.met.V.CubeView.structure)
    a b start c.args.self.now c.finish-turn.new.self (goes_final z g.V.CubeView.is_stat w c.args.mail.now c.answer_line-viewer.new.mail)
    c.finish-turn.result (ap (λ s. s.ended) (sym c.self.view_is) ∙ c.if-self.false) line.goes.mail.rises s
    (turned_answered (ends_of g.I.Source g.O.Sink) z A a b c.finish-turn.result c.args.self.now c.read_next.new.self c.finish-turn.new.self p reads
    (c.read_next.ensures.same.0, c.read_next.ensures.same.1, c.read_next.ensures.same.2, c.in-Ok-Some.ensures.reads.lacked) c.finish-turn.ensures.source news
    (subst (λ (y : Schema). IfOk c.finish-turn.result (Answered g.O.Sink.held y A a b c.read_next.new.self c.finish-turn.new.self p)) line.same.1
    (c.finish-turn.ensures.puts.answered a b news is)))
    (λ e.
    let faulty = of_fault _ c.finish-turn.result _ c.finish-turn.ensures.faults.ended e in
    breaks_off (ends_of g.I.Source g.O.Sink) z A a b c.args.self.now c.read_next.new.self c.finish-turn.new.self p reads
    (c.read_next.ensures.same.0, c.read_next.ensures.same.1, c.read_next.ensures.same.2, c.in-Ok-Some.ensures.reads.lacked) c.finish-turn.ensures.source news (faulty.1, faulty.2)
    (subst (λ (y : Schema). IsBroken g.O.Sink.held y A a b c.read_next.new.self c.finish-turn.new.self p) line.same.1
    (c.finish-turn.ensures.puts.broken a b news is e)))
    (returns-in-Ok-Some-clause-faults g c).0)

pub returns-in-Err-clause-finals : goal.returns-in-Err-clause-finals
returns-in-Err-clause-finals g c =
    if_some c.args.viewer.last (λ w last start taken s.
    let news = news_of w w c.args.mail.now in
    done_turn (ends_of g.I.Source g.O.Sink) c.args.viewer.schema g.V.CubeView.is_stat taken true g.V.CubeView.is_stat (λ stat m. m) news news start c.args.self.now c.read_next.new.self
    (goes_final c.args.viewer.schema g.V.CubeView.is_stat w c.args.mail.now c.args.mail.now)
    (Err c.in-Err.fault) (ap (λ s. s.ended) (sym c.self.view_is) ∙ c.if-self.false) (omega arith) s tt
    (λ e. absurd (c.in-Err.ensures.no_write (ap (λ f. Err f) (fault_is {T = Turn} c.in-Err.fault _ e))))
    (same_fault g.I.Source.left g.I.Source.faults g.O.Sink.held g.O.Sink.faults c.args.self.now c.read_next.new.self c.in-Err.fault c.in-Err.ensures.faults))

pub returns-in-Ok-Some-clause-costs : goal.returns-in-Ok-Some-clause-costs
returns-in-Ok-Some-clause-costs g c =
    let viewer = c.answer_line-viewer.result.0 in
    let line = c.answer_line-viewer.ensures in
    let p = c.in-Ok-Some.parsed in
    let reads = reads_of g.I.Source.left g.I.Source.faults g.O.Sink.held c.args.viewer.schema c.schema.result.now c.args.self.now c.read_next.new.self c.in-Ok-Some.field-0 p c.schema.ensures c.in-Ok-Some.field-0-is c.in-Ok-Some.ensures.reads.asked in
    record {
      mail = may_ask p c.args.viewer.shown c.args.viewer.learned c.args.viewer.last c.args.mail.now viewer.shown viewer.learned c.answer_line-viewer.new.mail line.goes;
      steps = inr (
        reads.0,
        subst (λ (z : Schema). PassesLine g.I.Source.left g.I.Source.faults z c.args.self.now.source c.finish-turn.new.self.source reads.0) (sym line.same.1) (subst (λ s. PassesLine g.I.Source.left g.I.Source.faults c.args.viewer.schema c.args.self.now.source s reads.0) (sym c.finish-turn.ensures.source) reads.1),
        subst (λ (z : Schema). TakesSteps g.V.CubeView viewer.shown_view.value z viewer.shown.points (line_meaning z reads.0) c.args.steps.now c.answer_line-viewer.new.steps) (sym line.same.1) (subst (λ (m : Parsed). TakesSteps g.V.CubeView viewer.shown_view.value c.args.viewer.schema viewer.shown.points m c.args.steps.now c.answer_line-viewer.new.steps) reads.2 line.steps),
      );
    }

pub returns-in-Ok-Some-clause-viewer : goal.returns-in-Ok-Some-clause-viewer
returns-in-Ok-Some-clause-viewer g c =
    let line = c.answer_line-viewer.ensures in
    let p = c.in-Ok-Some.parsed in
    let read = c.in-Ok-Some.ensures.reads in
    let reads = reads_of g.I.Source.left g.I.Source.faults g.O.Sink.held c.args.viewer.schema c.schema.result.now c.args.self.now c.read_next.new.self c.in-Ok-Some.field-0 p c.schema.ensures c.in-Ok-Some.field-0-is read.asked in (
      record { goes = line.goes.goes; same_last = line.same.0; same_schema = line.same.1 },
      record {
        asked = p;
        read = inl (reads.0, subst (λ s. Passes g.I.Source.left g.I.Source.faults c.args.self.now.source s (reads.0 ∷ [])) (sym c.finish-turn.ensures.source) reads.1.passed, reads.2);
        asks = record {
          valid = subst (λ (z : Schema). IsTrue (asks_valid z p)) c.schema.ensures (known_some (λ (q : Parsed). IsTrue (asks_valid c.schema.result.now q)) c.in-Ok-Some.field-0 p c.in-Ok-Some.field-0-is read.valid);
          goes = line.goes;
          takes = line.takes;
        };
      },
    )
