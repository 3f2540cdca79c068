use Rattle.std.proofs.Common.{length, IfOk, ◌∙◌, ap, refl, subst}
use Rattle.live_session.specs.Answered.{Answered, IsBroken}
use Rattle.live_session.specs.News.{seen_asked}
use Rattle.live_session.specs.Saying.{IsShownTo, SaysOver}
use Rattle.live_session.specs.State.{SessionState}
use Rattle.live_session.proofs.NextReply.{answered_lack, answered_quit, answered_reply, answered_skip, broken_lack, broken_reply}
use Rattle.live_session.proofs.OneTurn.{fresh_length, of_ok, of_err}
use Rattle.live_session.proofs.SaidReplies.{says_news, seen_news}
use Rattle.live_session.proofs.session.Session.finish.Goals as goal
use Rattle.world_core.proofs.Prefixes.{IsPrefix-length}

pub returns-in-Ok-Skipped-clause-puts : goal.returns-in-Ok-Skipped-clause-puts
returns-in-Ok-Skipped-clause-puts g c =
    let viewer = c.args.viewer.now in
    let p = c.args.parsed.now in
    let shown = IsShownTo viewer in record {
      answered = λ a b news is.
          answered_skip g.O.Sink.held viewer.schema shown a b c.args.self.now c.args.self.now p c.in-Ok-Skipped.field-0 c.in-Ok-Skipped.field-0-is
          (says_news viewer p b c.in-Ok-Skipped.field-0 is
          (of_ok (SaysOver viewer.schema shown viewer.shown.points (length viewer.learned.points) p) c.args.served c.in-Ok-Skipped.field-0 c.in-Ok-Skipped.is c.requires.served.says))
          refl c.requires.open;
      broken = λ a b news is e. cc;
    }

pub returns-in-Ok-Quit-clause-puts : goal.returns-in-Ok-Quit-clause-puts
returns-in-Ok-Quit-clause-puts g c =
    let viewer = c.args.viewer.now in
    let p = c.args.parsed.now in
    let shown = IsShownTo viewer in record {
      answered = λ a b news is.
          answered_quit g.O.Sink.held viewer.schema shown a b c.args.self.now _ p c.in-Ok-Quit.field-0 c.in-Ok-Quit.field-0-is
          (says_news viewer p b c.in-Ok-Quit.field-0 is
          (of_ok (SaysOver viewer.schema shown viewer.shown.points (length viewer.learned.points) p) c.args.served c.in-Ok-Quit.field-0 c.in-Ok-Quit.is c.requires.served.says))
          (ap (λ (s : SessionState _ _). s.sink) c.self.view_is) (ap (λ (s : SessionState _ _). s.replies) c.self.view_is) (ap (λ (s : SessionState _ _). s.seens) c.self.view_is) (ap (λ (s : SessionState _ _). s.lacked) c.self.view_is) refl;
      broken = λ a b news is e. cc;
    }

pub returns-in-Ok-Reply-clause-puts : goal.returns-in-Ok-Reply-clause-puts
returns-in-Ok-Reply-clause-puts g c =
    let viewer = c.args.viewer.now in
    let p = c.args.parsed.now in
    let shown = IsShownTo viewer in
    let said = of_ok (SaysOver viewer.schema shown viewer.shown.points (length viewer.learned.points) p) c.args.served c.in-Ok-Reply.field-0 c.in-Ok-Reply.is c.requires.served.says in record {
      answered = λ a b news is.
          answered_reply g.O.Sink.held viewer.schema shown a b c.args.self.now c.put-turn.new.self p
          news.goes_on.0 (IsPrefix-length a.told b.told news.goes_on.1) (fresh_length a.told b.told b.shown p news.goes_on.1 news.fresh)
          c.put-turn.result c.in-Ok-Reply.field-0 c.as_slice.result.now c.in-Ok-Reply.line c.seen_asked-seen.result c.in-Ok-Reply.field-0-is c.as_slice.ensures
          (c.seen_asked-seen.ensures ∙ ap (λ n. seen_asked n p) c.seen.ensures ∙ seen_news viewer p b is)
          (says_news viewer p b c.in-Ok-Reply.field-0 is said)
          c.put-turn.ensures.put;
      broken = λ a b news is e.
          broken_reply g.O.Sink.held viewer.schema shown a b c.args.self.now c.put-turn.new.self p
          news.goes_on.0 (IsPrefix-length a.told b.told news.goes_on.1) (fresh_length a.told b.told b.shown p news.goes_on.1 news.fresh)
          c.in-Ok-Reply.field-0 c.as_slice.result.now c.in-Ok-Reply.line c.in-Ok-Reply.field-0-is c.as_slice.ensures
          (says_news viewer p b c.in-Ok-Reply.field-0 is said)
          (c.put-turn.ensures.write e).0 (c.put-turn.ensures.write e).1;
    }

pub returns-in-Err-clause-puts : goal.returns-in-Err-clause-puts
returns-in-Err-clause-puts g c =
    let viewer = c.args.viewer.now in
    let p = c.args.parsed.now in
    let shown = IsShownTo viewer in
    let asks = of_err _ c.args.served c.in-Err.field-0 c.in-Err.is c.requires.served.no_memory in record {
      answered = λ a b news is.
          subst (λ (s : SessionState _ _). IfOk c.put.result (Answered g.O.Sink.held viewer.schema shown a b s c.put.new.self p)) c.self-in-Err.view_is
          (answered_lack g.O.Sink.held viewer.schema shown a b _ c.put.new.self p c.put.result c.as_bytes.result.now c.no_memory_line.result.now c.as_bytes.ensures.value c.no_memory_line.ensures asks c.put.ensures.put);
      broken = λ a b news is e.
          subst (λ (s : SessionState _ _). IsBroken g.O.Sink.held viewer.schema shown a b s c.put.new.self p) c.self-in-Err.view_is
          (broken_lack g.O.Sink.held viewer.schema shown a b _ c.put.new.self p c.as_bytes.result.now c.no_memory_line.result.now c.as_bytes.ensures.value c.no_memory_line.ensures asks (c.put.ensures.write e).0 (c.put.ensures.write e).1);
    }
