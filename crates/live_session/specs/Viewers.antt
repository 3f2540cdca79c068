-- What clauses of a session say of its viewer.
use Rattle.std.specs.Prelude.{◌≡◌, ◌⊎◌, true, false, [], ◌∷◌, Result, IfSome}
use Rattle.cube_view.specs.declared.stat.Stat.{Stat}
use Rattle.cube_view.specs.declared.view.CubeView as CubeView
use Rattle.live_session.specs.News.{AsksOfEnds, EndsView, KeepsViewer, News, news_of}
use Rattle.live_session.specs.SoFar.{HasDone, KeepsAnswers, moment}
use Rattle.live_session.specs.State.{SessionEnds, SessionState}
use Rattle.mailbox.specs.Ends.{OutEnd}
use Rattle.outer_io.specs.Lines.{Line}
use Rattle.outer_io.specs.Progress.{Passes}
use Rattle.outer_io.specs.declared.source.Source as Source
use Rattle.published_pair.specs.declared.viewer.Viewer.{Viewer}
use Rattle.query_syntax.specs.declared.query.Parsed.{Parsed}
use Rattle.query_syntax.specs.declared.query.Parsed.TheVariants.{Skip}
use Rattle.session_core.specs.Asked.{line_meaning}
use Rattle.session_core.specs.declared.fault.SessionFault.{SessionFault}

module _ {V C : Type 0} {members : CubeView.Ghosts V C} where
  -- what a viewer and a mailbox say of what was shown and told
  abbrev pub news : Viewer V C members → OutEnd → News
  news viewer mail = news_of viewer.shown viewer.learned mail

  -- the same viewer, after steps in which its lists went on
  abbrev pub IsSameViewer : Viewer V C members → Viewer V C members → Type 0
  IsSameViewer before after = KeepsViewer before.shown before.learned before.last before.schema after.shown after.learned after.last after.schema

  -- its lists are as they were
  abbrev pub ShowsSame : Viewer V C members → Viewer V C members → Type 0
  ShowsSame before after = (after.shown ≡ before.shown) × (after.learned ≡ before.learned)

  -- a viewer and an end of a mailbox as one record
  abbrev pub ends_view : Viewer V C members → OutEnd → EndsView
  ends_view viewer mail = record { shown = viewer.shown; learned = viewer.learned; last = viewer.last; schema = viewer.schema; mail = mail }

  -- What a turn asked of its viewer and its end of a mailbox
  pub record AsksViewer {I O : Type 0} (script : Source.Ghosts I) (viewer : Viewer V C members) (mail : OutEnd) (session : SessionState I O) (viewer' : Viewer V C members) (mail' : OutEnd) (session' : SessionState I O) : Type 0 where
    -- what the line means that it read
    pub asked : Parsed
    -- it read a line of that meaning; or none, and then it asked nothing and the session is at its end
    pub read : ((line : Line) × Passes script.left script.faults session.source session'.source (line ∷ []) × (asked ≡ line_meaning viewer.schema line)) ⊎ ((asked ≡ Skip) × (session'.ended ≡ true))
    -- this it asked
    pub asks : AsksOfEnds asked (ends_view viewer mail) (ends_view viewer' mail')

  module _ {I O T : Type 0} (ends : SessionEnds I O) (is_stat : Stat → Type 0) where
    -- where the viewer had learned the ended list, what was answered finally over it goes on over a turn
    abbrev pub KeepsFinals : Viewer V C members → OutEnd → OutEnd → SessionState I O → SessionState I O → Result T SessionFault → Type 0
    KeepsFinals viewer mail mail' before after result =
        IfSome viewer.last (λ w. KeepsAnswers ends viewer.schema is_stat true (moment (news_of w w mail) before) (moment (news_of w w mail') after) result)

    -- and all that a run answered is final over it
    abbrev pub DoneFinally : Viewer V C members → OutEnd → OutEnd → SessionState I O → SessionState I O → Result T SessionFault → Type 0
    DoneFinally viewer mail mail' start now result =
        IfSome viewer.last (λ w. HasDone ends viewer.schema is_stat true mail.takes start (moment (news_of w w mail') now) result)

    -- what was answered by then goes on over a turn
    abbrev pub KeepsSoFar : Viewer V C members → News → News → SessionState I O → SessionState I O → Result T SessionFault → Type 0
    KeepsSoFar viewer a b before after result = KeepsAnswers ends viewer.schema is_stat false (moment a before) (moment b after) result

    -- what a run answered
    abbrev pub DoneBy : Viewer V C members → OutEnd → News → SessionState I O → SessionState I O → Result T SessionFault → Type 0
    DoneBy viewer mail b start now result = HasDone ends viewer.schema is_stat false mail.takes start (moment b now) result
