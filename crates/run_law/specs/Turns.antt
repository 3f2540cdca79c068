-- What a turn of a session does is a run of steps.
use Rattle.std.specs.Prelude.{◌≡◌, ℕ, true, if◌then◌else◌, List, [], ◌∷◌, Option, Some, None, IfSome, slice_get}
use Rattle.cube_view.specs.declared.schema.Schema.{Schema}
use Rattle.live_session.specs.News.{AsksOfEnds, EndsView, asks_news}
use Rattle.published_pair.specs.declared.told.Told.{Told}
use Rattle.query_syntax.specs.declared.query.Parsed.{Parsed}
use Rattle.query_syntax.specs.declared.query.Parsed.TheVariants.{Skip, Ask, Fault}
use Rattle.session_core.specs.Asked.{asks_look, is_look}
use Rattle.run_law.specs.Moves.{IsLastIn}
use Rattle.run_law.specs.Steps.{AreRunSteps}
use Rattle.run_law.specs.Views.{RunView, SessionView}
use Rattle.run_law.specs.declared.step.Step.{Step}
use Rattle.run_law.specs.declared.step.Step.TheVariants as step

-- A run shows these ends of session s
pub record ShowsSession (run : RunView) (s : ℕ) (ends : EndsView) : Type 0 where
  -- the session
  pub session : SessionView
  pub at : slice_get run.sessions s ≡ Some session
  -- its viewer was shown and has learned the same
  pub shown : session.shown ≡ ends.shown
  pub learned : session.learned ≡ ends.learned
  -- and its end that takes is the same
  pub taken : session.taken ≡ ends.mail

-- the ends once what was taken is learned, and before a look
abbrev pub caught_up : EndsView → EndsView → EndsView
caught_up before after = record before { learned = after.learned; mail = after.mail }

-- the steps in which session s asks its mailbox and learns what it takes, if there is something
abbrev pub ask_steps : ℕ → Option Told → List Step
ask_steps s None = step.TakeMail s ∷ []
ask_steps s (Some told) = step.TakeMail s ∷ step.Learn s ∷ []

-- the same for a line, which may ask for no news
abbrev pub news_steps : ℕ → Parsed → Option Told → List Step
news_steps s p told = if asks_news p then ask_steps s told else []

-- the step in which it looks for a line, which may ask for no look
abbrev pub look_steps : ℕ → Parsed → List Step
look_steps s Skip = []
look_steps s (Ask q) = if is_look q.verb then step.Look s q ∷ [] else []
look_steps s (Fault fault word) = []

-- the steps lead from the run to one that is so
abbrev pub LeadTo : Schema → ℕ → RunView → List Step → (RunView → Type 0) → Type 0
LeadTo schema room a steps Is = (b : RunView) × AreRunSteps schema room a steps b × Is b

-- the look leads to the ends after the turn from each run that shows them caught up, and whose pair shows then what the
-- look is shown
abbrev pub LooksThen : ℕ → ℕ → Parsed → EndsView → EndsView → Type 0
LooksThen room s p before after = (a : RunView) → ShowsSession a s (caught_up before after) → (asks_look p ≡ true → after.shown ≡ a.builder.published)
    → LeadTo before.schema room a (look_steps s p) (λ b. ShowsSession b s after)

-- one turn of a session is a run of these steps: it asks its mailbox and learns what was put last, and then, perhaps
-- after steps of other ends, looks. `AsksOfEnds` is what `Session::turn` ensures of its viewer and mailbox, whatever it
-- answers; where it reads no line it is so of one that asks nothing.
abbrev pub TurnIsSteps : Type 0
TurnIsSteps = (room s : ℕ) (a : RunView) (before after : EndsView) (shows : ShowsSession a s before) (p : Parsed) (turns : AsksOfEnds p before after)
    → IfSome turns.takes.told (IsLastIn shows.session)
    → LeadTo before.schema room a (news_steps s p turns.takes.told) (λ c. ShowsSession c s (caught_up before after) × LooksThen room s p before after)
