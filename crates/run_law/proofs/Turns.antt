-- What a turn of a session does is a run of steps.
use Rattle.std.proofs.Common.{◌≡◌, ℕ, Bool, true, false, if◌then◌else◌, [], ◌∷◌, Option, Some, None, IfSome, refl, sym, ap, ◌∙◌, subst}
use Rattle.std.specs.Prelude.{IsTrue, slice_get}
use Rattle.cube_view.specs.declared.schema.Schema.{Schema}
use Rattle.live_session.specs.News.{AsksOfEnds, EndsView, LearnsTold, asks_news}
use Rattle.mailbox.specs.Ends.{OutEnd, and_taken, mail_out}
use Rattle.texts.specs.Counts.{next_count}
use Rattle.published_pair.specs.Pair.{Sees}
use Rattle.published_pair.specs.Rules.{Known, first_word_of}
use Rattle.published_pair.specs.declared.told.Told.{Told}
use Rattle.query_syntax.specs.Meaning.{asks_valid}
use Rattle.query_syntax.specs.declared.query.Parsed.{Parsed}
use Rattle.query_syntax.specs.declared.query.Parsed.TheVariants.{Skip, Ask, Fault}
use Rattle.query_syntax.specs.declared.query.Query.{Query}
use Rattle.session_core.specs.Asked.{asks_look, is_look}
use Rattle.world_core.specs.PairFact.{IsPrefix}
use Rattle.run_law.specs.Moves.{IsLastIn, having_asked, having_looked, knows, looked, with_session}
use Rattle.run_law.specs.Turns.{LeadTo, LooksThen, ShowsSession, TurnIsSteps, ask_steps, caught_up}
use Rattle.run_law.specs.Views.{RunView, SessionView}
use Rattle.run_law.specs.declared.step.Step.TheVariants as step
use Rattle.run_law.proofs.Places.{set_at_own}

-- ends with the same parts
same_out : (x y : OutEnd) → x.mailbox ≡ y.mailbox → x.pair ≡ y.pair → x.takes ≡ y.takes → x.taken ≡ y.taken → x ≡ y
same_out x y mailbox pair takes taken = λ i. record { mailbox = mailbox i; pair = pair i; takes = takes i; taken = taken i }

module _ (schema : Schema) (room s : ℕ) (a : RunView) (session : SessionView) (at : slice_get a.sessions s ≡ Some session) where
  -- the session once it has asked its mailbox and learned what it took
  abbrev with_news : Option Told → Known → SessionView
  with_news told now = record (having_asked session told) { learned = now }

  -- it asks, and learns what it takes
  asking : (told : Option Told) (now : Known) → IfSome told (IsLastIn session) → LearnsTold told session.learned now
      → LeadTo schema room a (ask_steps s told) (λ c. slice_get c.sessions s ≡ Some (with_news told now))
  asking None now last same = (
    with_session a s (having_asked session None),
    (with_session a s (having_asked session None), record { session = session; at = at; told = None; of = last; after = refl }, refl),
    set_at_own a.sessions s session (having_asked session None) at ∙ ap (λ (l : Known). Some (with_news None l)) (sym same),
  )
  asking (Some t) now last longer =
      let asked = having_asked session (Some t) in
      let mid = with_session a s asked in
      let here = set_at_own a.sessions s session asked at in
      let end = with_session mid s (with_news (Some t) now) in (
        end,
        (
          mid,
          record { session = session; at = at; told = Some t; of = last; after = refl },
          (end, record { session = asked; at = here; told = t; earlier = session.taken.taken; last = refl; learned = now; longer = longer; after = refl }, refl),
        ),
        set_at_own mid.sessions s asked (with_news (Some t) now) here,
      )

module _ (room s : ℕ) (before after : EndsView) (p : Parsed) (turns : AsksOfEnds p before after) where
  abbrev told : Option Told
  told = turns.takes.told

  -- asks of the mailbox

  -- what is left of its end
  mail_is : (asked : Bool) → asks_news p ≡ asked → after.mail ≡ mail_out before.mail.mailbox before.mail.pair (if asked then next_count before.mail.takes else before.mail.takes) (and_taken before.mail.taken told)
  mail_is asked is =
      let mail = turns.goes.mail in
      same_out after.mail _ mail.mailbox mail.pair (mail.asked ∙ ap (λ (b : Bool). if b then next_count before.mail.takes else before.mail.takes) is) turns.takes.taken

  news_runs : (a : RunView) (shows : ShowsSession a s before) → IfSome told (IsLastIn shows.session) → (asked : Bool) → asks_news p ≡ asked
      → LeadTo before.schema room a (if asked then ask_steps s told else []) (λ c. ShowsSession c s (caught_up before after))
  news_runs a shows last true is =
      let run = asking before.schema room s a shows.session shows.at told after.learned last (subst (λ (l : Known). LearnsTold told l after.learned) (sym shows.learned) turns.takes.learns) in (
        run.0,
        run.1,
        record {
          session = with_news before.schema room s a shows.session shows.at told after.learned;
          at = run.2;
          shown = shows.shown;
          learned = refl;
          taken = ap (λ (m : OutEnd). mail_out m.mailbox m.pair (next_count m.takes) (and_taken m.taken told)) shows.taken ∙ sym (mail_is true is);
        },
      )
  news_runs a shows last false is =
      let same = turns.goes.unasked is in
      (a, refl, record { session = shows.session; at = shows.at; shown = shows.shown; learned = shows.learned ∙ sym same.0; taken = shows.taken ∙ sym same.1 })

  -- looks

  module _ (a : RunView) (shows : ShowsSession a s (caught_up before after)) where
    abbrev session : SessionView
    session = shows.session

    -- where the line asks for none
    unlooked : asks_look p ≡ false → LeadTo before.schema room a [] (λ b. ShowsSession b s after)
    unlooked is =
        (a, refl, record { session = session; at = shows.at; shown = shows.shown ∙ sym (turns.goes.unseen is); learned = shows.learned; taken = shows.taken })

    module _ (is : after.shown ≡ a.builder.published) where
      -- what the viewer knew is so
      same_pair : first_word_of session.shown.book ≡ first_word_of a.builder.published.book
      same_pair = ap (λ (l : Known). first_word_of l.book) shows.shown ∙ ap first_word_of (sym turns.goes.goes.pair) ∙ ap (λ (l : Known). first_word_of l.book) is

      seen_before : IsPrefix session.shown.points a.builder.published.points
      seen_before =
          subst (λ (l : Known). IsPrefix l.points a.builder.published.points) (sym shows.shown)
          (subst (λ (l : Known). IsPrefix before.shown.points l.points) is turns.goes.goes.seen)

      sees : Sees (knows before.schema session.shown) a.builder.published.points a.builder.published before.schema (knows before.schema after.shown)
      sees = record { told = refl; before = (same_pair, refl, seen_before); after = ap (knows before.schema) is }

      looks : (q : Query) → IsTrue (asks_valid before.schema (Ask q)) → LeadTo before.schema room a (step.Look s q ∷ []) (λ b. ShowsSession b s after)
      looks q valid =
          let now = record session { shown = after.shown } in
          let end = having_looked before.schema a s session (looked q) after.shown in (
            end,
            (end, record { session = session; at = shows.at; valid = valid; shown = after.shown; sees = sees; after = refl }, refl),
            record { session = now; at = set_at_own a.sessions s session now shows.at; shown = refl; learned = shows.learned; taken = shows.taken },
          )

look_runs : (room s : ℕ) (before after : EndsView) (p : Parsed) → AsksOfEnds p before after → LooksThen room s p before after
look_runs room s before after Skip turns a shows is = unlooked room s before after Skip turns a shows refl
look_runs room s before after (Fault fault word) turns a shows is = unlooked room s before after (Fault fault word) turns a shows refl
look_runs room s before after (Ask q) turns a shows is =
    elim (is_look q.verb) as (λ b. is_look q.verb ≡ b → LeadTo before.schema room a (if b then step.Look s q ∷ [] else []) (λ c. ShowsSession c s after)) [
      | true ↦ λ look. looks room s before after (Ask q) turns a shows (is look) q turns.valid
      | false ↦ λ none. unlooked room s before after (Ask q) turns a shows none
    ] refl

pub turn_is_steps : TurnIsSteps
turn_is_steps room s a before after shows p turns last =
    let run = news_runs room s before after p turns a shows last (asks_news p) refl in
    (run.0, run.1, (run.2, look_runs room s before after p turns))
