-- What one call of an end is to each run that shows the end: one of its steps.
use Rattle.std.specs.Prelude.{◌≡◌, ℕ, ◌-◌, ◌≤◌, ◌<◌, true, List, [], ◌∷◌, ◌++◌, length, Option, Some, IfSome, slice_get, slice_set, Result}
use mathlib.Core.Option.{some}
use lib.ListN.{get_elem?}
use Rattle.builder_core.specs.Builder.{BuilderState}
use Rattle.builder_core.specs.declared.taken.Taken.{Taken}
use Rattle.cube_view.specs.declared.schema.Schema.{Schema}
use Rattle.feed_queue.specs.Ends.{FeedState, DrawState}
use Rattle.feed_queue.specs.declared.item.Item.{Item}
use Rattle.mailbox.specs.Ends.{InEnd, OutEnd, lengths_of}
use Rattle.mailbox.specs.Rule.{KeepsMail}
use Rattle.mailbox.specs.declared.place.Letter.{Letter}
use Rattle.mailbox.specs.declared.place.Letter.TheVariants.{Brings}
use Rattle.mailbox.specs.declared.place.Putting.{Putting}
use Rattle.mailbox.specs.declared.place.Taking.{Taking}
use Rattle.mailbox.specs.declared.place.View.{View}
use Rattle.mailbox.specs.declared.place.View.TheVariants.{Puts, Takes}
use Rattle.published_pair.specs.Pair.{KeepsPair}
use Rattle.published_pair.specs.Rules.{Known}
use Rattle.published_pair.specs.declared.names.Names.{Names}
use Rattle.published_pair.specs.declared.told.Told.{Told}
use Rattle.query_syntax.specs.Queries.{is_valid_query}
use Rattle.query_syntax.specs.declared.query.Query.{Query}
use Rattle.texts.specs.declared.no_memory.NoMemory.{NoMemory}
use Rattle.run_law.specs.Moves.{Sends, Draws, TakesItem, TellsSession, PutsMail, Asks, Learns, Looks, EndsPair, LearnsEnd}
use Rattle.run_law.specs.Moves.{having_ended_pair, having_looked, knows, looked, publishes, with_session}
use Rattle.run_law.specs.Views.{RunView, SessionView}

-- session s of the run is this
abbrev pub IsSession : RunView → ℕ → SessionView → Type 0
IsSession a s session = slice_get a.sessions s ≡ Some session

-- a feeder's end that has sent the item made a step of each run in whose queue there is room
abbrev pub SendsBy : FeedState → Item → FeedState → Type 0
SendsBy end item left = (room f : ℕ) (a : RunView) → slice_get a.feeds (f - 1) ≡ Some end → (1 ≤ f) × (end.feeder ≡ f) → length a.queue < room
    → Sends room f item a (record a { feeds = slice_set a.feeds (f - 1) left; queue = a.queue ++ item ∷ [] })

-- the drawing end that has drawn the item made a step of each run at whose queue's front it was
abbrev pub DrawsBy : DrawState → Item → DrawState → Type 0
DrawsBy draws item left = (a : RunView) (rest : List Item) → a.draws ≡ draws → a.queue ≡ item ∷ rest → Draws item a (record a { queue = rest; draws = left })

-- a builder that has taken the item that was drawn last made a step
abbrev pub TakesBy : BuilderState → Item → Result Taken NoMemory → BuilderState → Type 0
TakesBy builder item answer left = (a : RunView) → a.builder ≡ builder → a.draws.drawn ≡ builder.taken ++ item ∷ []
    → TakesItem (publishes builder item answer) a (record a { builder = left })

-- a builder that tells a session made a step
abbrev pub TellsBy : BuilderState → Told → Type 0
TellsBy builder told = (a : RunView) (s : ℕ) (session : SessionView) → a.builder ≡ builder → IsSession a s session
    → TellsSession s a (with_session a s (record session { told = session.told ++ told.front ∷ [] }))

-- the end of a mailbox into which was put what its session was told last made a step
abbrev pub PutsBy : InEnd → Told → InEnd → Type 0
PutsBy mail told left = (a : RunView) (s : ℕ) (session : SessionView) (earlier : List Known) → IsSession a s session → session.put ≡ mail → session.told ≡ earlier ++ told.front ∷ []
    → PutsMail s a (with_session a s (record session { put = left }))

-- The place of a session's mailbox at one moment, with what is taken of it then, if it is something
pub record ShowsPlace (session : SessionView) (told : Option Told) : Type 0 where
  -- what it holds, and what each pass knows
  pub letters : List Letter
  pub views : List View
  -- by the mailbox's rule
  pub keeps : KeepsMail letters views
  -- one pass is that of the end that puts, which shows what it knows
  pub in_seat : ℕ
  pub putter : Putting
  pub puts : get_elem? views in_seat ≡ some (Puts putter)
  pub put : (lengths_of putter.put ≡ session.put.lengths) × (putter.pair.book ≡ session.put.pair)
  -- one is that of the end that takes
  pub out_seat : ℕ
  pub taker : Taking
  pub takes : get_elem? views out_seat ≡ some (Takes taker)
  -- what is taken is at the front
  pub front : IfSome told (λ t. (rest : List Letter) × (letters ≡ Brings t ∷ rest))

-- the end of a mailbox that was asked made a step: by the rule, what it took was put last
abbrev pub AsksBy : OutEnd → Option Told → OutEnd → Type 0
AsksBy mail told left = (a : RunView) (s : ℕ) (session : SessionView) → IsSession a s session → session.taken ≡ mail → ShowsPlace session told
    → Asks s a (with_session a s (record session { taken = left }))

-- a viewer that has learned what its session took last made a step
abbrev pub LearnsBy : Known → Told → Known → Type 0
LearnsBy learned told left = (a : RunView) (s : ℕ) (session : SessionView) (earlier : List Told) → IsSession a s session → session.learned ≡ learned
    → session.taken.taken ≡ earlier ++ told ∷ [] → Learns s a (with_session a s (record session { learned = left }))

-- a viewer that has looked made a step, where what it is shown is what the copy counts that is shown, and the pair
-- keeps its rule
abbrev pub LooksBy : Schema → Known → Known → Type 0
LooksBy schema shown left = (a : RunView) (s : ℕ) (session : SessionView) (q : Query) (views : List (Option Names)) (seat : ℕ) → IsSession a s session → session.shown ≡ shown
    → is_valid_query schema q ≡ true → left ≡ a.builder.published → KeepsPair left.points left schema views → get_elem? views seat ≡ some (knows schema shown)
    → Looks schema s q a (having_looked schema a s session (looked q) left)

-- a builder that has ended its pair made a step
abbrev pub EndsPairBy : BuilderState → Known → Type 0
EndsPairBy builder ended = (a : RunView) → a.builder ≡ builder → EndsPair a (record a { builder = having_ended_pair builder ended })

-- a viewer that has learned the ended list made a step
abbrev pub LearnsEndBy : Known → Known → Type 0
LearnsEndBy last left = (left.points ≡ last.points) × ((a : RunView) (s : ℕ) (session : SessionView) → IsSession a s session → a.builder.published ≡ last
    → LearnsEnd s a (with_session a s (record session { learned = last; told = session.told ++ last ∷ [] })))
