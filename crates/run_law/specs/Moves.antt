-- What each step of a run changes, by the relations that the calls of its ends ensure.
use Rattle.std.specs.Prelude.{◌≡◌, ℕ, ◌-◌, ◌≤◌, ◌<◌, Bool, true, false, if◌then◌else◌, List, [], ◌∷◌, ◌++◌, length, Option, Some, IfSome, slice_get, slice_set, Result, Ok, Err}
use Rattle.builder_core.specs.Builder.{BuilderState, KeepsJournal}
use Rattle.builder_core.specs.Taking.{IsTaking, fills_batch, wants_memory}
use Rattle.builder_core.specs.declared.taken.Taken.{Taken}
use Rattle.cube_view.specs.declared.schema.Schema.{Schema}
use Rattle.feed_queue.specs.Ends.{FeedState, MaySend, having_sent, having_drawn}
use Rattle.feed_queue.specs.declared.item.Item.{Item}
use Rattle.feed_queue.specs.declared.item.Item.TheVariants.{One, End}
use Rattle.live_session.specs.News.{IsLonger}
use Rattle.mailbox.specs.Ends.{mail_in, mail_out, and_taken, lengths_of}
use Rattle.mailbox.specs.Rule.{IsLastPut}
use Rattle.texts.specs.Counts.{next_count}
use Rattle.texts.specs.declared.no_memory.NoMemory.{NoMemory}
use Rattle.published_pair.specs.Pair.{Sees, names}
use Rattle.published_pair.specs.Rules.{Known}
use Rattle.published_pair.specs.declared.names.Names.{Names}
use Rattle.published_pair.specs.declared.told.Told.{Told}
use Rattle.query_syntax.specs.Queries.{is_valid_query, whole_space, all_bins}
use Rattle.query_syntax.specs.Tables.{is_drill, table}
use Rattle.query_syntax.specs.declared.query.Choice.TheVariants as choice
use Rattle.query_syntax.specs.declared.query.Query.{Query}
use Rattle.query_syntax.specs.declared.query.Verb.TheVariants.{Count}
use Rattle.world_core.specs.Interleaving.{entry_points}
use Rattle.run_law.specs.Views.{RunView, SessionView}

-- Feeder f sends the item, where the queue has room
pub record Sends (room : ℕ) (f : ℕ) (item : Item) (a b : RunView) : Type 0 where
  -- its end
  pub end : FeedState
  pub at : slice_get a.feeds (f - 1) ≡ Some end
  pub number : (1 ≤ f) × (end.feeder ≡ f)
  -- it may send the item
  pub may : MaySend end item
  -- the queue has room for one more
  pub fits : length a.queue < room
  -- the end has sent the item, which is at the queue's back
  pub after : b ≡ record a { feeds = slice_set a.feeds (f - 1) (having_sent end item); queue = a.queue ++ item ∷ [] }

-- The drawing end draws the item
pub record Draws (item : Item) (a b : RunView) : Type 0 where
  -- it was at the queue's front
  pub rest : List Item
  pub front : a.queue ≡ item ∷ rest
  -- the end has drawn it
  pub after : b ≡ record a { queue = rest; draws = having_drawn a.draws item }

-- taking the item publishes, where memory is found: an entry that fills the batch, and the last End where something is
-- pending
abbrev pub may_publish : BuilderState → Item → Bool
may_publish b (One e) = fills_batch b
may_publish b (End f n) = wants_memory b (End f n)

-- whether a take with this answer has published
abbrev pub publishes : {E : Type 0} → BuilderState → Item → Result Taken E → Bool
publishes b item (Ok taken) = may_publish b item
publishes b item (Err fault) = false

-- The builder takes an item, and has published by it or not
pub record TakesItem (published : Bool) (a b : RunView) : Type 0 where
  -- the item was drawn last, and what was drawn before is taken
  pub item : Item
  pub drawn : a.draws.drawn ≡ a.builder.taken ++ item ∷ []
  -- what it answers and leaves
  pub answer : Result Taken NoMemory
  pub left : BuilderState
  pub taking : IsTaking a.builder item answer left
  pub keeps : KeepsJournal left
  -- whether it has published
  pub is : publishes a.builder item answer ≡ published
  -- all else is as it was
  pub after : b ≡ record a { builder = left }

-- the run with this in the place of session s
abbrev pub with_session : RunView → ℕ → SessionView → RunView
with_session a s session = record a { sessions = slice_set a.sessions s session }

-- Session s is told of the published list
pub record TellsSession (s : ℕ) (a b : RunView) : Type 0 where
  pub session : SessionView
  pub at : slice_get a.sessions s ≡ Some session
  -- what it is told
  pub told : Told
  pub list : told.front ≡ a.builder.published
  pub after : b ≡ with_session a s (record session { told = session.told ++ told.front ∷ [] })

-- the session once a list of that length is put into its mailbox
abbrev pub having_posted : SessionView → ℕ → SessionView
having_posted session n = record session { put = mail_in session.put.mailbox session.put.pair (session.put.lengths ++ n ∷ []) }

-- the session once it has asked its mailbox, with this answer
abbrev pub having_asked : SessionView → Option Told → SessionView
having_asked session told = let t = session.taken in record session { taken = mail_out t.mailbox t.pair (next_count t.takes) (and_taken t.taken told) }

-- What was told to session s last is put into its mailbox
pub record PutsMail (s : ℕ) (a b : RunView) : Type 0 where
  pub session : SessionView
  pub at : slice_get a.sessions s ≡ Some session
  -- it was told last
  pub told : Told
  pub earlier : List Known
  pub last : session.told ≡ earlier ++ told.front ∷ []
  pub after : b ≡ with_session a s (having_posted session (length told.front.points))

-- Of what was put into the session's mailbox, this is the last
pub record IsLastIn (session : SessionView) (told : Told) : Type 0 where
  -- what was put, whose lengths the putting end shows
  pub put : List Told
  pub lengths : lengths_of put ≡ session.put.lengths
  -- it was put last
  pub last : IsLastPut session.put.pair put told

-- Session s asks its mailbox
pub record Asks (s : ℕ) (a b : RunView) : Type 0 where
  pub session : SessionView
  pub at : slice_get a.sessions s ≡ Some session
  -- what it takes, if there is something: by the mailbox's rule that is the last that was put
  pub told : Option Told
  pub of : IfSome told (IsLastIn session)
  pub after : b ≡ with_session a s (having_asked session told)

-- Session s learns what it took
pub record Learns (s : ℕ) (a b : RunView) : Type 0 where
  pub session : SessionView
  pub at : slice_get a.sessions s ≡ Some session
  -- it took that last
  pub told : Told
  pub earlier : List Told
  pub last : session.taken.taken ≡ earlier ++ told ∷ []
  -- what its viewer has learned then
  pub learned : Known
  pub longer : IsLonger session.learned told.front learned
  pub after : b ≡ with_session a s (record session { learned = learned })

-- the query of all that is published
abbrev pub count_all : Query
count_all = record { verb = Count; region = whole_space; sets = choice.All ∷ choice.All ∷ choice.All ∷ choice.All ∷ []; time = all_bins }

-- the query of the machine's look for a line's: its own, or where its verb has no table of the machine that of all,
-- whose shot nobody reads
abbrev pub looked : Query → Query
looked q = if is_drill q.verb then q else count_all

-- what an end of the pair knows that was shown the list last
abbrev pub knows : Schema → Known → Option Names
knows schema list = Some (names list.book schema list.points)

-- the run once session s was shown the list, where the machine's query for its line is q
abbrev pub having_looked : Schema → RunView → ℕ → SessionView → Query → Known → RunView
having_looked schema a s session q shown = record (with_session a s (record session { shown = shown })) {
  shots = a.shots ++ record { session = s; table = table schema q shown.points } ∷ [];
}

-- Session s looks for a line with the query q
pub record Looks (schema : Schema) (s : ℕ) (q : Query) (a b : RunView) : Type 0 where
  pub session : SessionView
  pub at : slice_get a.sessions s ≡ Some session
  -- the schema takes the query
  pub valid : is_valid_query schema q ≡ true
  -- what its viewer is shown: by the pair's rule that is what the shown copy counts
  pub shown : Known
  pub sees : Sees (knows schema session.shown) a.builder.published.points a.builder.published schema (knows schema shown)
  -- what it gives is the table over it
  pub after : b ≡ having_looked schema a s session (looked q) shown

-- what is left of the builder once its pair has ended: what was pending is published, and the ended list is what is
-- shown
abbrev pub having_ended_pair : BuilderState → Known → BuilderState
having_ended_pair b ended = record b { journal = b.journal ++ b.pending; pending = []; published = ended }

-- The publisher ends
pub record EndsPair (a b : RunView) : Type 0 where
  -- the ended list has the points of the journal and of what was pending
  pub ended : Known
  pub points : ended.points ≡ entry_points (a.builder.journal ++ a.builder.pending)
  pub after : b ≡ record a { builder = having_ended_pair a.builder ended }

-- Session s learns of the end: that the published list is the ended one
pub record LearnsEnd (s : ℕ) (a b : RunView) : Type 0 where
  pub session : SessionView
  pub at : slice_get a.sessions s ≡ Some session
  -- the list, which is what it has learned then
  pub last : Known
  pub list : last ≡ a.builder.published
  pub after : b ≡ with_session a s (record session { learned = last; told = session.told ++ last ∷ [] })
