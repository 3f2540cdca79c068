-- What a session is shown and told, and what a line asks of it.
use Rattle.std.specs.Prelude.{◌≡◌, ℕ, ◌≤◌, ◌⊎◌, max, Bool, true, false, not, if◌then◌else◌, List, [], ◌∷◌, ◌++◌, All, length, Option, Some, None, IfSome, IsTrue}
use Rattle.cube_view.specs.Points.{Point}
use Rattle.cube_view.specs.declared.schema.Schema.{Schema}
use Rattle.mailbox.specs.Ends.{OutEnd, and_taken}
use Rattle.texts.specs.Counts.{next_count}
use Rattle.outer_io.specs.Lines.{Line}
use Rattle.published_pair.specs.Rules.{Known}
use Rattle.published_pair.specs.declared.told.Told.{Told}
use Rattle.query_syntax.specs.Meaning.{asks_valid}
use Rattle.query_syntax.specs.declared.query.Parsed.{Parsed}
use Rattle.query_syntax.specs.declared.query.Parsed.TheVariants.{Skip, Ask, Fault}
use Rattle.session_core.specs.Asked.{asks_look, ends, line_meaning}
use Rattle.world_core.specs.PairFact.{IsPrefix}

-- the line asks for a look or the told length: before it is answered the mailbox is asked
abbrev pub asks_news : Parsed → Bool
asks_news Skip = false
asks_news (Ask q) = not (ends q.verb)
asks_news (Fault fault word) = false

-- how often the mailbox was asked once the line is answered
abbrev pub takes_for : Parsed → ℕ → ℕ
takes_for p n = if asks_news p then next_count n else n

-- the same, once lines are answered
abbrev pub takes_after : Schema → List Line → ℕ → ℕ
takes_after schema [] n = n
takes_after schema (line ∷ lines) n = takes_after schema lines (takes_for (line_meaning schema line) n)

-- the number of points seen that the reply to a line prints, where n are shown, or none
abbrev pub seen_asked : ℕ → Parsed → Option ℕ
seen_asked n p = if asks_look p then Some n else None

-- What a session has been shown and told, and how often its mailbox was asked
pub record News : Type 0 where
  -- the list that its viewer was shown last
  pub shown : List Point
  -- the longest list that its viewer was told of
  pub told : List Point
  -- how often the mailbox was asked
  pub takes : ℕ

-- what a viewer that was shown and told these lists and a mailbox say of it
abbrev pub news_of : Known → Known → OutEnd → News
news_of shown learned mail = record { shown = shown.points; told = learned.points; takes = mail.takes }

-- What answering a line changes of it
pub record HasNews (p : Parsed) (a b : News) : Type 0 where
  -- the mailbox was asked exactly where the line asks for a look or the told length
  pub takes : b.takes ≡ takes_for p a.takes
  -- and only then more is told
  pub told : asks_news p ≡ false → b.told ≡ a.told
  -- only for a look more is shown
  pub unseen : asks_look p ≡ false → b.shown ≡ a.shown
  -- the list that is shown for a look goes on from all that is told by then
  pub fresh : asks_look p ≡ true → IsPrefix b.told b.shown
  -- what was shown and told goes on
  pub goes_on : IsPrefix a.shown b.shown × IsPrefix a.told b.told

-- what answering lines changes of it, one after another
abbrev pub NewsFor : Schema → List Line → News → News → Type 0
NewsFor schema [] a b = b ≡ a
NewsFor schema (line ∷ lines) a b = (mid : News) × HasNews (line_meaning schema line) a mid × NewsFor schema lines mid b

-- A viewer of the same pair, which was shown and told of lists that go on from those before
pub record Goes (shown learned : Known) (last : Option Known) (shown' learned' : Known) : Type 0 where
  -- it is of the same pair
  pub pair : shown'.book ≡ shown.book
  -- what it was shown goes on
  pub seen : IsPrefix shown.points shown'.points
  -- and what it was told
  pub told : IsPrefix learned.points learned'.points
  -- it was shown nothing new, or the ended list where it has learned that
  pub ended : (shown' ≡ shown) ⊎ IfSome last (λ w. shown'.points ≡ w.points)

-- The same viewer, after steps in which its lists went on
pub record KeepsViewer (shown learned : Known) (last : Option Known) (schema : Schema) (shown' learned' : Known) (last' : Option Known) (schema' : Schema) : Type 0 where
  -- its lists go on
  pub goes : Goes shown learned last shown' learned'
  -- the ended list, where it has learned that, is as it was
  pub same_last : last' ≡ last
  -- and its schema
  pub same_schema : schema' ≡ schema

-- what was taken from the mailbox since is learned: each list is a prefix of the longest that was told
abbrev pub LearnsTaken : Known → OutEnd → OutEnd → Type 0
LearnsTaken learned out out' = (more : List Told) × (out'.taken ≡ out.taken ++ more) × All (λ (t : Told). IsPrefix t.front.points learned.points) more

-- the same end of the mailbox, and what was taken is learned
abbrev pub KeepsOut : Known → OutEnd → OutEnd → Type 0
KeepsOut learned out out' = (out'.mailbox ≡ out.mailbox) × (out'.pair ≡ out.pair) × LearnsTaken learned out out'

-- What asking a mailbox leaves of its end, once it was asked n times in all and the viewer has learned these lists
pub record AsksMail (n : ℕ) (learned : Known) (out out' : OutEnd) : Type 0 where
  -- it is of the same mailbox
  pub mailbox : out'.mailbox ≡ out.mailbox
  -- and of the same pair
  pub pair : out'.pair ≡ out.pair
  -- it was asked so often
  pub asked : out'.takes ≡ n
  -- which is no less than before
  pub rises : out.takes ≤ out'.takes
  -- what was taken is learned
  pub learns : LearnsTaken learned out out'

-- the mailbox was not asked, or once
abbrev pub MayAsk : Known → OutEnd → OutEnd → Type 0
MayAsk learned out out' = (out' ≡ out) ⊎ AsksMail (next_count out.takes) learned out out'

-- What answering what a line means changes of the viewer's lists and of the mailbox's end that takes
pub record GoesFor (p : Parsed) (shown learned : Known) (last : Option Known) (out : OutEnd) (shown' learned' : Known) (out' : OutEnd) : Type 0 where
  -- the lists go on
  pub goes : Goes shown learned last shown' learned'
  -- for a look the list that is shown goes on from all that is told by then, and is the ended one where that is learned
  pub look : asks_look p ≡ true → IsPrefix learned'.points shown'.points × IfSome last (λ w. shown'.points ≡ w.points)
  -- only for a look another is shown
  pub unseen : asks_look p ≡ false → shown' ≡ shown
  -- only for a look or the told length more is told
  pub unasked : asks_news p ≡ false → (learned' ≡ learned) × (out' ≡ out)
  -- and exactly then the mailbox was asked
  pub mail : AsksMail (takes_for p out.takes) learned' out out'

-- What a viewer has learned once it learns a told list: the longer one, of which both are prefixes
pub record IsLonger (learned told now : Known) : Type 0 where
  pub prefixes : IsPrefix learned.points now.points × IsPrefix told.points now.points
  pub greatest : length now.points ≡ max (length learned.points) (length told.points)

-- what is learned of a told list, if there is one: the longer list
abbrev pub LearnsTold : Option Told → Known → Known → Type 0
LearnsTold None learned now = now ≡ learned
LearnsTold (Some told) learned now = IsLonger learned told.front now

-- What is taken of the mailbox and learned: nothing, or one told list
pub record TakesOne (learned : Known) (out : OutEnd) (learned' : Known) (out' : OutEnd) : Type 0 where
  -- the told list, if there is one
  pub told : Option Told
  -- it is all that was taken
  pub taken : out'.taken ≡ and_taken out.taken told
  -- and all that was learned
  pub learns : LearnsTold told learned learned'

-- A session's viewer and its end of a mailbox, as contracts see them
pub record EndsView : Type 0 where
  -- the list that the viewer was shown last
  pub shown : Known
  -- the longest list that it has learned
  pub learned : Known
  -- the ended list, once it has learned that
  pub last : Option Known
  -- its schema
  pub schema : Schema
  -- the end of its mailbox that takes
  pub mail : OutEnd

-- What a line of this meaning asks of a viewer and its end of a mailbox, and what that leaves of them
pub record AsksOfEnds (p : Parsed) (before after : EndsView) : Type 0 where
  -- the schema takes its query, if it asks one
  pub valid : IsTrue (asks_valid before.schema p)
  -- the viewer's lists and the mailbox's end go on as it asks
  pub goes : GoesFor p before.shown before.learned before.last before.mail after.shown after.learned after.mail
  -- and what was taken is learned
  pub takes : TakesOne before.learned before.mail after.learned after.mail
