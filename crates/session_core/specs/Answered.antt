-- What answering the lines of a script does to the sink of its replies, over a view and a told length.
use Rattle.std.specs.Prelude.{◌≡◌, ℕ, Bool, true, false, List, [], ◌++◌, Option}
use Rattle.cube_view.specs.Bag.{EachCounted}
use Rattle.cube_view.specs.Points.{Point}
use Rattle.cube_view.specs.declared.schema.Schema.{Schema}
use Rattle.cube_view.specs.declared.spot.Spot.{Spot}
use Rattle.cube_view.specs.declared.stat.Stat.{Stat}
use Rattle.cube_view.specs.declared.view.CubeView as CubeView
use Rattle.outer_io.specs.Bytes.{Gains, GainsPart}
use Rattle.outer_io.specs.Lines.{Line, lines}
use Rattle.outer_io.specs.Told.{Told}
use Rattle.query_syntax.specs.declared.query.Parsed.{Parsed}
use Rattle.reply_json.specs.declared.reply.Reply.{Reply}
use Rattle.session_core.specs.Asked.{asked, asked_then, asks_to_end}
use Rattle.session_core.specs.Scripts.{is_script_refused}
use Rattle.session_core.specs.Transcript.{has_lack, IsTranscript, replies_text}

-- where the structure's numbers meet this test, over a list of points of which so many were told, and replies may be
-- the line for want of memory or may not
module _ (schema : Schema) (is_stat : Stat → Type 0) (h : List Point) (told : ℕ) (may_lack : Bool) where
  -- the replies are a transcript for what was asked, and each number is final
  abbrev pub AreReplies : List Parsed → List Reply → Type 0
  AreReplies asked replies = IsTranscript schema is_stat true h told may_lack asked replies

  -- the sink gained the lines of such replies
  abbrev pub GainsReplies : Option (List ℕ) → Option (List ℕ) → List Parsed → Type 0
  GainsReplies before after asked = (replies : List Reply) × AreReplies asked replies × Gains before after (replies_text replies)

  -- it gained a part of their lines, from the front
  abbrev pub GainsSome : Option (List ℕ) → Option (List ℕ) → List Parsed → Type 0
  GainsSome before after asked = (replies : List Reply) × AreReplies asked replies × GainsPart before after (replies_text replies)

  -- it gained a part of the lines of such replies to a front of what was asked, from the front
  abbrev pub GainsFront : Option (List ℕ) → Option (List ℕ) → List Parsed → Type 0
  GainsFront before after asked = (front : List Parsed) × (later : List Parsed) × (asked ≡ front ++ later) × GainsSome before after front

  -- the sink gained the lines of replies of which one is the line for want of memory where one may be
  abbrev pub GainsNoted : Option (List ℕ) → Option (List ℕ) → List Parsed → Type 0
  GainsNoted before after asked = (replies : List Reply) × AreReplies asked replies × Gains before after (replies_text replies) × (has_lack replies ≡ may_lack)

  -- it gained a part of the lines of such replies, from the front
  abbrev pub GainsSomeNoted : Option (List ℕ) → Option (List ℕ) → List Parsed → Type 0
  GainsSomeNoted before after asked = (replies : List Reply) × AreReplies asked replies × GainsPart before after (replies_text replies) × (has_lack replies ≡ may_lack)

  -- it gained a part of those to a front of what was asked, from the front
  abbrev pub GainsFrontNoted : Option (List ℕ) → Option (List ℕ) → List Parsed → Type 0
  GainsFrontNoted before after asked = (front : List Parsed) × (later : List Parsed) × (asked ≡ front ++ later) × GainsSomeNoted before after front

-- What the replies to a script depend on: what a view shows, and how many records were told
pub record ReplyBasis : Type 0 where
  pub schema : Schema
  -- the structure's numbers
  pub numbers : Stat
  -- what the view's bag gives each spot, and how many points it is of
  pub weight_at : Spot → ℕ
  pub seen : ℕ
  pub told : ℕ

-- what a view shows, as the members of its trait see it, where so many records were told
abbrev pub basis : {V C : Type 0} → CubeView.Ghosts V C → V → ℕ → ReplyBasis
basis members view told = record { schema = members.schema view; numbers = members.numbers view; weight_at = members.weight_at view; seen = members.seen view; told = told }

-- by what is shown, and by whether one of the replies is the line for want of memory: each of these holds over every
-- list of points that the view counts
module _ (of : ReplyBasis) (lacked : Bool) where
  -- the sink gained the replies to what was asked
  abbrev pub PutsReplies : Option (List ℕ) → Option (List ℕ) → List Parsed → Type 0
  PutsReplies before after ps = EachCounted of.weight_at of.seen (λ h. GainsNoted of.schema (λ s. s ≡ of.numbers) h of.told lacked before after ps)

  -- it gained a part of them, from the front
  abbrev pub PutsSome : Option (List ℕ) → Option (List ℕ) → List Parsed → Type 0
  PutsSome before after ps = EachCounted of.weight_at of.seen (λ h. GainsSomeNoted of.schema (λ s. s ≡ of.numbers) h of.told lacked before after ps)

  -- a line of this meaning asks for no end, and the sink gained its reply, if it asks for one
  abbrev pub PutsAnswer : Option (List ℕ) → Option (List ℕ) → Parsed → Type 0
  PutsAnswer before after p = (asks_to_end p ≡ false) × PutsReplies before after (asked_then p [])

  -- the same, and the sink gained a part of it, from the front
  abbrev pub PutsSomeAnswer : Option (List ℕ) → Option (List ℕ) → Parsed → Type 0
  PutsSomeAnswer before after p = (asks_to_end p ≡ false) × PutsSome before after (asked_then p [])

  -- it gained the replies to all that the lines ask
  abbrev pub PutsAll : Option (List ℕ) → Option (List ℕ) → List Line → Type 0
  PutsAll before after lines = PutsReplies before after (asked of.schema lines)

  -- it gained a part of them, from the front
  abbrev pub PutsSomeOf : Option (List ℕ) → Option (List ℕ) → List Line → Type 0
  PutsSomeOf before after lines = PutsSome before after (asked of.schema lines)

  -- it gained a part, from the front, of the replies to a front of what the lines ask
  abbrev pub PutsFront : Option (List ℕ) → Option (List ℕ) → List Line → Type 0
  PutsFront before after lines = EachCounted of.weight_at of.seen (λ h. GainsFrontNoted of.schema (λ s. s ≡ of.numbers) h of.told lacked before after (asked of.schema lines))

  -- it gained the replies to all that a script asks, where its bytes are told; and the script is not refused
  abbrev pub AnswersScript : Option (List ℕ) → Option (List ℕ) → Option (List ℕ) → Type 0
  AnswersScript script before after = Told script (λ bytes. PutsAll before after (lines bytes) × (is_script_refused of.schema bytes ≡ false))

  -- the same; and the script is refused
  abbrev pub RefusesScript : Option (List ℕ) → Option (List ℕ) → Option (List ℕ) → Type 0
  RefusesScript script before after = Told script (λ bytes. PutsAll before after (lines bytes) × (is_script_refused of.schema bytes ≡ true))
