-- What an audit keeps while it compares replies.
use Rattle.std.specs.Prelude.{◌≡◌, ℕ, max, Bool, true, false, List, [], ◌∷◌, ◌++◌, length, Some}
use Rattle.cube_view.specs.Points.{Point}
use Rattle.cube_view.specs.declared.schema.Schema.{Schema}
use Rattle.texts.specs.LineFeeds.{NoFeed}
use Rattle.query_syntax.specs.declared.query.Parsed.{Parsed}
use Rattle.query_syntax.specs.declared.query.Parsed.TheVariants.{Skip, Ask, Fault}
use Rattle.query_syntax.specs.declared.query.Verb.{Verb}
use Rattle.query_syntax.specs.declared.query.Verb.TheVariants as verb
use Rattle.query_syntax.specs.declared.table.Table.{Table}
use Rattle.recount.specs.Agreement.{MayAnswer}
use Rattle.recount.specs.Counting.{lacking}
use Rattle.recount.specs.Faults.{IsPrintableReply, StaysWithin, LineFails}
use Rattle.recount.specs.declared.testing.Marks.{Marks}
use Rattle.recount.specs.declared.testing.Tested.{Tested}
use Rattle.recount.specs.declared.testing.Tested.TheVariants as tested
use Rattle.reply_json.specs.Types.{ReplyFits}
use Rattle.reply_json.specs.declared.reply.Reply.{Reply}
use Rattle.session_core.specs.Asked.{asked_reply, reply_line}
use Rattle.session_core.specs.Transcript.{seen_in, stat_in, told_in, MayCome}

-- the text begins with this line, which is the same with its line feed, and goes on with the rest
abbrev pub SplitsFirst : List ℕ → List ℕ → List ℕ → List ℕ → Type 0
SplitsFirst text line whole rest = (text ≡ line ++ 10 ∷ rest) × (whole ≡ line ++ 10 ∷ []) × NoFeed line

-- the text begins with this line of the reply, and goes on with the rest
abbrev pub ReadsReply : List ℕ → Reply → List ℕ → List ℕ → Type 0
ReadsReply text reply line rest = IsPrintableReply reply × (line ≡ reply_line reply) × (text ≡ reply_line reply ++ rest)

-- the line is that of the reply with this table
abbrev pub IsLineOf : Table → List ℕ → Type 0
IsLineOf t line = ReplyFits (Reply.Table t) × (line ≡ reply_line (Reply.Table t))

-- the reply with this table is the one to what was asked over the points; a table prints no numbers of a structure
abbrev pub IsTableReply : Schema → List Point → Parsed → Table → Type 0
IsTableReply schema h p t = asked_reply (stat_in (Reply.Table t)) schema h 0 p ≡ Some (Reply.Table t)

-- the verb asks for the structure's numbers
abbrev pub is_stat_verb : Verb → Bool
is_stat_verb verb.Count = false
is_stat_verb (verb.Hist k) = false
is_stat_verb (verb.Map down) = false
is_stat_verb (verb.Series from wide rows) = false
is_stat_verb (verb.Window rect) = false
is_stat_verb (verb.Cross k l) = false
is_stat_verb (verb.Best down rows) = false
is_stat_verb verb.Stat = true
is_stat_verb verb.Told = false
is_stat_verb verb.Quit = false

-- the verb asks for the told length
abbrev pub is_told_verb : Verb → Bool
is_told_verb verb.Count = false
is_told_verb (verb.Hist k) = false
is_told_verb (verb.Map down) = false
is_told_verb (verb.Series from wide rows) = false
is_told_verb (verb.Window rect) = false
is_told_verb (verb.Cross k l) = false
is_told_verb (verb.Best down rows) = false
is_told_verb verb.Stat = false
is_told_verb verb.Told = true
is_told_verb verb.Quit = false

-- the structure's numbers were asked for
abbrev pub asks_stat : Parsed → Bool
asks_stat Skip = false
asks_stat (Ask q) = is_stat_verb q.verb
asks_stat (Fault fault word) = false

-- the told length was asked for
abbrev pub asks_told : Parsed → Bool
asks_told Skip = false
asks_told (Ask q) = is_told_verb q.verb
asks_told (Fault fault word) = false

-- The reply to what was asked agrees, and the audit goes on after it
pub record ReplyPasses (schema : Schema) (points : List Point) (before after : Marks) (p : Parsed) (reply : Reply) : Type 0 where
  pub comes : StaysWithin (length points) reply × MayCome before.seen before.told reply
  pub answer : MayAnswer schema points p reply
  pub seen : after.seen ≡ max before.seen (seen_in reply)
  pub told : after.told ≡ max before.told (told_in reply)

-- what the first line of a text is, which should answer what was asked
abbrev pub Tests : Schema → List Point → Marks → Marks → Parsed → List ℕ → Tested → Type 0
Tests schema points before after p text (tested.Agrees more lacks) =
    (reply : Reply) × IsPrintableReply reply × (text ≡ reply_line reply ++ more.now) × ReplyPasses schema points before after p reply × (lacks ≡ lacking reply)
Tests schema points before after p text (tested.Fails why) = LineFails schema points before.seen before.told p text why
