-- Laws of transcripts, as statements.
use Rattle.std.specs.Prelude.{◌≡◌, ℕ, ◌≤◌, Bool, false, List}
use Rattle.cube_view.specs.Points.{Point}
use Rattle.cube_view.specs.declared.schema.Schema.{Schema}
use Rattle.cube_view.specs.declared.stat.Stat.{Stat}
use Rattle.query_syntax.specs.declared.query.Parsed.{Parsed}
use Rattle.reply_json.specs.declared.reply.Reply.{Reply}
use Rattle.session_core.specs.Transcript.{IsTranscript, replies_text}
use Rattle.world_core.specs.PairFact.{IsPrefix}

-- a transcript within a list and a number is one within each longer list and each greater number
abbrev pub StaysTranscript : (Stat → Type 0) → Type 0
StaysTranscript is_stat = (schema : Schema) (final may_lack : Bool) (l h : List Point) (u v : ℕ) (asked : List Parsed) (replies : List Reply) → IsPrefix l h → u ≤ v
    → IsTranscript schema is_stat final l u may_lack asked replies → IsTranscript schema is_stat false h v may_lack asked replies

-- a text determines the replies of which it is a transcript
abbrev pub TextTellsReplies : (Stat → Type 0) → Type 0
TextTellsReplies is_stat = (schema : Schema) (final may_lack : Bool) (l : List Point) (u : ℕ) (asked asked' : List Parsed) (replies others : List Reply)
    → IsTranscript schema is_stat final l u may_lack asked replies → IsTranscript schema is_stat final l u may_lack asked' others → replies_text replies ≡ replies_text others → replies ≡ others
