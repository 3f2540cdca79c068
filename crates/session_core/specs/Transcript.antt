-- The transcript of a session: the replies to what it was asked, while the list of points grew.
use Rattle.std.specs.Prelude.{◌≡◌, ℕ, ◌≤◌, ◌⊎◌, max, Bool, true, false, ◌||◌, List, [], ◌∷◌, length, take, Some, unwrap_or, ⊤}
use Rattle.std.specs.List.{flat_map}
use Rattle.cube_view.specs.Points.{Point}
use Rattle.cube_view.specs.declared.schema.Schema.{Schema}
use Rattle.cube_view.specs.declared.stat.Stat.{Stat}
use Rattle.query_syntax.specs.declared.query.Parsed.{Parsed}
use Rattle.reply_json.specs.Printed.{seen_of, told_of}
use Rattle.reply_json.specs.Types.{ReplyFits}
use Rattle.reply_json.specs.declared.reply.Reply.{Reply}
use Rattle.session_core.specs.Asked.{asked_reply, reply_line}

-- how many points a reply has seen, or 0 where it prints no such number
abbrev pub seen_in : Reply → ℕ
seen_in reply = unwrap_or (seen_of reply) 0

-- how many points were told, or 0 where it prints no such number
abbrev pub told_in : Reply → ℕ
told_in reply = unwrap_or (told_of reply) 0

-- the structure's numbers, or zeros where it prints none
abbrev pub stat_in : Reply → Stat
stat_in (Reply.Stat stat seen) = stat
stat_in reply = record { nodes = 0; tables = 0; proper = 0; shared = 0 }

-- the reply is the line for want of memory
abbrev pub is_lack : Reply → Bool
is_lack Reply.NoMemory = true
is_lack reply = false

-- that line is among the replies
abbrev pub has_lack : List Reply → Bool
has_lack [] = false
has_lack (reply ∷ replies) = is_lack reply || has_lack replies

-- a number is at most the most there is; a final one is all there is
abbrev pub IsUpTo : Bool → ℕ → ℕ → Type 0
IsUpTo false most n = n ≤ most
IsUpTo true most n = n ≡ most

-- a reply may come where so many points were seen and so many told before: it has seen no less than both, and tells no
-- less than was told
abbrev pub MayCome : ℕ → ℕ → Reply → Type 0
MayCome seen told (Reply.Table table) = (seen ≤ table.seen) × (told ≤ table.seen)
MayCome seen told (Reply.Stat stat n) = (seen ≤ n) × (told ≤ n)
MayCome seen told (Reply.Told n) = told ≤ n
MayCome seen told reply = ⊤

-- each reply may come after the greatest numbers before it, which begin with these two
abbrev pub NeverFalls : ℕ → ℕ → List Reply → Type 0
NeverFalls seen told [] = ⊤
NeverFalls seen told (reply ∷ replies) = MayCome seen told reply × NeverFalls (max seen (seen_in reply)) (max told (told_in reply)) replies

-- Replies under a schema and a test of the structure's numbers, over a list of points of which so many were told, with
-- numbers that are final or not
module _ (schema : Schema) (is_stat : Stat → Type 0) (final : Bool) (l : List Point) (u : ℕ) where
  -- the numbers that a reply may print
  abbrev pub MayPrint : Reply → Type 0
  MayPrint (Reply.Table table) = IsUpTo final (length l) table.seen
  MayPrint (Reply.Stat stat seen) = IsUpTo final (length l) seen × is_stat stat
  MayPrint (Reply.Told told) = IsUpTo final u told
  MayPrint reply = ⊤

  -- the reply to what was asked
  pub record IsReply (p : Parsed) (reply : Reply) : Type 0 where
    -- it is the one over the first points of the list, as many as it has seen, with the numbers that it prints
    pub meant : asked_reply (stat_in reply) schema (take (seen_in reply) l) (told_in reply) p ≡ Some reply
    -- it may print them
    pub numbers : MayPrint reply
    -- they are numbers and texts of a program
    pub fits : ReplyFits reply

  -- what is answered: the reply, or, where memory may lack, the line that says so
  abbrev pub Answers : Bool → Parsed → Reply → Type 0
  Answers may_lack p reply = IsReply p reply ⊎ ((may_lack ≡ true) × (reply ≡ Reply.NoMemory))

  -- each is answered by one reply, in order
  abbrev pub AllAnswered : Bool → List Parsed → List Reply → Type 0
  AllAnswered may_lack [] [] = ⊤
  AllAnswered may_lack (p ∷ ps) (reply ∷ replies) = Answers may_lack p reply × AllAnswered may_lack ps replies
  AllAnswered may_lack ps replies = ⊥

  -- the replies are a transcript for what was asked
  pub record IsTranscript (may_lack : Bool) (asked : List Parsed) (replies : List Reply) : Type 0 where
    -- each is a reply to what was asked, in order
    pub each : AllAnswered may_lack asked replies
    -- no number of points falls
    pub order : NeverFalls 0 0 replies

-- the lines of the replies
abbrev pub replies_text : List Reply → List ℕ
replies_text replies = flat_map reply_line replies

-- the text is a transcript for what was asked
abbrev pub IsTranscriptText : Schema → (Stat → Type 0) → Bool → List Point → ℕ → Bool → List Parsed → List ℕ → Type 0
IsTranscriptText schema is_stat final l u may_lack asked text =
    (replies : List Reply) × IsTranscript schema is_stat final l u may_lack asked replies × (text ≡ replies_text replies)
