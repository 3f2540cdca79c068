-- The sums of the replies of shares, one for each that was asked.
use Rattle.std.specs.Prelude.{◌≡◌, ℕ, Bool, true, false, List, [], ◌∷◌, map, Option, Some, None, Result, IfOk, IfErr, ⊤}
use Rattle.cube_view.specs.declared.schema.Schema.{Schema}
use Rattle.outer_io.specs.Files.{Files, file_or_empty}
use Rattle.plain_cube.specs.Listed.{no_structure}
use Rattle.query_syntax.specs.declared.query.Parsed.{Parsed}
use Rattle.query_syntax.specs.declared.query.Parsed.TheVariants.{Ask}
use Rattle.query_syntax.specs.declared.query.Verb.{Verb}
use Rattle.query_syntax.specs.declared.query.Verb.TheVariants as verb
use Rattle.reply_json.specs.declared.reply.Reply.{Reply}
use Rattle.reply_sums.specs.Additive.{adds_up}
use Rattle.session_core.specs.Asked.{asked_reply}
use Rattle.session_core.specs.Transcript.{AllAnswered, IsReply, replies_text}
use Rattle.share_replies.specs.Shares.{AnyStat, AreShares, IsShare, Share, joined_shares, nothing, together}
use Rattle.share_replies.specs.declared.fault.FileFault.{FileFault}
use Rattle.share_replies.specs.declared.fault.FileFault.TheVariants as file
use Rattle.share_replies.specs.declared.fault.LineFault.{LineFault}
use Rattle.share_replies.specs.declared.fault.LineFault.TheVariants as line
use Rattle.share_replies.specs.declared.fault.SharesFault.{SharesFault}
use Rattle.share_replies.specs.declared.fault.SharesFault.TheVariants as shares
use Rattle.share_replies.specs.declared.fault.TextFault.{TextFault}
use Rattle.share_replies.specs.declared.fault.TextFault.TheVariants as text
use Rattle.share_replies.specs.declared.fault.WrongReply.{WrongReply}
use Rattle.share_replies.specs.declared.fault.WrongReply.TheVariants as why
use Rattle.share_replies.specs.declared.line.Added.{Added}
use Rattle.share_replies.specs.declared.summed.Summed.{Summed}

-- a verb whose replies do not add up has replies of this kind: the structure's numbers, or a table
abbrev pub kind_fits : Verb → Reply → Bool
kind_fits verb.Stat (Reply.Stat stat seen) = true
kind_fits verb.Stat reply = false
kind_fits v (Reply.Table table) = true
kind_fits v reply = false

-- so is what was asked
abbrev pub is_of_kind : Parsed → Reply → Bool
is_of_kind (Ask q) reply = kind_fits q.verb reply
is_of_kind p reply = false

-- under a schema, over the points of shares
module _ (schema : Schema) (s : Share) where
  -- the sum is the reply to what was asked, where replies add up; where they do not there is none
  abbrev pub IsSumOver : Parsed → Option Summed → Type 0
  IsSumOver p None = adds_up p ≡ false
  IsSumOver p (Some sum) = (adds_up p ≡ true) × (asked_reply no_structure schema s.points s.told p ≡ Some sum.reply)

  -- each of the sums is so, in order
  abbrev pub SumsOver : List Parsed → List (Option Summed) → Type 0
  SumsOver [] [] = ⊤
  SumsOver (p ∷ ps) (sum ∷ sums) = IsSumOver p sum × SumsOver ps sums
  SumsOver ps sums = ⊥

  -- the text is that of the final replies to what was asked
  abbrev pub AnswersText : List Parsed → List ℕ → Type 0
  AnswersText ps text = (replies : List Reply) × AllAnswered schema AnyStat true s.points s.told false ps replies × (text ≡ replies_text replies)

-- the fault says nothing against the replies: memory ran out, or a number is too great
abbrev pub IsInnocent : WrongReply → Type 0
IsInnocent why.TooGreat = ⊤
IsInnocent why.TooFew = ⊥
IsInnocent why.TooMany = ⊥
IsInnocent why.NotReply = ⊥
IsInnocent why.OtherRows = ⊥

abbrev pub IsInnocentLine : LineFault → Type 0
IsInnocentLine line.NoMemory = ⊤
IsInnocentLine (line.Wrong w) = IsInnocent w

abbrev pub IsInnocentText : TextFault → Type 0
IsInnocentText text.NoMemory = ⊤
IsInnocentText (text.At n w) = IsInnocent w

-- where both are replies to what was asked, over the points of two shares, the sum is the reply over both
abbrev pub AddsOne : Parsed → Reply → Reply → Result (Option Summed) LineFault → Type 0
AddsOne p sum reply result =
    (schema : Schema) (g s : Share) → asked_reply no_structure schema g.points g.told p ≡ Some sum → asked_reply no_structure schema s.points s.told p ≡ Some reply
    → IfOk result (IsSumOver schema (joined_shares g s) p) × IfErr result IsInnocentLine

-- where the sum is over some points and the reply is the final one over a share, the answer is the sum over both
abbrev pub AddsReply : Parsed → Option Summed → Reply → Result (Option Summed) LineFault → Type 0
AddsReply p sum reply result =
    (schema : Schema) (g s : Share) → IsSumOver schema g p sum → IsReply schema AnyStat true s.points s.told p reply
    → IfOk result (IsSumOver schema (joined_shares g s) p) × IfErr result IsInnocentLine

-- where the sum is over some points and the text begins with a share's reply, the answer is the sum over both, and what
-- is left of the text is the share's later replies
abbrev pub AddsLine : Parsed → Option Summed → List ℕ → Result Added LineFault → Type 0
AddsLine p sum bytes result =
    (schema : Schema) (g s : Share) (later : List Parsed) → IsSumOver schema g p sum → AnswersText schema s (p ∷ later) bytes
    → IfOk result (λ added. IsSumOver schema (joined_shares g s) p added.sum × AnswersText schema s later added.rest.now) × IfErr result IsInnocentLine

-- where the sums are over some points and the text is a share's, the answer is the sums over both, and no fault but an
-- innocent one comes
abbrev pub AddsShare : Schema → List Parsed → List (Option Summed) → List ℕ → Result (List (Option Summed)) TextFault → Type 0
AddsShare schema ps sums bytes result =
    (g s : Share) → SumsOver schema g ps sums → IsShare schema ps s bytes
    → IfOk result (SumsOver schema (joined_shares g s) ps) × IfErr result IsInnocentText

-- the fault says nothing against the replies of a file: it was not read, or a number is too great
abbrev pub IsInnocentFile : FileFault → Type 0
IsInnocentFile (file.Stopped stop) = ⊤
IsInnocentFile (file.Wrong n w) = IsInnocent w

abbrev pub IsInnocentShares : SharesFault → Type 0
IsInnocentShares (shares.Stopped stop) = ⊤
IsInnocentShares (shares.Wrong k n w) = IsInnocent w

-- the same as of a text, where the file is told
abbrev pub AddsFile : Schema → List Parsed → List (Option Summed) → Option (List ℕ) → Result (List (Option Summed)) FileFault → Type 0
AddsFile schema ps sums told result =
    (g s : Share) (bytes : List ℕ) → told ≡ Some bytes → SumsOver schema g ps sums → IsShare schema ps s bytes
    → IfOk result (SumsOver schema (joined_shares g s) ps) × IfErr result IsInnocentFile

-- the same of all files, where they are told and each is the transcript of a share
abbrev pub AddsFiles : Schema → List Parsed → List (Option Summed) → Option Files → List (List ℕ) → Result (List (Option Summed)) SharesFault → Type 0
AddsFiles schema ps sums told names result =
    (files : Files) (shares : List Share) → told ≡ Some files → SumsOver schema nothing ps sums → AreShares schema ps shares (map (file_or_empty files) names)
    → IfOk result (SumsOver schema (together shares) ps) × IfErr result IsInnocentShares
