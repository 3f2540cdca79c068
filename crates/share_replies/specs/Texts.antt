-- What is written of the sums.
use Rattle.std.specs.Prelude.{◌≡◌, ◌≢◌, ℕ, Bool, true, false, List, [], ◌∷◌, ◌++◌, take, Option, Some, None, Result, Err, OnOk, codes}
use Rattle.std.specs.Fmt.{decimal}
use Rattle.std.specs.List.{flat_map}
use Rattle.cube_view.specs.declared.schema.Schema.{Schema}
use Rattle.outer_io.specs.Bytes.{Gains}
use Rattle.query_syntax.specs.declared.query.Parsed.{Parsed}
use Rattle.reply_json.specs.declared.reply.Reply.{Reply}
use Rattle.reply_sums.specs.Additive.{adds_up}
use Rattle.run_files.specs.Outside.{FailsToPut, Puts, SinkSeen}
use Rattle.run_files.specs.declared.stop.Stop.{Stop}
use Rattle.run_files.specs.declared.stop.Stop.TheVariants.{NoMemory, PlanRefused, ReadFault, WriteFault, FeedRefused}
use Rattle.session_core.specs.Asked.{reply_line}
use Rattle.session_core.specs.Transcript.{IsReply}
use Rattle.share_replies.specs.Shares.{AnyStat, Share}
use Rattle.share_replies.specs.declared.fault.WrongReply.{WrongReply}
use Rattle.share_replies.specs.declared.fault.WrongReply.TheVariants as why

-- the line that answers what was asked where its replies do not add up
abbrev pub not_additive_line : List ℕ
not_additive_line = codes "{\"fault\":\"NotAdditive\"}\n"

-- the line of a total: that of its reply, or the one that says that replies do not add up
abbrev pub total_line : Option Reply → List ℕ
total_line None = not_additive_line
total_line (Some reply) = reply_line reply

-- the lines of totals
abbrev pub totals_text : List (Option Reply) → List ℕ
totals_text totals = flat_map total_line totals

-- the lines of the first of the totals were put
abbrev pub PutsFirst : {O : Type 0} → SinkSeen O → O → O → List (Option Reply) → Type 0
PutsFirst s out out' totals = (count : ℕ) × Puts s out out' (totals_text (take count totals))

-- The lines of totals were put, one after another, or how that ended
pub record PutsTotals {O T : Type 0} (s : SinkSeen O) (out out' : O) (totals : List (Option Reply)) (result : Result T Stop) : Type 0 where
  -- with Ok the sink has gained all
  pub puts : OnOk result (Puts s out out' (totals_text totals))
  -- with a write fault a part of them from the front, and its count rose
  pub fails : result ≡ Err WriteFault → FailsToPut s out out' (totals_text totals)
  -- where memory ran out the first of them, each whole
  pub first : result ≡ Err NoMemory → PutsFirst s out out' totals
  -- no other end comes
  pub ends : (result ≢ Err PlanRefused) × (result ≢ Err ReadFault) × (result ≢ Err FeedRefused)

-- under a schema, over the points of shares
module _ (schema : Schema) (s : Share) where
  -- the line is that of the final reply to what was asked, where replies add up, and else the one that says so
  abbrev pub IsLineOver : Bool → Parsed → List ℕ → Type 0
  IsLineOver true p line = (reply : Reply) × IsReply schema AnyStat true s.points s.told p reply × (line ≡ reply_line reply)
  IsLineOver false p line = line ≡ not_additive_line

  -- the text is such a line for each that was asked, in order: the final transcript over the points, but for those
  -- lines
  abbrev pub IsSummedText : List Parsed → List ℕ → Type 0
  IsSummedText [] text = text ≡ []
  IsSummedText (p ∷ ps) text = (line : List ℕ) × (rest : List ℕ) × IsLineOver (adds_up p) p line × IsSummedText ps rest × (text ≡ line ++ rest)

  -- a sink gained such a text
  abbrev pub PutsSums : List Parsed → Option (List ℕ) → Option (List ℕ) → Type 0
  PutsSums ps before after = (text : List ℕ) × IsSummedText ps text × Gains before after text

  -- or one line of it
  abbrev pub PutsSumLine : Parsed → Option (List ℕ) → Option (List ℕ) → Type 0
  PutsSumLine p before after = (line : List ℕ) × IsLineOver (adds_up p) p line × Gains before after line

-- the name of what is wrong with a reply
abbrev pub wrong_reply_text : WrongReply → List ℕ
wrong_reply_text why.TooFew = codes "TooFew"
wrong_reply_text why.TooMany = codes "TooMany"
wrong_reply_text why.NotReply = codes "NotReply"
wrong_reply_text why.OtherRows = codes "OtherRows"
wrong_reply_text why.TooGreat = codes "TooGreat"

-- `share NAME: reply L: WHY`
unfoldable pub share_line : List ℕ → ℕ → List ℕ → List ℕ
share_line name line why = codes "share " ++ name ++ codes ": reply " ++ decimal line ++ codes ": " ++ why ++ 10 ∷ []

-- the same with the name of what is wrong with the reply
abbrev pub wrong_line : List ℕ → ℕ → WrongReply → List ℕ
wrong_line name line w = share_line name line (wrong_reply_text w)
