-- Which line of which share is wrong: the first of the first share that has one.
use Rattle.std.specs.Prelude.{◌≡◌, ◌≢◌, ℕ, ◌+◌, ◌<◌, Bool, true, false, List, [], ◌∷◌, ◌++◌, length, map, get_or, take, drop, Option, Some, None, option_map, if◌then◌else◌, IsTrue, IfOk, Result, Err, ⊤}
use Rattle.cube_view.specs.declared.schema.Schema.{Schema}
use Rattle.outer_io.specs.Files.{Files, file_or_empty}
use Rattle.outer_io.specs.Lines.{lines}
use Rattle.outer_io.specs.Told.{Told}
use Rattle.plain_cube.specs.Listed.{no_structure}
use Rattle.query_syntax.specs.declared.query.Parsed.{Parsed}
use Rattle.recount.specs.Faults.{BeginsWithReply, IsPrintableReply}
use Rattle.reply_json.specs.declared.reply.Reply.{Reply}
use Rattle.reply_sums.specs.Additive.{adds_up}
use Rattle.reply_sums.specs.Numbers.{is_reply_great}
use Rattle.reply_sums.specs.Sums.{HaveGreatSum, HaveNoSum, IsSum}
use Rattle.session_core.specs.Asked.{asked, asked_reply, reply_line}
use Rattle.session_core.specs.Transcript.{replies_text}
use Rattle.share_replies.specs.Sums.{is_of_kind}
use Rattle.share_replies.specs.declared.fault.FileFault.{FileFault}
use Rattle.share_replies.specs.declared.fault.FileFault.TheVariants as file
use Rattle.share_replies.specs.declared.fault.SharesFault.{SharesFault}
use Rattle.share_replies.specs.declared.fault.SharesFault.TheVariants as shares
use Rattle.share_replies.specs.declared.fault.WrongReply.{WrongReply}
use Rattle.share_replies.specs.declared.fault.WrongReply.TheVariants as why
use Rattle.share_replies.specs.declared.line.Added.{Added}
use Rattle.share_replies.specs.declared.summed.Summed.{Summed}

-- the total of a sum, if it is one
abbrev pub total_of_sum : Option Summed → Option Reply
total_of_sum sum = option_map (λ s. s.reply) sum

-- those of sums
abbrev pub totals_of : List (Option Summed) → List (Option Reply)
totals_of sums = map total_of_sum sums

-- the total of no replies: the reply over no points, where replies add up
abbrev pub first_total : Schema → Parsed → Option Reply
first_total schema p = if adds_up p then asked_reply no_structure schema [] 0 p else None

-- those of what was asked
abbrev pub first_totals : Schema → List Parsed → List (Option Reply)
first_totals schema ps = map (first_total schema) ps

-- a reply to what was asked makes the next total of the one before: where replies add up their sum, if no number of it
-- is 2^64 or more; where they do not there is none, and the reply is of the kind that was asked for
abbrev pub AddsBy : Bool → Parsed → Option Reply → Reply → Option Reply → Type 0
AddsBy false p total reply next = IsTrue (is_of_kind p reply) × (next ≡ None)
AddsBy true p (Some total) reply (Some next) = IsSum p total reply next × (is_reply_great next ≡ false)
AddsBy true p total reply next = ⊥

-- a reply is none to what was asked: it has no sum with the total, or is of another kind
abbrev pub HasOtherRows : Bool → Parsed → Option Reply → Reply → Type 0
HasOtherRows false p total reply = is_of_kind p reply ≡ false
HasOtherRows true p (Some total) reply = HaveNoSum p total reply
HasOtherRows true p None reply = ⊤

-- it has one in which a number is 2^64 or more
abbrev pub IsTooGreat : Bool → Parsed → Option Reply → Reply → Type 0
IsTooGreat false p total reply = ⊥
IsTooGreat true p (Some total) reply = HaveGreatSum p total reply
IsTooGreat true p None reply = ⊥

-- what is wrong with a reply, which should answer what was asked, with this total before it
abbrev pub IsReplyWrong : Parsed → Option Reply → Reply → WrongReply → Type 0
IsReplyWrong p total reply why.OtherRows = HasOtherRows (adds_up p) p total reply
IsReplyWrong p total reply why.TooGreat = IsTooGreat (adds_up p) p total reply
IsReplyWrong p total reply w = ⊥

-- what is wrong with the first line of a text, which should be such a reply
abbrev pub IsLineWrong : Parsed → Option Reply → List ℕ → WrongReply → Type 0
IsLineWrong p total text why.TooFew = text ≡ []
IsLineWrong p total text why.NotReply = (text ≢ []) × ((reply : Reply) → ¬ BeginsWithReply text reply)
IsLineWrong p total text w = (reply : Reply) × BeginsWithReply text reply × IsReplyWrong p total reply w

-- nothing is: it is that of a reply, which makes the next total, and the rest follows
abbrev pub IsLineRight : Parsed → Option Reply → List ℕ → Added → Type 0
IsLineRight p total text added = (reply : Reply) × IsPrintableReply reply × (text ≡ reply_line reply ++ added.rest.now) × AddsBy (adds_up p) p total reply (total_of_sum added.sum)

-- what is wrong with the first line of a text, where this is left to answer
abbrev pub IsTextWrong : List Parsed → List (Option Reply) → List ℕ → WrongReply → Type 0
IsTextWrong [] totals text w = (text ≢ []) × (w ≡ why.TooMany)
IsTextWrong (p ∷ ps) (total ∷ totals) text w = IsLineWrong p total text w
IsTextWrong (p ∷ ps) [] text w = ⊥

-- replies to what was asked that can be printed, one each, make the next totals of those before
abbrev pub AllAdd : List Parsed → List (Option Reply) → List Reply → List (Option Reply) → Type 0
AllAdd [] totals [] [] = ⊤
AllAdd (p ∷ ps) (total ∷ totals) (reply ∷ replies) (next ∷ nexts) = IsPrintableReply reply × AddsBy (adds_up p) p total reply next × AllAdd ps totals replies nexts
AllAdd ps totals replies nexts = ⊥

-- the text is right: its lines are such replies
abbrev pub IsRight : List Parsed → List (Option Reply) → List ℕ → List (Option Reply) → Type 0
IsRight ps totals text nexts = (replies : List Reply) × AllAdd ps totals replies nexts × (text ≡ replies_text replies)

-- The first wrong line of a text, and what is wrong with it
pub record IsWrongAt (ps : List Parsed) (totals : List (Option Reply)) (text : List ℕ) (line : ℕ) (w : WrongReply) : Type 0 where
  -- the replies before it, and the totals that they make
  pub before : List Reply
  pub nexts : List (Option Reply)
  -- what is left of the text
  pub rest : List ℕ
  -- the lines before it are those of the replies
  pub front : text ≡ replies_text before ++ rest
  -- which answer the first of what was asked
  pub right : AllAdd (take (length before) ps) totals before nexts
  -- lines are numbered from 1 on
  pub counted : line ≡ length before + 1
  -- this is wrong with the next
  pub fails : IsTextWrong (drop (length before) ps) (drop (length before) totals) rest w

-- the texts are right, one after another, and these are the totals after the last
abbrev pub AreRight : List Parsed → List (Option Reply) → List (List ℕ) → List (Option Reply) → Type 0
AreRight ps totals [] last = last ≡ totals
AreRight ps totals (text ∷ texts) last = (nexts : List (Option Reply)) × IsRight ps totals text nexts × AreRight ps nexts texts last

-- The first text that is wrong, by its place from 0 on, its first wrong line, and what is wrong with it
pub record IsFirstWrong (ps : List Parsed) (first : List (Option Reply)) (texts : List (List ℕ)) (k line : ℕ) (w : WrongReply) : Type 0 where
  -- the totals of those before it
  pub totals : List (Option Reply)
  -- which are right
  pub right : AreRight ps first (take k texts) totals
  -- there is such a text
  pub within : k < length texts
  -- and it is wrong there
  pub wrong : IsWrongAt ps totals (get_or texts k []) line w

-- What is answered of a file, where it is told
pub record DecidesFile (told : Option (List ℕ)) (ps : List Parsed) (sums : List (Option Summed)) (result : Result (List (Option Summed)) FileFault) : Type 0 where
  -- with sums its text is right
  pub right : IfOk result (λ next. Told told (λ text. IsRight ps (totals_of sums) text (totals_of next)))
  -- with a line this is the first that is wrong
  pub wrong : (line : ℕ) (w : WrongReply) → result ≡ Err (file.Wrong line w) → Told told (λ text. IsWrongAt ps (totals_of sums) text line w)

-- What is answered of the named files, where they are told
pub record DecidesFiles (told : Option Files) (ps : List Parsed) (first : List (Option Reply)) (names : List (List ℕ)) (result : Result (List (Option Summed)) SharesFault) : Type 0 where
  -- with sums their texts are right
  pub right : IfOk result (λ last. Told told (λ files. AreRight ps first (map (file_or_empty files) names) (totals_of last)))
  -- with a share and a line these are the first that are wrong
  pub wrong : (k line : ℕ) (w : WrongReply) → result ≡ Err (shares.Wrong k line w) → Told told (λ files. IsFirstWrong ps first (map (file_or_empty files) names) k line w)

-- what the script of that name asks
abbrev pub asks_of : Schema → Files → List ℕ → List Parsed
asks_of schema files script = asked schema (lines (file_or_empty files script))

-- What is answered of shares to a script, where the files are told
pub record DecidesScript (schema : Schema) (told : Option Files) (script : List ℕ) (names : List (List ℕ)) (result : Result (List (Option Summed)) SharesFault) : Type 0 where
  -- with sums all are right
  pub right : IfOk result (λ last. Told told (λ files. AreRight (asks_of schema files script) (first_totals schema (asks_of schema files script)) (map (file_or_empty files) names) (totals_of last)))
  -- with a share and a line these are the first that are wrong
  pub wrong : (k line : ℕ) (w : WrongReply) → result ≡ Err (shares.Wrong k line w) → Told told (λ files. IsFirstWrong (asks_of schema files script) (first_totals schema (asks_of schema files script)) (map (file_or_empty files) names) k line w)
