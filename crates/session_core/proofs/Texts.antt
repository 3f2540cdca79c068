-- Laws of the text of a transcript: it is read back as its replies, and so it is a transcript of no others.
use Rattle.std.proofs.Common.{◌≡◌, ℕ, Bool, List, [], ◌∷◌, ◌++◌, map, inl, inr, refl, sym, ap, ◌∙◌, subst, append_assoc}
use Rattle.std.specs.List.{filter_map, cons_option}
use Rattle.std.specs.Prelude.{⊤}
use Rattle.cube_view.specs.Points.{Point}
use Rattle.cube_view.specs.declared.schema.Schema.{Schema}
use Rattle.cube_view.specs.declared.stat.Stat.{Stat}
use Rattle.texts.specs.LineFeeds.{pieces}
use Rattle.outer_io.proofs.LineLists.{pieces-piece}
use Rattle.query_syntax.specs.declared.query.Parsed.{Parsed}
use Rattle.session_core.specs.Asked.{reply_line}
use Rattle.reply_json.specs.Printed.{reply_text}
use Rattle.reply_json.specs.Reading.{reply_in}
use Rattle.reply_json.specs.Types.{ReplyFits}
use Rattle.reply_json.specs.declared.reply.Reply.{Reply}
use Rattle.reply_json.proofs.OneLine.{reply_one_line}
use Rattle.reply_json.proofs.RepliesRead.{one_reply, text_back}
use Rattle.session_core.specs.Transcript.{Answers, AllAnswered, IsTranscript, replies_text}

-- the replies that are read in a text, line by line
abbrev pub replies_in : List ℕ → List Reply
replies_in text = filter_map reply_in (pieces text)

-- each of the replies is one of a program
abbrev pub AllFit : List Reply → Type 0
AllFit [] = ⊤
AllFit (reply ∷ replies) = ReplyFits reply × AllFit replies

line_is : (reply : Reply) (later : List ℕ) → reply_line reply ++ later ≡ reply_text reply ++ 10 ∷ later
unfolding reply_line
line_is reply later = append_assoc (reply_text reply) (10 ∷ []) later

-- each reply has its own line
pub text_pieces : (replies : List Reply) → AllFit replies → pieces (replies_text replies) ≡ map reply_text replies
text_pieces [] fit = refl
text_pieces (reply ∷ replies) fit =
    ap pieces (line_is reply (replies_text replies))
    ∙ pieces-piece (reply_text reply) (replies_text replies) (reply_one_line reply fit.0)
    ∙ ap (λ ls. reply_text reply ∷ ls) (text_pieces replies fit.1)

texts_back : (replies : List Reply) → AllFit replies → filter_map reply_in (map reply_text replies) ≡ replies
texts_back [] fit = refl
texts_back (reply ∷ replies) fit =
    ap (λ o. cons_option o (filter_map reply_in (map reply_text replies))) (text_back reply fit.0)
    ∙ ap (λ rs. reply ∷ rs) (texts_back replies fit.1)

-- the text tells the replies
pub text_tells : (replies : List Reply) → AllFit replies → replies_in (replies_text replies) ≡ replies
text_tells replies fit = ap (filter_map reply_in) (text_pieces replies fit) ∙ texts_back replies fit

no_memory_fits : ReplyFits Reply.NoMemory
unfolding ReplyFits
no_memory_fits = tt

module _ (schema : Schema) (is_stat : Stat → Type 0) (lacks final : Bool) (l : List Point) (u : ℕ) where
  answer_fits : (p : Parsed) (reply : Reply) → Answers schema is_stat final l u lacks p reply → ReplyFits reply
  answer_fits p reply (inl r) = r.fits
  answer_fits p reply (inr r) = subst ReplyFits (sym r.1) no_memory_fits

  all_fit : (ps : List Parsed) (replies : List Reply) → AllAnswered schema is_stat final l u lacks ps replies → AllFit replies
  all_fit [] [] all = tt
  all_fit [] (reply ∷ replies) all = absurd all
  all_fit (p ∷ ps) [] all = absurd all
  all_fit (p ∷ ps) (reply ∷ replies) all = (answer_fits p reply all.0, all_fit ps replies all.1)

  -- the text of a transcript tells its replies
  pub transcript_tells : (ps : List Parsed) (replies : List Reply) → IsTranscript schema is_stat final l u lacks ps replies → replies_in (replies_text replies) ≡ replies
  transcript_tells ps replies t = text_tells replies (all_fit ps replies t.each)

  -- and so a text is a transcript of at most one list of replies
  pub transcript_one : (ps qs : List Parsed) (replies others : List Reply) → IsTranscript schema is_stat final l u lacks ps replies → IsTranscript schema is_stat final l u lacks qs others → replies_text replies ≡ replies_text others → replies ≡ others
  transcript_one ps qs replies others t s same = sym (transcript_tells ps replies t) ∙ ap replies_in same ∙ transcript_tells qs others s

-- replies of one text are one reply
pub reply_text-same : (a b : Reply) → ReplyFits a → ReplyFits b → reply_text a ≡ reply_text b → a ≡ b
reply_text-same a b f g e = one_reply a b (sym (text_back a f) ∙ ap reply_in e ∙ text_back b g)
