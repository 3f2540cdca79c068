-- Replies that a sink gains, one after another.
use Rattle.std.proofs.Common.{◌≡◌, ℕ, ◌≤◌, Bool, true, false, ◌||◌, if◌then◌else◌, List, [], ◌∷◌, ◌++◌, length, Option, Some, Result, Ok, Err, IsErrOf, inl, inr, refl, sym, ap, ◌∙◌, subst, append-nil}
use Rattle.std.proofs.Math.Bool.{or-false}
use Rattle.std.proofs.lemmas.Bool.{or_left, or_right}
use Rattle.std.specs.Result.{IsErrAnd}
use Rattle.cube_view.specs.Points.{Point}
use Rattle.cube_view.specs.declared.schema.Schema.{Schema}
use Rattle.cube_view.specs.declared.stat.Stat.{Stat}
use Rattle.outer_io.specs.Bytes.{Gains, GainsPart}
use Rattle.outer_io.proofs.GainedLaws.{gains_none, gains_on, part_whole, part_on}
use Rattle.query_syntax.specs.declared.query.Parsed.{Parsed}
use Rattle.query_syntax.specs.declared.query.Parsed.TheVariants as parsed
use Rattle.query_syntax.specs.declared.query.Query.{Query}
use Rattle.query_syntax.specs.declared.query.Verb.{Verb}
use Rattle.query_syntax.specs.declared.query.Verb.TheVariants as verb
use Rattle.reply_json.specs.Printed.{reply_text}
use Rattle.reply_json.specs.Types.{ReplyFits}
use Rattle.reply_json.specs.declared.reply.Reply.{Reply}
use Rattle.session_core.specs.Answered.{AreReplies, GainsFrontNoted, GainsNoted, GainsSomeNoted}
use Rattle.session_core.specs.Asked.{asked_reply, asked_then, asks_reply, asks_to_end, ends, query_reply, reply_line}
use Rattle.session_core.specs.Serving.{Serves}
use Rattle.session_core.specs.Transcript.{has_lack, is_lack, replies_text}
use Rattle.session_core.specs.declared.fault.SessionFault.{SessionFault}
use Rattle.session_core.specs.declared.fault.SessionFault.TheVariants as fault
use Rattle.session_core.specs.declared.serving.Served.{Served}
use Rattle.session_core.specs.declared.serving.Served.TheVariants as served
use Rattle.session_core.proofs.AskedLaws.{asked_then-reply}
use Rattle.session_core.proofs.FinalTranscripts.{final_transcript}
use Rattle.session_core.proofs.Lacks.{has_lack-append, no_lack}
use Rattle.session_core.proofs.OwnReplies.{reply_own}
use Rattle.session_core.proofs.Transcripts.{all_append, replies_text-append, transcript_lacking}

lack_line : reply_line Reply.NoMemory ≡ reply_text Reply.NoMemory ++ 10 ∷ []
unfolding reply_line
lack_line = refl

-- a fault that is passed on as it is
pub broke_off : {T U : Type 0} (r : Result T SessionFault) (f : SessionFault) → IsErrAnd r (λ e. e ≡ f) → IsErrOf r fault.Write → IsErrOf {T = U} {E = SessionFault} (Err f) fault.Write
broke_off (Ok x) f is bad = absurd is
broke_off (Err e) f is bad = cc

module _ (schema : Schema) (stat : Stat) (h : List Point) (told : ℕ) where
  -- what has a reply goes on
  verb_goes_on : (q : Query) (v : Verb) (reply : Reply) → query_reply stat schema h told q v ≡ Some reply → ends v ≡ false
  verb_goes_on q verb.Count reply e = refl
  verb_goes_on q (verb.Hist k) reply e = refl
  verb_goes_on q (verb.Map down) reply e = refl
  verb_goes_on q (verb.Series from wide rows) reply e = refl
  verb_goes_on q (verb.Window rect) reply e = refl
  verb_goes_on q (verb.Cross k l) reply e = refl
  verb_goes_on q (verb.Best down rows) reply e = refl
  verb_goes_on q verb.Stat reply e = refl
  verb_goes_on q verb.Told reply e = refl
  verb_goes_on q verb.Quit reply e = cc

  pub goes_on : (p : Parsed) (reply : Reply) → asked_reply stat schema h told p ≡ Some reply → asks_to_end p ≡ false
  goes_on parsed.Skip reply e = refl
  goes_on (parsed.Ask q) reply e = verb_goes_on q q.verb reply e
  goes_on (parsed.Fault fault word) reply e = refl

  abbrev asked_if : Bool → Query → List Parsed
  asked_if ends q = if ends then [] else (parsed.Ask q ∷ [])

  -- and is asked
  pub asks_one : (p : Parsed) (reply : Reply) → asked_reply stat schema h told p ≡ Some reply → asked_then p [] ≡ p ∷ []
  asks_one parsed.Skip reply e = cc
  asks_one (parsed.Ask q) reply e = ap (λ (b : Bool). asked_if b q) (verb_goes_on q q.verb reply e)
  asks_one (parsed.Fault fault word) reply e = refl

  -- a line that is skipped asks nothing, and one that ends the session asks for that
  pub skipped_goes_on : (p : Parsed) (s : Served) → s ≡ served.Skipped → Serves stat schema h told p s → asks_to_end p ≡ false
  skipped_goes_on p s is serves = ap asks_to_end (subst (Serves stat schema h told p) is serves)

  pub quit_ends : (p : Parsed) (s : Served) → s ≡ served.Quit → Serves stat schema h told p s → asks_to_end p ≡ true
  quit_ends p s is serves = subst (Serves stat schema h told p) is serves

  pub reply_goes_on : (p : Parsed) (s : Served) (bytes : List ℕ) → s ≡ served.Reply bytes → Serves stat schema h told p s → asks_to_end p ≡ false
  reply_goes_on p s bytes is serves = let r = subst (Serves stat schema h told p) is serves in goes_on p r.0 r.1

  module _ (few : told ≤ length h) where
    replies_none : AreReplies schema (λ s. s ≡ stat) h told false [] []
    replies_none = record { each = tt; order = tt }

    replies_one : (p : Parsed) (reply : Reply) → asked_reply stat schema h told p ≡ Some reply → ReplyFits reply → AreReplies schema (λ s. s ≡ stat) h told false (asked_then p []) (reply ∷ [])
    replies_one p reply asked fits =
        subst (λ (ps : List Parsed). AreReplies schema (λ s. s ≡ stat) h told false ps (reply ∷ [])) (sym (asks_one p reply asked))
        (final_transcript schema (λ s. s ≡ stat) false h told few (p ∷ []) (reply ∷ []) (inl (reply_own schema (λ s. s ≡ stat) h told stat p reply refl asked fits), tt))

    -- it is not the line for want of memory
    lacks_none : (p : Parsed) (reply : Reply) → asked_reply stat schema h told p ≡ Some reply → has_lack (reply ∷ []) ≡ false
    lacks_none p reply asked = or-false (is_lack reply) ∙ no_lack stat schema h told p reply asked

    -- no replies
    pub gained_none : (a : Option (List ℕ)) → GainsNoted schema (λ s. s ≡ stat) h told false a a []
    gained_none a = ([], replies_none, gains_none a, refl)

    -- replies, and further ones, where one of the first or of the others is the line for want of memory
    module _ (l m : Bool) where
      replies_on : (ps qs : List Parsed) (rs ss : List Reply) → AreReplies schema (λ s. s ≡ stat) h told l ps rs → AreReplies schema (λ s. s ≡ stat) h told m qs ss → AreReplies schema (λ s. s ≡ stat) h told (l || m) (ps ++ qs) (rs ++ ss)
      replies_on ps qs rs ss first next =
          final_transcript schema (λ s. s ≡ stat) (l || m) h told few (ps ++ qs) (rs ++ ss)
          (all_append schema (λ s. s ≡ stat) (l || m) true h told ps qs rs ss
          (transcript_lacking schema (λ s. s ≡ stat) l (l || m) true h told ps rs (or_left l m) first).each
          (transcript_lacking schema (λ s. s ≡ stat) m (l || m) true h told qs ss (or_right l m) next).each)

      lacks_on : (rs ss : List Reply) → has_lack rs ≡ l → has_lack ss ≡ m → has_lack (rs ++ ss) ≡ l || m
      lacks_on rs ss first next = has_lack-append rs ss ∙ ap (λ lack. lack || has_lack ss) first ∙ ap (λ lack. l || lack) next

      pub gained_on : (a b c : Option (List ℕ)) (ps qs : List Parsed) → GainsNoted schema (λ s. s ≡ stat) h told l a b ps → GainsNoted schema (λ s. s ≡ stat) h told m b c qs → GainsNoted schema (λ s. s ≡ stat) h told (l || m) a c (ps ++ qs)
      gained_on a b c ps qs (rs, first, gained, lacks) (ss, next, more, lack) =
          (rs ++ ss, replies_on ps qs rs ss first next, subst (Gains a c) (sym (replies_text-append rs ss)) (gains_on a b c (replies_text rs) (replies_text ss) gained more), lacks_on rs ss lacks lack)

      -- replies, and a part of further ones
      pub some_on : (a b c : Option (List ℕ)) (ps qs : List Parsed) → GainsNoted schema (λ s. s ≡ stat) h told l a b ps → GainsSomeNoted schema (λ s. s ≡ stat) h told m b c qs → GainsSomeNoted schema (λ s. s ≡ stat) h told (l || m) a c (ps ++ qs)
      some_on a b c ps qs (rs, first, gained, lacks) (ss, next, some, lack) =
          (rs ++ ss, replies_on ps qs rs ss first next, subst (GainsPart a c) (ap (λ t. replies_text rs ++ t) (append-nil (replies_text ss)) ∙ sym (replies_text-append rs ss)) (part_on a b c (replies_text rs) (replies_text ss) [] gained some), lacks_on rs ss lacks lack)

    -- all of them are a part
    pub some_all : (lacked : Bool) (a b : Option (List ℕ)) (ps : List Parsed) → GainsNoted schema (λ s. s ≡ stat) h told lacked a b ps → GainsSomeNoted schema (λ s. s ≡ stat) h told lacked a b ps
    some_all lacked a b ps (rs, are, gained, lacks) = (rs, are, subst (GainsPart a b) (append-nil (replies_text rs)) (part_whole a b (replies_text rs) [] gained), lacks)

    -- the line of one reply
    gained_one : (a b : Option (List ℕ)) (p : Parsed) (reply : Reply) (bytes : List ℕ) → asked_reply stat schema h told p ≡ Some reply → ReplyFits reply → bytes ≡ reply_line reply → Gains a b bytes → GainsNoted schema (λ s. s ≡ stat) h told false a b (asked_then p [])
    gained_one a b p reply bytes asked fits is gained =
        (reply ∷ [], replies_one p reply asked fits, subst (Gains a b) (is ∙ sym (append-nil (reply_line reply))) gained, lacks_none p reply asked)

    some_one : (a b : Option (List ℕ)) (p : Parsed) (reply : Reply) (bytes : List ℕ) → asked_reply stat schema h told p ≡ Some reply → ReplyFits reply → bytes ≡ reply_line reply → GainsPart a b bytes → GainsSomeNoted schema (λ s. s ≡ stat) h told false a b (asked_then p [])
    some_one a b p reply bytes asked fits is gained =
        (reply ∷ [], replies_one p reply asked fits, subst (GainsPart a b) (is ∙ sym (append-nil (reply_line reply))) gained, lacks_none p reply asked)

    -- what is gained for a line that is served
    pub skipped_gains : (a : Option (List ℕ)) (p : Parsed) (s : Served) → s ≡ served.Skipped → Serves stat schema h told p s → GainsNoted schema (λ s. s ≡ stat) h told false a a (asked_then p [])
    skipped_gains a p s is serves = subst (λ (q : Parsed). GainsNoted schema (λ s. s ≡ stat) h told false a a (asked_then q [])) (sym (subst (Serves stat schema h told p) is serves)) (gained_none a)

    pub reply_gains : (a b : Option (List ℕ)) (p : Parsed) (s : Served) (bytes text : List ℕ) → s ≡ served.Reply bytes → Serves stat schema h told p s → text ≡ bytes → Gains a b text → GainsNoted schema (λ s. s ≡ stat) h told false a b (asked_then p [])
    reply_gains a b p s bytes text is serves same gained = let r = subst (Serves stat schema h told p) is serves in gained_one a b p r.0 text r.1 r.2 (same ∙ r.3) gained

    pub reply_some : (a b : Option (List ℕ)) (p : Parsed) (s : Served) (bytes text : List ℕ) → s ≡ served.Reply bytes → Serves stat schema h told p s → text ≡ bytes → GainsPart a b text → GainsSomeNoted schema (λ s. s ≡ stat) h told false a b (asked_then p [])
    reply_some a b p s bytes text is serves same some = let r = subst (Serves stat schema h told p) is serves in some_one a b p r.0 text r.1 r.2 (same ∙ r.3) some

    -- replies to what was asked are such to a front of what is asked in all
    pub front_of : (lacked : Bool) (a b : Option (List ℕ)) (all front later : List Parsed) → all ≡ front ++ later → GainsSomeNoted schema (λ s. s ≡ stat) h told lacked a b front → GainsFrontNoted schema (λ s. s ≡ stat) h told lacked a b all
    front_of lacked a b all front later is some = (front, later, is, some)

  -- where a reply may lack memory, the line that says so answers what asks for a reply
  module _ (few : told ≤ length h) (p : Parsed) (asks : asks_reply p ≡ true) where
    lack_then : asked_then p [] ≡ p ∷ []
    lack_then = asked_then-reply p asks

    lacking : AreReplies schema (λ s. s ≡ stat) h told true (asked_then p []) (Reply.NoMemory ∷ [])
    lacking = subst (λ (ps : List Parsed). AreReplies schema (λ s. s ≡ stat) h told true ps (Reply.NoMemory ∷ [])) (sym lack_then) (final_transcript schema (λ s. s ≡ stat) true h told few (p ∷ []) (Reply.NoMemory ∷ []) (inr (refl, refl), tt))

    pub lack_gains : (a b : Option (List ℕ)) (text bytes : List ℕ) → text ≡ bytes → bytes ≡ reply_text Reply.NoMemory ++ 10 ∷ [] → Gains a b text → GainsNoted schema (λ s. s ≡ stat) h told true a b (asked_then p [])
    lack_gains a b text bytes same is gained = (Reply.NoMemory ∷ [], lacking, subst (Gains a b) (same ∙ is ∙ sym lack_line ∙ sym (append-nil (reply_line Reply.NoMemory))) gained, refl)

    pub lack_some : (a b : Option (List ℕ)) (text bytes : List ℕ) → text ≡ bytes → bytes ≡ reply_text Reply.NoMemory ++ 10 ∷ [] → GainsPart a b text → GainsSomeNoted schema (λ s. s ≡ stat) h told true a b (asked_then p [])
    lack_some a b text bytes same is some = (Reply.NoMemory ∷ [], lacking, subst (GainsPart a b) (same ∙ is ∙ sym lack_line ∙ sym (append-nil (reply_line Reply.NoMemory))) some, refl)
