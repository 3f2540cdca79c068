-- What was read of a run's replies.
use Rattle.std.proofs.Common.{◌≡◌, ℕ, ◌≤◌, List, [], ◌∷◌, ◌++◌, length, drop, Option, Some, None, Result, Err, refl, sym, ap, ◌∙◌, subst, arith, append_assoc}
use Rattle.std.specs.Prelude.{option_map}
use Rattle.std.proofs.lemmas.List.{append-nil}
use Rattle.outer_io.specs.Bytes.{Takes}
use Rattle.outer_io.specs.Told.{Told}
use Rattle.query_syntax.specs.declared.query.Parsed.{Parsed}
use Rattle.recount.specs.Faults.{BeginsWithReply, IsPrintableReply}
use Rattle.recount.specs.declared.testing.Marks.{Marks}
use Rattle.reply_json.specs.declared.reply.Reply.{Reply}
use Rattle.session_core.specs.Asked.{reply_line}
use Rattle.session_core.specs.Transcript.{MayCome}
use Rattle.share_replies.specs.Refusals.{IsReplyWrong}
use Rattle.share_replies.specs.declared.fault.LineFault.{LineFault}
use Rattle.share_replies.specs.declared.fault.LineFault.TheVariants as line
use Rattle.share_replies.specs.declared.fault.WrongReply.{WrongReply}
use Rattle.share_replies.specs.declared.fault.WrongReply.TheVariants as why
use Rattle.texts.specs.LineFeeds.{NoFeed}
use Rattle.live_sums.specs.Rests.{KeepsRest}
use Rattle.live_sums.specs.Runs.{BeginsWith, WasRead, IsUnreadable, IsWrongNext, TakesLine, run_left}
use Rattle.live_sums.specs.Wrong.{fault_of_sum}
use Rattle.live_sums.specs.declared.fault.ReplyFault.{ReplyFault}
use Rattle.live_sums.specs.declared.fault.ReplyFault.TheVariants as reply
use Rattle.live_sums.specs.declared.fault.WrongShare.{WrongShare}
use Rattle.live_sums.specs.declared.fault.WrongShare.TheVariants as share
use Rattle.live_sums.specs.declared.replies.Replies.{Replies}
use Rattle.live_sums.proofs.BytesRead.{after_front}

-- bytes that are held are the front of what is left
kept_front : (a b : Option (List ℕ)) (held : List ℕ) → KeepsRest a (option_map (λ m. held ++ m) b) → Told a (BeginsWith held)
kept_front None b held kept = tt
kept_front (Some l) None held kept = absurd (never kept)
  where
    never : None ≡ Some l → ⊥
    never e = cc
kept_front (Some l) (Some m) held kept = (m, own kept)
  where
    own : Some (held ++ m) ≡ Some l → l ≡ held ++ m
    own e = cc

-- a line off the front of what is held is one off the front of what is left
line_taken : (a b : Option (List ℕ)) (held text rest : List ℕ) → KeepsRest a (option_map (λ m. held ++ m) b) → held ≡ text ++ rest → Takes a (option_map (λ m. rest ++ m) b) text
line_taken None b held text rest kept is = tt
line_taken (Some l) None held text rest kept is = absurd (never kept)
  where
    never : None ≡ Some l → ⊥
    never e = cc
line_taken (Some l) (Some m) held text rest kept is = own kept ∙ ap (λ (h : List ℕ). h ++ m) is ∙ append_assoc text rest m
  where
    own : Some (held ++ m) ≡ Some l → l ≡ held ++ m
    own e = cc

-- a line that was taken is the front of what was left
taken_front : (a b : Option (List ℕ)) (text : List ℕ) → Takes a b text → Told a (BeginsWith text)
taken_front None b text taken = tt
taken_front (Some l) None text taken = absurd taken
taken_front (Some l) (Some m) text taken = (m, taken)

-- the reply of the first line that is held, and what is after it
pub line_cut : (held text whole rest : List ℕ) (n : ℕ) → text ≡ whole → held ≡ whole ++ rest → n ≡ length text → (n ≤ length held) × (held ≡ whole ++ drop n held)
line_cut held text whole rest n same is size =
    let long : n ≡ length whole = size ∙ ap length same in (
      subst (λ k. k ≤ length held) (sym long) (subst (λ (h : List ℕ). length whole ≤ length h) (sym is) (front whole rest)),
      is ∙ ap (λ (r : List ℕ). whole ++ r) (sym ((λ i. drop (long i) (is i)) ∙ after_front whole rest)),
    )
  where
    front : (xs ys : List ℕ) → length xs ≤ length (xs ++ ys)
    front [] ys = omega arith
    front (x ∷ xs) ys = let more = front xs ys in omega (arith, more)

-- no fault of one kind is of the other
pub wrong_is : (v w : WrongShare) → reply.Wrong v ≡ reply.Wrong w → v ≡ w
wrong_is v w e = cc

abbrev pub failed : (T : Type 0) → ReplyFault → Result T ReplyFault
failed T f = Err f

pub err_wrong : {T : Type 0} (f : ReplyFault) (w : WrongShare) → failed T f ≡ failed T (reply.Wrong w) → f ≡ reply.Wrong w
err_wrong f w e = cc

pub fault_is : {T : Type 0} (f : ReplyFault) (w : WrongShare) (r : Result T ReplyFault) → r ≡ failed T f → r ≡ failed T (reply.Wrong w) → f ≡ reply.Wrong w
fault_is f w r is e = err_wrong f w (sym is ∙ e)

module _ {S : Type 0} (left : S → Option (List ℕ)) where
  -- the line has no end
  pub unread_ended : (before after : Replies S) (w : WrongShare) → w ≡ share.Reply why.TooFew → NoFeed after.held.items → Told (run_left left before) (λ rest. rest ≡ after.held.items) → IsUnreadable left before w
  unread_ended before after w is none all = subst (IsUnreadable left before) (sym is) (after.held.items, record { front = front (run_left left before) all; all = λ e. all }, none)
    where
      front : (a : Option (List ℕ)) → Told a (λ rest. rest ≡ after.held.items) → Told a (BeginsWith after.held.items)
      front None all = tt
      front (Some l) all = ([], all ∙ sym (append-nil after.held.items))

  -- it is no reply's line
  pub unread_other : (before after : Replies S) (held : List ℕ) (w : WrongShare) → held ≡ after.held.items → KeepsRest (run_left left before) (run_left left after) → ¬ NoFeed after.held.items → w ≡ share.Reply why.NotReply → ((r : Reply) → ¬ BeginsWithReply held r) → IsUnreadable left before w
  unread_other before after held w same kept some is none =
      subst (IsUnreadable left before) (sym is) (
        after.held.items,
        record { front = kept_front (run_left left before) (left after.source) after.held.items kept; all = λ e. absurd (apart e) },
        (some, subst (λ (h : List ℕ). (r : Reply) → ¬ BeginsWithReply h r) same none),
      )
    where
      apart : share.Reply why.NotReply ≡ share.Reply why.TooFew → ⊥
      apart e = cc

  -- a reply was read
  pub reads_next : (before middle after : Replies S) (held : List ℕ) (r : Reply) (n : ℕ) → held ≡ middle.held.items → KeepsRest (run_left left before) (run_left left middle) → IsPrintableReply r → held ≡ reply_line r ++ drop n held → after.source ≡ middle.source → after.held.items ≡ drop n held → TakesLine left before after r
  reads_next before middle after held r n same kept printable is source rest = record {
    printable = printable;
    taken = subst (λ (s : S). Takes (run_left left before) (option_map (λ m. after.held.items ++ m) (left s)) (reply_line r)) (sym source)
        (line_taken (run_left left before) (left middle.source) middle.held.items (reply_line r) after.held.items kept (sym same ∙ is ∙ ap (λ (t : List ℕ). reply_line r ++ t) (sym rest)));
  }

  -- what was read begins with the reply's line
  begins_own : (before after : Replies S) (r : Reply) → TakesLine left before after r → BeginsWithReply (reply_line r) r
  begins_own before after r read = (read.printable, ([], sym (append-nil (reply_line r))))

  has_read : (before after : Replies S) (r : Reply) (w : WrongShare) → TakesLine left before after r → (w ≡ share.Reply why.TooFew → ⊥) → WasRead left before (reply_line r) w
  has_read before after r w read apart = record { front = taken_front (run_left left before) (run_left left after) (reply_line r) read.taken; all = λ e. absurd (apart e) }

  module _ (p : Parsed) (total : Option Reply) (before after : Replies S) (r : Reply) (read : TakesLine left before after r) where
    -- it is wrong by the law of sums
    wrong_by_sum : (v : WrongReply) → IsReplyWrong p total r v → IsWrongNext left p total before (share.Reply v)
    wrong_by_sum why.TooFew bad = absurd bad
    wrong_by_sum why.TooMany bad = absurd bad
    wrong_by_sum why.NotReply bad = absurd bad
    wrong_by_sum why.OtherRows bad = (reply_line r, has_read before after r (share.Reply why.OtherRows) read apart, (r, begins_own before after r read, bad))
      where
        apart : share.Reply why.OtherRows ≡ share.Reply why.TooFew → ⊥
        apart e = cc
    wrong_by_sum why.TooGreat bad = (reply_line r, has_read before after r (share.Reply why.TooGreat) read apart, (r, begins_own before after r read, bad))
      where
        apart : share.Reply why.TooGreat ≡ share.Reply why.TooFew → ⊥
        apart e = cc

    pub sum_refused : (fault : LineFault) (f : ReplyFault) (w : WrongShare) → f ≡ fault_of_sum fault → f ≡ reply.Wrong w → ((v : WrongReply) → fault ≡ line.Wrong v → IsReplyWrong p total r v) → IsWrongNext left p total before w
    sum_refused line.NoMemory f w is e wrong = absurd (never (sym is ∙ e))
      where
        never : fault_of_sum line.NoMemory ≡ reply.Wrong w → ⊥
        never e = cc
    sum_refused (line.Wrong v) f w is e wrong = subst (IsWrongNext left p total before) (own (sym is ∙ e)) (wrong_by_sum v (wrong v refl))
      where
        own : reply.Wrong (share.Reply v) ≡ reply.Wrong w → share.Reply v ≡ w
        own e = cc

    -- or it is over less than one before
    pub is_behind : (w : WrongShare) (marks : Marks) → marks ≡ before.marks → share.Behind ≡ w → (MayCome marks.seen marks.told r → ⊥) → IsWrongNext left p total before w
    is_behind w marks same is falls =
        subst (IsWrongNext left p total before) is (reply_line r, has_read before after r share.Behind read apart, (r, begins_own before after r read, subst (λ (m : Marks). MayCome m.seen m.told r → ⊥) same falls))
      where
        apart : share.Behind ≡ share.Reply why.TooFew → ⊥
        apart e = cc

  -- a bad line is wrong, whatever was asked
  pub unreadable_wrong : (p : Parsed) (total : Option Reply) (run : Replies S) (w : WrongShare) → IsUnreadable left run w → IsWrongNext left p total run w
  unreadable_wrong p total run (share.Reply why.TooFew) bad = bad
  unreadable_wrong p total run (share.Reply why.TooMany) bad = bad
  unreadable_wrong p total run (share.Reply why.NotReply) bad = bad
  unreadable_wrong p total run (share.Reply why.OtherRows) (read, has, bad) = absurd bad
  unreadable_wrong p total run (share.Reply why.TooGreat) (read, has, bad) = absurd bad
  unreadable_wrong p total run share.NotAsked (read, has, bad) = absurd bad
  unreadable_wrong p total run share.Behind (read, has, bad) = absurd bad
