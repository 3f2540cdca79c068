-- What is read of the replies of a run.
use Rattle.std.specs.Prelude.{◌≡◌, ℕ, max, true, List, ◌++◌, Option}
use Rattle.cube_view.specs.declared.schema.Schema.{Schema}
use Rattle.outer_io.specs.Bytes.{Takes}
use Rattle.outer_io.specs.Told.{Told}
use Rattle.query_syntax.specs.declared.query.Parsed.{Parsed}
use Rattle.recount.specs.Faults.{BeginsWithReply, IsPrintableReply}
use Rattle.recount.specs.declared.testing.Marks.{Marks}
use Rattle.reply_json.specs.declared.reply.Reply.{Reply}
use Rattle.reply_sums.specs.Additive.{adds_up}
use Rattle.session_core.specs.Asked.{reply_line}
use Rattle.session_core.specs.Transcript.{IsReply, MayCome, seen_in, told_in}
use Rattle.share_replies.specs.Refusals.{AddsBy, IsReplyWrong, total_of_sum}
use Rattle.share_replies.specs.Shares.{AnyStat, Share, joined_shares}
use Rattle.share_replies.specs.Sums.{IsSumOver}
use Rattle.share_replies.specs.declared.fault.WrongReply.TheVariants as why
use Rattle.share_replies.specs.declared.summed.Summed.{Summed}
use Rattle.texts.specs.LineFeeds.{NoFeed}
use Rattle.live_sums.specs.Rests.{held_and_left}
use Rattle.live_sums.specs.declared.fault.WrongShare.{WrongShare}
use Rattle.live_sums.specs.declared.fault.WrongShare.TheVariants as share
use Rattle.live_sums.specs.declared.replies.Replies.{Replies}

-- the bytes begin with these
abbrev pub BeginsWith : List ℕ → List ℕ → Type 0
BeginsWith front bytes = (more : List ℕ) × (bytes ≡ front ++ more)

-- what is wrong with the next line of replies that begin with these bytes: it has no end, or is no reply's line
abbrev pub IsLineBad : List ℕ → WrongShare → Type 0
IsLineBad read (share.Reply why.TooFew) = NoFeed read
IsLineBad read (share.Reply why.NotReply) = ¬ NoFeed read × ((reply : Reply) → ¬ BeginsWithReply read reply)
IsLineBad read w = ⊥

-- what is wrong with the next reply, which should answer what was asked, with this total before it and these marks: its
-- line is bad, it is wrong by the law of sums, or it is over less than one before
abbrev pub IsNextWrong : Parsed → Option Reply → Marks → List ℕ → WrongShare → Type 0
IsNextWrong p total marks read share.NotAsked = ⊥
IsNextWrong p total marks read share.Behind = (reply : Reply) × BeginsWithReply read reply × ¬ MayCome marks.seen marks.told reply
IsNextWrong p total marks read (share.Reply why.OtherRows) = (reply : Reply) × BeginsWithReply read reply × IsReplyWrong p total reply why.OtherRows
IsNextWrong p total marks read (share.Reply why.TooGreat) = (reply : Reply) × BeginsWithReply read reply × IsReplyWrong p total reply why.TooGreat
IsNextWrong p total marks read w = IsLineBad read w

-- where the source of a run tells the bytes that it has left
module _ {S : Type 0} (left : S → Option (List ℕ)) where
  -- what is left of a run's replies
  abbrev pub run_left : Replies S → Option (List ℕ)
  run_left run = held_and_left left run.source run.held.items

  -- The line of this reply was taken off the front of what was left
  pub record TakesLine (before after : Replies S) (reply : Reply) : Type 0 where
    pub printable : IsPrintableReply reply
    pub taken : Takes (run_left before) (run_left after) (reply_line reply)

  -- These bytes were read, which what is left begins with, and they are all that is left where they have no line feed
  pub record WasRead (run : Replies S) (read : List ℕ) (w : WrongShare) : Type 0 where
    pub front : Told (run_left run) (BeginsWith read)
    pub all : w ≡ share.Reply why.TooFew → Told (run_left run) (λ rest. rest ≡ read)

  -- the next line is bad
  abbrev pub IsUnreadable : Replies S → WrongShare → Type 0
  IsUnreadable run w = (read : List ℕ) × WasRead run read w × IsLineBad read w

  -- this is wrong with the next reply
  abbrev pub IsWrongNext : Parsed → Option Reply → Replies S → WrongShare → Type 0
  IsWrongNext p total run w = (read : List ℕ) × WasRead run read w × IsNextWrong p total run.marks read w

  -- This reply was read, and may come after those before
  pub record TakesReply (before after : Replies S) (reply : Reply) : Type 0 where
    pub read : TakesLine before after reply
    -- it has seen no less than any before has seen or told, and tells no less than was told
    pub comes : MayCome before.marks.seen before.marks.told reply
    -- the marks are the greatest numbers with it
    pub seen : after.marks.seen ≡ max before.marks.seen (seen_in reply)
    pub told : after.marks.told ≡ max before.marks.told (told_in reply)

  -- The next reply to what was asked was added
  pub record AddsNext (p : Parsed) (before after : Replies S) (sum next : Option Summed) : Type 0 where
    pub reply : Reply
    pub takes : TakesReply before after reply
    -- it makes the next total of the one before
    pub adds : AddsBy (adds_up p) p (total_of_sum sum) reply (total_of_sum next)
    -- where it is the final reply over a share, the sum is the one over its points too
    pub law : (schema : Schema) (g s : Share) → IsSumOver schema g p sum → IsReply schema AnyStat true s.points s.told p reply → IsSumOver schema (joined_shares g s) p next
