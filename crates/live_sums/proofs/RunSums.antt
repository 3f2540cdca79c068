-- The replies of runs to one question, one after another, and their sum.
use Rattle.std.proofs.Common.{◌≡◌, ℕ, zero, suc, ◌+◌, ◌<◌, ◌≤◌, true, false, List, [], ◌∷◌, ◌++◌, length, get_or, take, drop, set, Option, Some, Result, Err, refl, sym, ap, ◌∙◌, subst, arith}
use Rattle.std.proofs.lemmas.List.{length-set, length-take-le, take-set-le, take_all, take_more, take_more_set}
use Rattle.cube_view.specs.declared.schema.Schema.{Schema}
use Rattle.query_syntax.specs.declared.query.Parsed.{Parsed}
use Rattle.reply_json.specs.declared.reply.Reply.{Reply}
use Rattle.reply_sums.specs.Additive.{adds_up}
use Rattle.session_core.specs.Asked.{asked_reply}
use Rattle.session_core.specs.Transcript.{IsReply, MayPrint, seen_in, stat_in, told_in}
use Rattle.share_replies.proofs.FileSums.{joined-assoc, joined-nothing}
use Rattle.share_replies.proofs.ShareClaims.{first_one_is}
use Rattle.share_replies.specs.Refusals.{AddsBy, first_total, total_of_sum}
use Rattle.share_replies.specs.Shares.{AnyStat, Share, joined_shares, nothing, together}
use Rattle.share_replies.specs.Sums.{IsSumOver}
use Rattle.share_replies.specs.declared.summed.Summed.{Summed}
use Rattle.live_sums.specs.Runs.{AddsNext, IsWrongNext, TakesReply}
use Rattle.live_sums.specs.Turns.{AddUp, AreFinal, AreLive, IsSumOfFinal, RefusesRun, SumsRuns, TakeReplies, seen_part, seen_parts}
use Rattle.live_sums.specs.Wrong.{fault_of_share}
use Rattle.live_sums.specs.declared.fault.ReplyFault.{ReplyFault}
use Rattle.live_sums.specs.declared.fault.ReplyFault.TheVariants as fault
use Rattle.live_sums.specs.declared.fault.TurnFault.{TurnFault}
use Rattle.live_sums.specs.declared.fault.TurnFault.TheVariants as turn
use Rattle.live_sums.specs.declared.fault.WrongShare.{WrongShare}
use Rattle.live_sums.specs.declared.replies.Replies.{Replies}
use Rattle.live_sums.proofs.Along.{item_at, rest_more}

-- one reply more adds up
add_up_more : (p : Parsed) (total middle last : Option Reply) (replies : List Reply) (r : Reply) → AddUp p total replies middle → AddsBy (adds_up p) p middle r last → AddUp p total (replies ++ r ∷ []) last
add_up_more p total middle last [] r is adds = (last, subst (λ t. AddsBy (adds_up p) p t r last) is adds, refl)
add_up_more p total middle last (s ∷ replies) r (next, first, later) adds = (next, first, add_up_more p next middle last replies r later adds)

-- one share more
together-push : (shares : List Share) (s : Share) → together (shares ++ s ∷ []) ≡ joined_shares (together shares) s
together-push [] s = joined-nothing s
together-push (t ∷ shares) s = ap (joined_shares t) (together-push shares s) ∙ joined-assoc t (together shares) s

-- The shares of replies before the last, and that of the last
record LastFinal (schema : Schema) (p : Parsed) (shares : List Share) (replies : List Reply) (r : Reply) : Type 0 where
  front : List Share
  last : Share
  all : shares ≡ front ++ last ∷ []
  are : AreFinal schema p front replies
  is : IsReply schema AnyStat true last.points last.told p r

last_final : (schema : Schema) (p : Parsed) (shares : List Share) (replies : List Reply) (r : Reply) → AreFinal schema p shares (replies ++ r ∷ []) → LastFinal schema p shares replies r
last_final schema p [] [] r are = absurd are
last_final schema p [] (s ∷ replies) r are = absurd are
last_final schema p (s ∷ []) [] r are = record { front = []; last = s; all = refl; are = tt; is = are.0 }
last_final schema p (s ∷ t ∷ shares) [] r are = absurd are.1
last_final schema p (s ∷ shares) (q ∷ replies) r are =
    let rest = last_final schema p shares replies r are.1 in
    record { front = s ∷ rest.front; last = rest.last; all = ap (λ (l : List Share). s ∷ l) rest.all; are = (are.0, rest.are); is = rest.is }

no_final : (schema : Schema) (p : Parsed) (shares : List Share) → AreFinal schema p shares [] → shares ≡ []
no_final schema p [] are = refl
no_final schema p (s ∷ shares) are = absurd are

-- a reply over a first part of a list is the final one over that part
part_final : (schema : Schema) (p : Parsed) (l : Share) (r : Reply) → IsReply schema AnyStat false l.points l.told p r → IsReply schema AnyStat true (seen_part l r).points (seen_part l r).told p r
part_final schema p l r is = record {
  meant = subst (λ h. asked_reply (stat_in r) schema h (told_in r) p ≡ Some r) (sym (twice (seen_in r) l.points)) is.meant;
  numbers = prints r is.numbers;
  fits = is.fits;
}
  where
    twice : {A : Type 0} (n : ℕ) (xs : List A) → take n (take n xs) ≡ take n xs
    twice n xs = take_all n (take n xs) (short n xs)
      where
        short : {A : Type 0} (n : ℕ) (xs : List A) → length (take n xs) ≤ n
        short zero xs = omega arith
        short (suc n) [] = omega arith
        short (suc n) (x ∷ xs) = let more = short n xs in omega (arith, more)

    size : {A : Type 0} (n : ℕ) (xs : List A) → n ≤ length xs → length (take n xs) ≡ n
    size n xs within = length-take-le n xs within

    prints : (r : Reply) → MayPrint schema AnyStat false l.points l.told r → MayPrint schema AnyStat true (take (seen_in r) l.points) (told_in r) r
    prints (Reply.Table t) within = sym (size t.seen l.points within)
    prints (Reply.Stat stat seen) within = (sym (size seen l.points within.0), tt)
    prints (Reply.Told told) within = refl
    prints (Reply.Fault f word) within = tt
    prints Reply.NoMemory within = tt

-- so are replies over first parts of lists
pub parts_final : (schema : Schema) (p : Parsed) (lists : List Share) (replies : List Reply) → AreLive schema p lists replies → AreFinal schema p (seen_parts lists replies) replies
parts_final schema p [] [] are = tt
parts_final schema p [] (r ∷ replies) are = absurd are
parts_final schema p (l ∷ lists) [] are = absurd are
parts_final schema p (l ∷ lists) (r ∷ replies) are = (part_final schema p l r are.0, parts_final schema p lists replies are.1)

abbrev pub turn_failed : (T : Type 0) → TurnFault → Result T TurnFault
turn_failed T f = Err f

pub turn_is : {T : Type 0} (f : TurnFault) (k : ℕ) (w : WrongShare) → turn_failed T f ≡ turn_failed T (turn.Wrong k w) → f ≡ turn.Wrong k w
turn_is f k w e = cc

-- the run of that place is wrong so
pub share_is : (f : ReplyFault) (i k : ℕ) (w : WrongShare) → fault_of_share f i ≡ turn.Wrong k w → (k ≡ i) × (f ≡ fault.Wrong w)
share_is (fault.Stopped stop) i k w e = absurd (never e)
  where
    never : fault_of_share (fault.Stopped stop) i ≡ turn.Wrong k w → ⊥
    never e = cc
share_is (fault.Wrong v) i k w e = (place e, ap (λ (x : WrongShare). fault.Wrong x) (which e))
  where
    place : turn.Wrong i v ≡ turn.Wrong k w → k ≡ i
    place e = cc

    which : turn.Wrong i v ≡ turn.Wrong k w → v ≡ w
    which e = cc

module _ {S : Type 0} (left : S → Option (List ℕ)) where
  -- one reply more was read
  take_push : (runs nows : List (Replies S)) (replies : List Reply) (run now : Replies S) (r : Reply) → TakeReplies left runs nows replies → TakesReply left run now r → TakeReplies left (runs ++ run ∷ []) (nows ++ now ∷ []) (replies ++ r ∷ [])
  take_push [] [] [] run now r all one = (one, tt)
  take_push [] [] (s ∷ replies) run now r all one = absurd all
  take_push [] (y ∷ nows) replies run now r all one = absurd all
  take_push (x ∷ runs) [] replies run now r all one = absurd all
  take_push (x ∷ runs) (y ∷ nows) [] run now r all one = absurd all
  take_push (x ∷ runs) (y ∷ nows) (s ∷ replies) run now r all one = (all.0, take_push runs nows replies run now r all.1 one)

  module _ (schema : Schema) (p : Parsed) (before : List (Replies S)) where
    -- What the runs so far leave
    pub record SoFar (now : List (Replies S)) (i : ℕ) (sum : Option Summed) : Type 0 where
      pub replies : List Reply
      pub takes : TakeReplies left (take i before) (take i now) replies
      pub adds : AddUp p (first_total schema p) replies (total_of_sum sum)
      pub law : IsSumOfFinal schema p replies sum
      pub rest : drop i now ≡ drop i before
      pub whole : length now ≡ length before

    pub so_far_none : (sum : Option Summed) → IsSumOver schema nothing p sum → SoFar before 0 sum
    so_far_none sum is = record {
      replies = [];
      takes = tt;
      adds = first_one_is schema p sum is;
      law = λ shares are. subst (λ (s : List Share). IsSumOver schema (together s) p sum) (sym (no_final schema p shares are)) is;
      rest = refl;
      whole = refl;
    }

    module _ (now : List (Replies S)) (i : ℕ) (sum : Option Summed) (run : Replies S) (so_far : SoFar now i sum) (lt : i < length before) (is : run ≡ get_or now i run) where
      run_is : run ≡ get_or before i run
      run_is = is ∙ item_at i now before run so_far.rest

      -- one run more
      pub so_far_more : (after : Replies S) (next : Option Summed) → AddsNext left p (get_or now i run) after sum next → SoFar (set now i after) (i + 1) next
      so_far_more after next one =
          let whole = so_far.whole in
          let below : i < length now = omega (arith, lt, whole) in
          let front = take_more before i run lt ∙ ap (λ (x : Replies S). take i before ++ x ∷ []) (sym run_is) in
          let takes = subst (λ (x : Replies S). TakesReply left x after one.reply) (sym is) one.takes in
          record {
            replies = so_far.replies ++ one.reply ∷ [];
            takes = subst (λ xs. TakeReplies left xs (take (i + 1) (set now i after)) (so_far.replies ++ one.reply ∷ [])) (sym front)
                (subst (λ ys. TakeReplies left (take i before ++ run ∷ []) ys (so_far.replies ++ one.reply ∷ [])) (sym (take_more_set now i after below))
                (take_push (take i before) (take i now) so_far.replies run after one.reply so_far.takes takes));
            adds = add_up_more p (first_total schema p) (total_of_sum sum) (total_of_sum next) so_far.replies one.reply so_far.adds one.adds;
            law = λ shares are.
                let own = last_final schema p shares so_far.replies one.reply are in
                subst (λ (s : Share). IsSumOver schema s p next) (sym (ap together own.all ∙ together-push own.front own.last)) (one.law schema (together own.front) own.last (so_far.law own.front own.are) own.is);
            rest = rest_more i before now after so_far.rest;
            whole = length-set now i after ∙ so_far.whole;
          }

      -- a run that is wrong
      pub so_far_wrong : (after : Replies S) (f : ReplyFault) (t : TurnFault) (k : ℕ) (w : WrongShare) → t ≡ fault_of_share f i → t ≡ turn.Wrong k w → (f ≡ fault.Wrong w → IsWrongNext left p (total_of_sum sum) (get_or now i run) w) → RefusesRun left schema p before (set now i after) k w
      so_far_wrong after f t k w at e wrong =
          let same = share_is f i k w (sym at ∙ e) in
          subst (λ (j : ℕ). RefusesRun left schema p before (set now i after) j w) (sym same.0) (record {
            replies = so_far.replies;
            takes = subst (λ ys. TakeReplies left (take i before) ys so_far.replies) (sym (take-set-le i now i after (omega arith))) so_far.takes;
            total = total_of_sum sum;
            adds = so_far.adds;
            within = lt;
            run = run;
            is_run = run_is;
            wrong = subst (λ (x : Replies S). IsWrongNext left p (total_of_sum sum) x w) (sym is) (wrong same.1);
          })

    -- all runs
    pub so_far_all : (now : List (Replies S)) (i : ℕ) (sum : Option Summed) → length before ≤ i → SoFar now i sum → SumsRuns left schema p before now sum
    so_far_all now i sum end so_far =
        let whole = so_far.whole in
        record {
          replies = so_far.replies;
          takes = subst (λ xs. TakeReplies left xs now so_far.replies) (take_all i before end) (subst (λ ys. TakeReplies left (take i before) ys so_far.replies) (take_all i now (omega (arith, end, whole))) so_far.takes);
          adds = so_far.adds;
          law = so_far.law;
        }
