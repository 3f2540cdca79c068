-- The lines of a share, one after another, up to the first that is wrong.
use Rattle.std.proofs.Common.{◌≡◌, ℕ, ◌+◌, List, [], ◌∷◌, ◌++◌, length, map, take, drop, Option, Result, Err, refl, sym, ◌∙◌, ap, subst, append_assoc, arith, length-append}
use Rattle.std.proofs.lemmas.List.{append-nil, drop-map}
use Rattle.std.proofs.lemmas.Grind.{flat_map-append}
use Rattle.query_syntax.specs.declared.query.Parsed.{Parsed}
use Rattle.recount.specs.Faults.{IsPrintableReply}
use Rattle.reply_json.specs.declared.reply.Reply.{Reply}
use Rattle.reply_sums.specs.Additive.{adds_up}
use Rattle.session_core.specs.Asked.{reply_line}
use Rattle.session_core.specs.Transcript.{replies_text}
use Rattle.share_replies.specs.Refusals.{AddsBy, AllAdd, IsLineWrong, IsRight, IsWrongAt, IsTextWrong, total_of_sum, totals_of}
use Rattle.share_replies.specs.declared.fault.LineFault.TheVariants as line
use Rattle.share_replies.specs.declared.fault.TextFault.{TextFault}
use Rattle.share_replies.specs.declared.fault.TextFault.TheVariants as text
use Rattle.share_replies.specs.declared.fault.WrongReply.{WrongReply}
use Rattle.share_replies.specs.declared.fault.WrongReply.TheVariants as why
use Rattle.share_replies.specs.declared.summed.Summed.{Summed}

-- the total at a place, and those after it
pub totals_at : (sums : List (Option Summed)) (i : ℕ) (sum : Option Summed) → drop i sums ≡ sum ∷ drop (i + 1) sums → drop i (totals_of sums) ≡ total_of_sum sum ∷ drop (i + 1) (totals_of sums)
totals_at sums i sum is = drop-map total_of_sum i sums ∙ (ap (map total_of_sum) is ∙ ap (λ rest. total_of_sum sum ∷ rest) (sym (drop-map total_of_sum (i + 1) sums)))

-- one reply more
add_push : (ps : List Parsed) (totals : List (Option Reply)) (replies : List Reply) (nexts : List (Option Reply)) (p : Parsed) (total : Option Reply) (more : List (Option Reply)) (reply : Reply) (next : Option Reply)
    → AllAdd ps totals replies nexts → drop (length ps) totals ≡ total ∷ more → IsPrintableReply reply → AddsBy (adds_up p) p total reply next → AllAdd (ps ++ p ∷ []) totals (replies ++ reply ∷ []) (nexts ++ next ∷ [])
add_push [] totals [] [] p total more reply next all at printable adds = subst (λ ts. AllAdd (p ∷ []) ts (reply ∷ []) (next ∷ [])) (sym at) (printable, adds, tt)
add_push (q ∷ ps) (t ∷ totals) (r ∷ replies) (n ∷ nexts) p total more reply next all at printable adds = (all.0, all.1, add_push ps totals replies nexts p total more reply next all.2 at printable adds)
add_push _ _ _ _ p total more reply next all at printable adds = absurd all

-- What the lines so far are: replies that add up, of a front of the text
pub record HasRead (ps : List Parsed) (totals : List (Option Reply)) (text : List ℕ) (i : ℕ) (nexts : List (Option Reply)) (rest : List ℕ) : Type 0 where
  pub replies : List Reply
  pub count : length replies ≡ i
  pub right : AllAdd (take i ps) totals replies nexts
  pub front : text ≡ replies_text replies ++ rest

pub read_none : (ps : List Parsed) (totals : List (Option Reply)) (text : List ℕ) → HasRead ps totals text 0 [] text
read_none ps totals text = record { replies = []; count = refl; right = tt; front = refl }

module _ (ps : List Parsed) (totals : List (Option Reply)) (text : List ℕ) (i : ℕ) (nexts : List (Option Reply)) (rest : List ℕ) (has : HasRead ps totals text i nexts rest) where
  pub read_more : (p : Parsed) (total : Option Reply) (reply : Reply) (next : Option Reply) (later : List ℕ) → take (i + 1) ps ≡ take i ps ++ p ∷ [] → length (take i ps) ≡ i → drop i totals ≡ total ∷ drop (i + 1) totals
      → IsPrintableReply reply → rest ≡ reply_line reply ++ later → AddsBy (adds_up p) p total reply next → HasRead ps totals text (i + 1) (nexts ++ next ∷ []) later
  read_more p total reply next later front size at printable is adds = record {
    replies = has.replies ++ reply ∷ [];
    count = let n = has.count in let m = length-append has.replies (reply ∷ []) in omega (arith, n, m);
    right =
        subst (λ qs. AllAdd qs totals (has.replies ++ reply ∷ []) (nexts ++ next ∷ [])) (sym front)
        (add_push (take i ps) totals has.replies nexts p total (drop (i + 1) totals) reply next has.right (ap (λ n. drop n totals) size ∙ at) printable adds);
    front =
        has.front
        ∙ (ap (λ x. replies_text has.replies ++ x) is
        ∙ (sym (append_assoc (replies_text has.replies) (reply_line reply) later)
        ∙ ap (λ x. x ++ later) (ap (λ x. replies_text has.replies ++ x) (sym (append-nil (reply_line reply))) ∙ sym (flat_map-append reply_line has.replies (reply ∷ [])))));
  }

  -- the next line is wrong
  pub read_wrong : (line : ℕ) (w : WrongReply) → line ≡ i + 1 → IsTextWrong (drop i ps) (drop i totals) rest w → IsWrongAt ps totals text line w
  read_wrong line w is fails = record {
    before = has.replies;
    nexts = nexts;
    rest = rest;
    front = has.front;
    right = subst (λ n. AllAdd (take n ps) totals has.replies nexts) (sym has.count) has.right;
    counted = is ∙ ap (λ n. n + 1) (sym has.count);
    fails = subst (λ n. IsTextWrong (drop n ps) (drop n totals) rest w) (sym has.count) fails;
  }

  -- all were read
  pub read_all : take i ps ≡ ps → rest ≡ [] → IsRight ps totals text nexts
  read_all whole none = (has.replies, subst (λ qs. AllAdd qs totals has.replies nexts) whole has.right, has.front ∙ (ap (λ x. replies_text has.replies ++ x) none ∙ append-nil (replies_text has.replies)))

-- the answer of a line by its number and what is wrong with it
abbrev of_text : (T : Type 0) → TextFault → Result T TextFault
of_text T fault = Err fault

pub at_line : {T : Type 0} (fault : TextFault) (number : ℕ) (w : WrongReply) → of_text T fault ≡ of_text T (text.At number w) → fault ≡ text.At number w
at_line fault number w e = cc

-- what is wrong with the next line, where something is left to answer, and where nothing is
pub line_of : (left : List Parsed) (totals : List (Option Reply)) (p : Parsed) (ps : List Parsed) (total : Option Reply) (more : List (Option Reply)) (rest : List ℕ) (w : WrongReply) → left ≡ p ∷ ps → totals ≡ total ∷ more → IsLineWrong p total rest w → IsTextWrong left totals rest w
line_of left totals p ps total more rest w first second fails = subst (λ (qs : List Parsed). IsTextWrong qs totals rest w) (sym first) (subst (λ (ts : List (Option Reply)). IsTextWrong (p ∷ ps) ts rest w) (sym second) fails)

pub nothing_left : (left : List Parsed) (totals : List (Option Reply)) (rest : List ℕ) (w : WrongReply) → left ≡ [] → (rest ≡ [] → ⊥) → line.Wrong why.TooMany ≡ line.Wrong w → IsTextWrong left totals rest w
nothing_left left totals rest w none some is = let same : w ≡ why.TooMany = cc in subst (λ (qs : List Parsed). IsTextWrong qs totals rest w) (sym none) (some, same)
