-- The sums so far, while the lines of a share are added.
use Rattle.std.proofs.Common.{◌≡◌, ℕ, ◌+◌, ◌<◌, ◌≤◌, List, [], ◌∷◌, ◌++◌, length, take, drop, get_or, Option, Result, IfOk, sym, ◌∙◌, ap, subst, take_all}
use Rattle.std.specs.Prelude.{IfErr}
use Rattle.std.proofs.lemmas.List.{drop_all, take_more}
use Rattle.cube_view.specs.declared.schema.Schema.{Schema}
use Rattle.query_syntax.specs.declared.query.Parsed.{Parsed}
use Rattle.reply_sums.proofs.RowSums.{drop_at}
use Rattle.share_replies.specs.Shares.{IsShare, Share, joined_shares}
use Rattle.share_replies.specs.Sums.{AddsLine, AnswersText, IsInnocentLine, IsSumOver, SumsOver}
use Rattle.share_replies.specs.declared.fault.LineFault.{LineFault}
use Rattle.share_replies.specs.declared.line.Added.{Added}
use Rattle.share_replies.specs.declared.summed.Summed.{Summed}

-- the items up to a place and the one there
pub take_at_item : {A : Type 0} (xs : List A) (i : ℕ) (x : A) → x ≡ get_or xs i x → i < length xs → take (i + 1) xs ≡ take i xs ++ x ∷ []
take_at_item xs i x is lt = take_more xs i x lt ∙ ap (λ y. take i xs ++ y ∷ []) (sym is)

module _ (schema : Schema) where
  -- one sum more
  pub sums_push : (s : Share) (ps : List Parsed) (sums : List (Option Summed)) (p : Parsed) (sum : Option Summed) → SumsOver schema s ps sums → IsSumOver schema s p sum → SumsOver schema s (ps ++ p ∷ []) (sums ++ sum ∷ [])
  sums_push s [] [] p sum all is = (is, tt)
  sums_push s [] (other ∷ sums) p sum all is = absurd all
  sums_push s (q ∷ ps) [] p sum all is = absurd all
  sums_push s (q ∷ ps) (other ∷ sums) p sum all is = (all.0, sums_push s ps sums p sum all.1 is)

  module _ (g s : Share) (ps : List Parsed) (sums : List (Option Summed)) where
    -- What the lines so far leave: the sums over both of what they answer, and the rest of both
    pub record Going (i : ℕ) (next : List (Option Summed)) (rest : List ℕ) : Type 0 where
      pub done : SumsOver schema (joined_shares g s) (take i ps) next
      pub left : SumsOver schema g (drop i ps) (drop i sums)
      pub answers : AnswersText schema s (drop i ps) rest

    pub going_first : (text : List ℕ) → SumsOver schema g ps sums → IsShare schema ps s text → Going 0 [] text
    going_first text all (replies, transcript, is) = record { done = tt; left = all; answers = (replies, transcript.each, is) }

    module _ (i : ℕ) (next : List (Option Summed)) (rest : List ℕ) (p : Parsed) (sum : Option Summed) (first : p ≡ get_or ps i p) (second : sum ≡ get_or sums i sum) (in_asked : i < length ps) (in_sums : i < length sums) (going : Going i next rest) where
      heads : SumsOver schema g (p ∷ drop (i + 1) ps) (sum ∷ drop (i + 1) sums)
      heads = subst (λ (qs : List Parsed). SumsOver schema g qs (sum ∷ drop (i + 1) sums)) (drop_at ps i p first in_asked) (subst (SumsOver schema g (drop i ps)) (drop_at sums i sum second in_sums) going.left)

      -- what the next line leaves: the sum with its reply, and the lines after it
      pub line_adds : (result : Result Added LineFault) → AddsLine p sum rest result → IfOk result (λ added. IsSumOver schema (joined_shares g s) p added.sum × AnswersText schema s (drop (i + 1) ps) added.rest.now) × IfErr result IsInnocentLine
      line_adds result adds = adds schema g s (drop (i + 1) ps) heads.0 (subst (λ (qs : List Parsed). AnswersText schema s qs rest) (drop_at ps i p first in_asked) going.answers)

      pub going_on : (total : Option Summed) (more : List ℕ) → IsSumOver schema (joined_shares g s) p total → AnswersText schema s (drop (i + 1) ps) more → Going (i + 1) (next ++ total ∷ []) more
      going_on total more is answers = record {
        done = subst (λ (qs : List Parsed). SumsOver schema (joined_shares g s) qs (next ++ total ∷ [])) (sym (take_at_item ps i p first in_asked)) (sums_push (joined_shares g s) (take i ps) next p total going.done is);
        left = heads.1;
        answers = answers;
      }

    -- all lines were added
    pub going_all : (i : ℕ) (next : List (Option Summed)) (rest : List ℕ) → length ps ≤ i → Going i next rest → SumsOver schema (joined_shares g s) ps next × (rest ≡ [])
    going_all i next rest end going = (subst (λ (qs : List Parsed). SumsOver schema (joined_shares g s) qs next) (take_all i ps end) going.done, none (subst (λ (qs : List Parsed). AnswersText schema s qs rest) (drop_all i ps end) going.answers))
      where
        none : AnswersText schema s [] rest → rest ≡ []
        none ([], all, is) = is
        none (reply ∷ replies, all, is) = absurd all
