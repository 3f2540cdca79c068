-- The same answers over the points of a list in another order.
use Rattle.std.proofs.Common.{◌≡◌, ℕ, Bool, false, List, [], ◌∷◌, ◌++◌, length, inl, inr, Option, refl, sym, ◌∙◌, ap, subst}
use Rattle.std.specs.List.{AllZip, flat_map}
use Rattle.std.specs.List.Sorted.{IsPermutation}
use Rattle.std.proofs.lemmas.Bool.{false≢true}
use Rattle.std.proofs.lemmas.List.Sorted.{length_permutation, sum_by-IsPermutation}
use Rattle.cube_view.specs.Bag.{amount, gives}
use Rattle.cube_view.specs.Points.{Point}
use Rattle.cube_view.specs.declared.schema.Schema.{Schema}
use Rattle.cube_view.specs.declared.spot.Spot.{Spot}
use Rattle.outer_io.specs.Bytes.{Gains}
use Rattle.outer_io.specs.Lines.{Line}
use Rattle.query_syntax.specs.Tables.{table}
use Rattle.query_syntax.specs.declared.query.Parsed.{Parsed}
use Rattle.query_syntax.specs.declared.query.Parsed.TheVariants as parsed
use Rattle.query_syntax.specs.declared.query.Query.{Query}
use Rattle.query_syntax.specs.declared.query.Verb.{Verb}
use Rattle.query_syntax.specs.declared.query.Verb.TheVariants as verb
use Rattle.reply_json.specs.declared.reply.Reply.{Reply}
use Rattle.session_core.specs.Asked.{asked, query_reply, reply_line}
use Rattle.world_core.proofs.SameTables.{table-same}
use Rattle.flat_session.specs.Answers.{answer_line, flat_basis, FlatBasis, line_without_cube, no_numbers}
use Rattle.flat_session.specs.Putting.{IsAnswerLine, PutsLineAnswers, PutsLinesFront}
use Rattle.flat_session.proofs.Gained.{zip_weaker}

module _ (z : Schema) (h k : List Point) (order : IsPermutation h k) where
  weighs_same : (t : Spot → Bool) → amount t h ≡ amount t k
  unfolding amount
  weighs_same t = sym (sum_by-IsPermutation (gives t) h k order)

  number_same : length h ≡ length k
  number_same = sym (length_permutation h k order)

  table_line_same : (q : Query) → reply_line (Reply.Table (table z q h)) ≡ reply_line (Reply.Table (table z q k))
  table_line_same q = λ i. reply_line (Reply.Table (table-same z q h k weighs_same number_same i))

  verb_line_same : (q : Query) (v : Verb) → line_without_cube (query_reply no_numbers z h (length h) q v) ≡ line_without_cube (query_reply no_numbers z k (length k) q v)
  verb_line_same q verb.Count = table_line_same q
  verb_line_same q (verb.Hist c) = table_line_same q
  verb_line_same q (verb.Map down) = table_line_same q
  verb_line_same q (verb.Series from wide rows) = table_line_same q
  verb_line_same q (verb.Window rect) = table_line_same q
  verb_line_same q (verb.Cross a b) = table_line_same q
  verb_line_same q (verb.Best down rows) = table_line_same q
  verb_line_same q verb.Stat = refl
  verb_line_same q verb.Told = ap (λ n. reply_line (Reply.Told n)) number_same
  verb_line_same q verb.Quit = refl

  -- the answer to what was asked is the same
  pub answer_same : (p : Parsed) → answer_line (flat_basis z h) p ≡ answer_line (flat_basis z k) p
  answer_same parsed.Skip = refl
  answer_same (parsed.Ask q) = verb_line_same q q.verb
  answer_same (parsed.Fault fault word) = refl

  -- and so is what is put of the answers to lines
  pub front_same : (m : Bool) (a b : Option (List ℕ)) (lines : List Line) → PutsLinesFront (flat_basis z h) m a b lines → PutsLinesFront (flat_basis z k) m a b lines
  front_same m a b lines (front, later, is, (answers, each, some)) = (front, later, is, (answers, zip_weaker (IsAnswerLine (flat_basis z h) m) (IsAnswerLine (flat_basis z k) m) is_same front answers each, some))
    where
      is_same : (p : Parsed) (line : List ℕ) → IsAnswerLine (flat_basis z h) m p line → IsAnswerLine (flat_basis z k) m p line
      is_same p line (inl is) = inl (is ∙ answer_same p)
      is_same p line (inr lacks) = inr lacks

-- where no answer is the line for want of memory, each is its own line
module _ (of : FlatBasis) where
  own_lines : (ps : List Parsed) (answers : List (List ℕ)) → AllZip (IsAnswerLine of false) ps answers → flat_map (λ line. line) answers ≡ flat_map (answer_line of) ps
  own_lines [] [] each = refl
  own_lines [] (line ∷ lines) each = absurd each
  own_lines (p ∷ ps) [] each = absurd each
  own_lines (p ∷ ps) (line ∷ lines) (inl is, later) = ap (λ l. l ++ flat_map (λ x. x) lines) is ∙ ap (λ t. answer_line of p ++ t) (own_lines ps lines later)
  own_lines (p ∷ ps) (line ∷ lines) (inr lacks, later) = absurd (false≢true lacks.0)

  -- so the sink gained the line of each that was asked
  pub gains_own : (a b : Option (List ℕ)) (lines : List Line) → PutsLineAnswers of false a b lines → Gains a b (flat_map (answer_line of) (asked of.schema lines))
  gains_own a b lines (answers, each, gained) = subst (Gains a b) (own_lines (asked of.schema lines) answers each) gained
