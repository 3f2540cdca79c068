-- The lines of sums, one after another.
use Rattle.std.proofs.Common.{◌≡◌, ℕ, zero, suc, ◌+◌, ◌<◌, List, [], ◌∷◌, ◌++◌, length, take, drop, get_or, Option, Some, None, Result, Ok, Err, OnOk, refl, sym, ◌∙◌, ap, subst, arith, append_assoc}
use Rattle.std.proofs.lemmas.Grind.{flat_map-append}
use Rattle.std.proofs.lemmas.List.{append-nil, map-append, take-append-drop, take-map}
use Rattle.cube_view.specs.declared.schema.Schema.{Schema}
use Rattle.outer_io.proofs.GainedLaws.{gains_none, gains_on, part_on}
use Rattle.outer_io.specs.Bytes.{Gains, GainsPart}
use Rattle.outer_io.specs.Faults.{Rose}
use Rattle.plain_cube.specs.Listed.{no_structure}
use Rattle.query_syntax.specs.declared.query.Parsed.{Parsed}
use Rattle.reply_json.specs.Types.{ReplyFits}
use Rattle.reply_json.specs.declared.reply.Reply.{Reply}
use Rattle.reply_sums.proofs.RowSums.{drop_at}
use Rattle.reply_sums.specs.Additive.{adds_up}
use Rattle.run_files.proofs.Apart.{err_is, ok_not_err}
use Rattle.run_files.specs.Outside.{Puts, Silent, SinkSeen}
use Rattle.run_files.specs.Saying.{SaysText}
use Rattle.run_files.specs.declared.stop.Stop.{Stop}
use Rattle.run_files.specs.declared.stop.Stop.TheVariants.{NoMemory, PlanRefused, ReadFault, WriteFault, FeedRefused}
use Rattle.session_core.specs.Asked.{reply_line}
use Rattle.session_core.proofs.OwnReplies.{reply_own}
use Rattle.share_replies.specs.Refusals.{total_of_sum, totals_of}
use Rattle.share_replies.specs.Shares.{AnyStat, Share}
use Rattle.share_replies.specs.Sums.{IsSumOver, SumsOver}
use Rattle.share_replies.specs.Texts.{IsLineOver, IsSummedText, PutsSumLine, PutsSums, PutsTotals, not_additive_line, total_line, totals_text}
use Rattle.share_replies.specs.declared.summed.Summed.{Summed}

-- the lines of sums and one more
totals_push : (sums : List (Option Summed)) (sum : Option Summed) → totals_text (totals_of (sums ++ sum ∷ [])) ≡ totals_text (totals_of sums) ++ total_line (total_of_sum sum)
totals_push [] sum = append-nil (total_line (total_of_sum sum))
totals_push (first ∷ sums) sum = ap (λ t. total_line (total_of_sum first) ++ t) (totals_push sums sum) ∙ sym (append_assoc (total_line (total_of_sum first)) (totals_text (totals_of sums)) (total_line (total_of_sum sum)))

-- the lines of sums before one, its own, and those after it
totals_split : (sums : List (Option Summed)) (i : ℕ) (sum : Option Summed) → sum ≡ get_or sums i sum → i < length sums → totals_text (totals_of sums) ≡ totals_text (totals_of (take i sums)) ++ (total_line (total_of_sum sum) ++ totals_text (totals_of (drop (i + 1) sums)))
totals_split sums i sum item lt =
    ap (λ ss. totals_text (totals_of ss)) (sym (take-append-drop i sums))
    ∙ (ap totals_text (map-append total_of_sum (take i sums) (drop i sums))
    ∙ (flat_map-append total_line (totals_of (take i sums)) (totals_of (drop i sums)) ∙ ap (λ ss. totals_text (totals_of (take i sums)) ++ totals_text (totals_of ss)) (drop_at sums i sum item lt)))

-- what follows of a good end
pub on_ok : {T E : Type 0} (r : Result T E) (P Q : Type 0) → (P → Q) → OnOk r P → OnOk r Q
on_ok (Ok x) P Q f p = f p
on_ok (Err e) P Q f p = tt

-- nothing was put for no totals, and for one more its line
module _ {O : Type 0} (s : SinkSeen O) where
  pub totals_none : (a : O) → Puts s a a (totals_text [])
  totals_none a = record { held = gains_none (s.held a); faults = refl; name = refl }

  pub totals_more : (a b c : O) (sums : List (Option Summed)) (i : ℕ) (sum : Option Summed) → take (i + 1) sums ≡ take i sums ++ sum ∷ [] → Puts s a b (totals_text (totals_of (take i sums))) → Puts s b c (total_line (total_of_sum sum)) → Puts s a c (totals_text (totals_of (take (i + 1) sums)))
  totals_more a b c sums i sum at before more =
      let here : totals_text (totals_of (take i sums)) ++ total_line (total_of_sum sum) ≡ totals_text (totals_of (take (i + 1) sums)) = sym (ap (λ ss. totals_text (totals_of ss)) at ∙ totals_push (take i sums) sum) in
      record {
        held = subst (λ (t : List ℕ). Gains (s.held a) (s.held c) t) here (gains_on (s.held a) (s.held b) (s.held c) (totals_text (totals_of (take i sums))) (total_line (total_of_sum sum)) before.held more.held);
        faults = more.faults ∙ before.faults;
        name = more.name ∙ before.name;
      }

  -- what was put is still all that was
  puts_still : (a b c : O) (text : List ℕ) → Puts s a b text → Silent s b c → Puts s a c text
  puts_still a b c text puts quiet = record {
    held = subst (λ (h : Option (List ℕ)). Gains (s.held a) h text) (sym quiet.held) puts.held;
    faults = quiet.faults ∙ puts.faults;
    name = quiet.name ∙ puts.name;
  }

  -- all lines were put
  pub totals_put : {T : Type 0} (a b : O) (totals : List (Option Reply)) (x : T) → Puts s a b (totals_text totals) → PutsTotals s a b totals (Ok x)
  totals_put a b totals x puts = record { puts = puts; fails = λ e. absurd (ok_not_err x WriteFault e); first = λ e. absurd (ok_not_err x NoMemory e); ends = (ok_not_err x PlanRefused, ok_not_err x ReadFault, ok_not_err x FeedRefused) }

  -- or not all, as the next was not
  pub totals_failed : {T U : Type 0} (a b c : O) (sums : List (Option Summed)) (i : ℕ) (sum : Option Summed) (stop : Stop) → sum ≡ get_or sums i sum → i < length sums → Puts s a b (totals_text (totals_of (take i sums)))
      → SaysText {T = T} s b c (total_line (total_of_sum sum)) (Err stop) → PutsTotals {T = U} s a c (totals_of sums) (Err stop)
  totals_failed a b c sums i sum stop item lt before says = record {
    puts = tt;
    fails = λ e.
        let fails = says.fails (ap (λ k. Err k) (err_is stop WriteFault e)) in
        record {
          held = subst (λ (t : List ℕ). GainsPart (s.held a) (s.held c) t) (sym (totals_split sums i sum item lt)) (part_on (s.held a) (s.held b) (s.held c) (totals_text (totals_of (take i sums))) (total_line (total_of_sum sum)) (totals_text (totals_of (drop (i + 1) sums))) before.held fails.held);
          faults = subst (λ (n : ℕ). Rose n (s.faults c)) before.faults fails.faults;
          name = fails.name ∙ before.name;
        };
    first = λ e. (i, subst (λ (totals : List (Option Reply)). Puts s a c (totals_text totals)) (sym (take-map total_of_sum i sums)) (puts_still a b c _ before (says.silent (ap (λ k. Err k) (err_is stop NoMemory e)))));
    ends = (λ e. says.ends.0 (ap (λ k. Err k) (err_is stop PlanRefused e)), λ e. says.ends.1 (ap (λ k. Err k) (err_is stop ReadFault e)), λ e. says.ends.2 (ap (λ k. Err k) (err_is stop FeedRefused e)));
  }

  -- so it is whatever is answered of it
  pub totals_ended : {T U : Type 0} (a b : O) (totals : List (Option Reply)) (stop : Stop) → PutsTotals {T = T} s a b totals (Err stop) → PutsTotals {T = U} s a b totals (Err stop)
  totals_ended a b totals stop put = record {
    puts = tt;
    fails = λ e. put.fails (ap (λ k. Err k) (err_is stop WriteFault e));
    first = λ e. put.first (ap (λ k. Err k) (err_is stop NoMemory e));
    ends = (λ e. put.ends.0 (ap (λ k. Err k) (err_is stop PlanRefused e)), λ e. put.ends.1 (ap (λ k. Err k) (err_is stop ReadFault e)), λ e. put.ends.2 (ap (λ k. Err k) (err_is stop FeedRefused e)));
  }

module _ (schema : Schema) (s : Share) where
  -- the line of a sum
  pub line_of_sum : (p : Parsed) (sum : Summed) (line : List ℕ) → IsSumOver schema s p (Some sum) → line ≡ reply_line sum.reply → ReplyFits sum.reply → IsLineOver schema s (adds_up p) p line
  line_of_sum p sum line is text fits =
      subst (λ b. IsLineOver schema s b p line) (sym is.0) (sum.reply, reply_own schema AnyStat s.points s.told no_structure p sum.reply tt is.1 fits, text)

  pub line_of_none : (p : Parsed) (line : List ℕ) → IsSumOver schema s p None → line ≡ not_additive_line → IsLineOver schema s (adds_up p) p line
  line_of_none p line is text = subst (λ b. IsLineOver schema s b p line) (sym is) text

  -- one line more
  text_push : (ps : List Parsed) (text : List ℕ) (p : Parsed) (line : List ℕ) → IsSummedText schema s ps text → IsLineOver schema s (adds_up p) p line → IsSummedText schema s (ps ++ p ∷ []) (text ++ line)
  text_push [] text p line none is = (line, [], is, refl, ap (λ t. t ++ line) none ∙ sym (append-nil line))
  text_push (q ∷ ps) text p line (first, rest, here, later, split) is = (first, rest ++ line, here, text_push ps rest p line later is, ap (λ t. t ++ line) split ∙ append_assoc first rest line)

  pub puts_none : (before : Option (List ℕ)) → PutsSums schema s [] before before
  puts_none before = ([], refl, gains_none before)

  pub puts_more : (ps : List Parsed) (p : Parsed) (a b c : Option (List ℕ)) → PutsSums schema s ps a b → PutsSumLine schema s p b c → PutsSums schema s (ps ++ p ∷ []) a c
  puts_more ps p a b c (text, are, gained) (line, is, more) = (text ++ line, text_push ps text p line are is, gains_on a b c text line gained more)

  -- What is asked at the place of a sum
  pub record SumAt (ps : List Parsed) (i : ℕ) (sum : Option Summed) : Type 0 where
    pub asked : Parsed
    pub front : take (i + 1) ps ≡ take i ps ++ asked ∷ []
    pub is : IsSumOver schema s asked sum

  pub sum_at : (ps : List Parsed) (sums : List (Option Summed)) (i : ℕ) (d : Option Summed) → SumsOver schema s ps sums → i < length sums → SumAt ps i (get_or sums i d)
  sum_at [] [] i d all lt = absurd (omega (arith, lt))
  sum_at [] (sum ∷ sums) i d all lt = absurd all
  sum_at (p ∷ ps) [] i d all lt = absurd all
  sum_at (p ∷ ps) (sum ∷ sums) zero d all lt = record { asked = p; front = refl; is = all.0 }
  sum_at (p ∷ ps) (sum ∷ sums) (suc i) d all lt =
      let rest = sum_at ps sums i d all.1 (omega (arith, lt)) in
      let on : suc i + 1 ≡ suc (i + 1) = omega arith in
      record { asked = rest.asked; front = ap (λ n. take n (p ∷ ps)) on ∙ ap (λ qs. p ∷ qs) rest.front; is = rest.is }

  pub sums_length : (ps : List Parsed) (sums : List (Option Summed)) → SumsOver schema s ps sums → length ps ≡ length sums
  sums_length [] [] all = refl
  sums_length [] (sum ∷ sums) all = absurd all
  sums_length (p ∷ ps) [] all = absurd all
  sums_length (p ∷ ps) (sum ∷ sums) all = ap (λ n. suc n) (sums_length ps sums all.1)
