-- A script answered turn by turn: the lines passed hold no `quit`, and the sink has gained their answers.
use Rattle.std.proofs.Common.{◌≡◌, ◌≢◌, ℕ, ◌≤◌, ◌<◌, Bool, true, false, List, [], ◌∷◌, ◌++◌, Option, Some, None, inl, inr, refl, sym, ◌∙◌, ap, subst, append-nil, append_assoc, IsSomeAnd}
use Rattle.outer_io.specs.Cutting.{Cutter, lines_left, input_size}
use Rattle.outer_io.specs.Lines.{Line, input_limit}
use Rattle.outer_io.specs.Progress.{Passes, IsTooLarge}
use Rattle.outer_io.proofs.ProgressLaws.{passes_on}
use Rattle.outer_io.proofs.ToldLaws.{Told-each}
use Rattle.outer_io.specs.Told.{Told}
use Rattle.outer_io.specs.declared.source.Source as Source
use Rattle.session_core.specs.Asked.{asked}
use Rattle.session_core.specs.Scripts.{has_quit, is_quit}
use Rattle.session_core.specs.Turns.{Stops}
use Rattle.session_core.specs.declared.fault.SessionFault.{SessionFault}
use Rattle.session_core.specs.declared.fault.SessionFault.TheVariants as fault
use Rattle.session_core.proofs.AskedLaws.{asked-append, asked-quit, has_quit-push, has_quit-at}
use Rattle.session_core.proofs.WholeScripts.{told_by}
use Rattle.flat_session.specs.Answers.{FlatBasis}
use Rattle.flat_session.specs.Putting.{HasEnd, HasTooMuch, PutsAnswers, PutsLeft, PutsLeftPart, PutsLineAnswers, PutsLinesFront, PutsNext, PutsNextPart}
use Rattle.flat_session.proofs.Gained.{part_all, part_more, puts_lacking, puts_none, puts_on}

-- where some lines were passed, a claim of all follows from one of those after them
all_after : (before after : Option (List Line)) (xs : List Line) (P Q : List Line → Type 0) → ((rest : List Line) → P rest → Q (xs ++ rest)) → Told before (λ all. IsSomeAnd after (λ rest. all ≡ xs ++ rest)) → Told after P → Told before Q
all_after None after xs P Q step passed left = tt
all_after (Some all) None xs P Q step passed left = absurd passed
all_after (Some all) (Some rest) xs P Q step passed left = subst Q (sym passed) (step rest left)

module _ {S : Type 0} (source : Source.Ghosts S) (of : FlatBasis) (m : Bool) where
  abbrev All : Cutter S → Type 0
  All before = Told (lines_left source.left before) (λ all. Unit {0})

  -- the lines passed so far, and what was gained for them
  pub record HasAnswered (before after : Cutter S) (held now : Option (List ℕ)) : Type 0 where
    pub lines : List Line
    pub no_quit : has_quit of.schema lines ≡ false
    pub gained : PutsLineAnswers of m held now lines
    pub passed : Passes source.left source.faults before after lines

  any : (c : Cutter S) → All c
  any c = told_by (lines_left source.left c) _ (λ all is. tt)

  pub answers_next : (a b c : Cutter S) (held mid now : Option (List ℕ)) → HasAnswered a b held mid → PutsNext of m source b c mid now → HasAnswered a c held now
  answers_next a b c held mid now so_far (line, on, no_quit, gained) =
      record {
        lines = so_far.lines ++ line ∷ [];
        no_quit = has_quit-push of.schema so_far.lines line so_far.no_quit no_quit;
        gained =
            subst (λ ps. PutsAnswers of m held now ps) (sym (asked-append of.schema so_far.lines (line ∷ []) so_far.no_quit))
            (puts_on of m held mid now (asked of.schema so_far.lines) (asked of.schema (line ∷ [])) so_far.gained gained);
        passed = passes_on source.left source.faults a b c so_far.lines (line ∷ []) so_far.passed on.passed;
      }

  -- a part of all answers, wherever the turns end
  pub front_so_far : (a b : Cutter S) (held now : Option (List ℕ)) → HasAnswered a b held now → PutsLeftPart of m source.left a held now
  front_so_far a b held now so_far =
      all_after (lines_left source.left a) (lines_left source.left b) so_far.lines (λ rest. Unit {0}) (PutsLinesFront of m held now)
      (λ rest here. (asked of.schema so_far.lines, asked of.schema rest, asked-append of.schema so_far.lines rest so_far.no_quit, part_all of m held now (asked of.schema so_far.lines) so_far.gained))
      so_far.passed.covers (any b)

  front_of_next : (a b c : Cutter S) (held mid now : Option (List ℕ)) → HasAnswered a b held mid → PutsNextPart of m source b c mid now → PutsLeftPart of m source.left a held now
  front_of_next a b c held mid now so_far (line, on, no_quit, some) =
      let xs = so_far.lines ++ line ∷ [] in
      let none = has_quit-push of.schema so_far.lines line so_far.no_quit no_quit in
      all_after (lines_left source.left a) (lines_left source.left c) xs (λ rest. Unit {0}) (PutsLinesFront of m held now)
      (λ rest here. (
        asked of.schema so_far.lines ++ asked of.schema (line ∷ []),
        asked of.schema rest,
        asked-append of.schema xs rest none ∙ ap (λ ps. ps ++ asked of.schema rest) (asked-append of.schema so_far.lines (line ∷ []) so_far.no_quit),
        part_more of m held mid now (asked of.schema so_far.lines) (asked of.schema (line ∷ [])) so_far.gained some,
      ))
      (passes_on source.left source.faults a b c so_far.lines (line ∷ []) so_far.passed on.passed).covers (any c)

  -- the same with what the sink held before the last turn, which put nothing
  pub put_nothing : (a b : Cutter S) (held mid now : Option (List ℕ)) → now ≡ mid → HasAnswered a b held mid → HasAnswered a b held now
  put_nothing a b held mid now same so_far = subst (HasAnswered a b held) (sym same) so_far

  pub front_at_fault : (a b c : Cutter S) (held mid now : Option (List ℕ)) (f : SessionFault) → HasAnswered a b held mid → (f ≡ fault.Write → PutsNextPart of m source b c mid now) → (f ≢ fault.Write → now ≡ mid) → PutsLeftPart of m source.left a held now
  front_at_fault a b c held mid now fault.Write so_far broken same = front_of_next a b c held mid now so_far (broken refl)
  front_at_fault a b c held mid now fault.Read so_far broken same = front_so_far a b held now (put_nothing a b held mid now (same (λ e. cc)) so_far)
  front_at_fault a b c held mid now fault.NoMemory so_far broken same = front_so_far a b held now (put_nothing a b held mid now (same (λ e. cc)) so_far)
  front_at_fault a b c held mid now fault.TooMuch so_far broken same = front_so_far a b held now (put_nothing a b held mid now (same (λ e. cc)) so_far)

  -- all answers where no line is left
  whole_at_end : (a b : Cutter S) (held now : Option (List ℕ)) → HasAnswered a b held now → Told (lines_left source.left b) (λ all. all ≡ []) → Told (lines_left source.left a) (λ all. PutsLineAnswers of m held now all × (has_quit of.schema all ≡ false))
  whole_at_end a b held now so_far none =
      all_after (lines_left source.left a) (lines_left source.left b) so_far.lines (λ rest. rest ≡ []) (λ all. PutsLineAnswers of m held now all × (has_quit of.schema all ≡ false))
      (λ rest is. subst (λ ls. PutsLineAnswers of m held now ls × (has_quit of.schema ls ≡ false)) (sym (ap (λ ls. so_far.lines ++ ls) is ∙ append-nil so_far.lines)) (so_far.gained, so_far.no_quit))
      so_far.passed.covers none

  -- and at `quit`
  whole_at_quit : (a b c : Cutter S) (held now : Option (List ℕ)) (line : Line) → HasAnswered a b held now → Passes source.left source.faults b c (line ∷ []) → is_quit of.schema line ≡ true → Told (lines_left source.left a) (λ all. PutsLineAnswers of m held now all × (has_quit of.schema all ≡ true))
  whole_at_quit a b c held now line so_far on quit =
      all_after (lines_left source.left a) (lines_left source.left c) (so_far.lines ++ line ∷ []) (λ rest. Unit {0}) (λ all. PutsLineAnswers of m held now all × (has_quit of.schema all ≡ true))
      (λ rest here. subst (λ ls. PutsLineAnswers of m held now ls × (has_quit of.schema ls ≡ true)) (sym (append_assoc so_far.lines (line ∷ []) rest)) (
        subst (λ ps. PutsAnswers of m held now ps) (sym (asked-quit of.schema so_far.lines line rest so_far.no_quit quit)) so_far.gained,
        has_quit-at of.schema so_far.lines line rest quit,
      ))
      (passes_on source.left source.faults a b c so_far.lines (line ∷ []) so_far.passed on).covers (any c)

  pub left_at_stop : (a b c : Cutter S) (held now : Option (List ℕ)) → HasAnswered a b held now → Stops source.left source.faults of.schema b c → PutsLeft of m source.left a held now
  left_at_stop a b c held now so_far (inl e) = Told-each (lines_left source.left a) _ _ (λ all it. it.0) (whole_at_end a b held now so_far e.covers)
  left_at_stop a b c held now so_far (inr (line, on, quit)) = Told-each (lines_left source.left a) _ _ (λ all it. it.0) (whole_at_quit a b c held now line so_far on.passed quit)

  pub end_at_stop : (a b c : Cutter S) (held now : Option (List ℕ)) → HasAnswered a b held now → Stops source.left source.faults of.schema b c → HasEnd of source.left a
  end_at_stop a b c held now so_far (inl e) = inl (Told-each (input_size source.left a) _ (λ n. n ≤ input_limit) (λ n is. subst (λ (o : Option ℕ). Told o (λ n. n ≤ input_limit)) is e.size) so_far.passed.size)
  end_at_stop a b c held now so_far (inr (line, on, quit)) = inr (Told-each (lines_left source.left a) _ _ (λ all it. it.1) (whole_at_quit a b c held now line so_far on.passed quit))

  pub left_at_end : (a b : Cutter S) (held now : Option (List ℕ)) → HasAnswered a b held now → Told (lines_left source.left b) (λ all. all ≡ []) → PutsLeft of m source.left a held now
  left_at_end a b held now so_far none = Told-each (lines_left source.left a) _ _ (λ all it. it.0) (whole_at_end a b held now so_far none)

  -- more is left than is read
  pub too_much_left : (a b : Cutter S) (held now : Option (List ℕ)) → HasAnswered a b held now → IsTooLarge source.left b × Told (lines_left source.left b) (λ all. all ≡ []) → HasTooMuch of source.left a
  too_much_left a b held now so_far (large, none) = (
    Told-each (input_size source.left a) _ (λ n. input_limit < n) (λ n is. subst (λ (o : Option ℕ). Told o (λ n. input_limit < n)) is large) so_far.passed.size,
    Told-each (lines_left source.left a) _ _ (λ all it. it.1) (whole_at_end a b held now so_far none),
  )

  -- nothing was answered
  pub front_none : (held : Option (List ℕ)) (lines : List Line) → PutsLinesFront of m held held lines
  front_none held lines = ([], asked of.schema lines, refl, part_all of m held held [] (puts_none of m held))

-- where no answer may be the line for want of memory, one may be
module _ {S : Type 0} (source : Source.Ghosts S) (of : FlatBasis) (l m : Bool) (may : l ≡ true → m ≡ true) (before after : Cutter S) (held now : Option (List ℕ)) where
  pub answered_lacking : HasAnswered source of l before after held now → HasAnswered source of m before after held now
  answered_lacking so_far =
      record {
        lines = so_far.lines;
        no_quit = so_far.no_quit;
        gained = puts_lacking of l m may held now (asked of.schema so_far.lines) so_far.gained;
        passed = so_far.passed;
      }
