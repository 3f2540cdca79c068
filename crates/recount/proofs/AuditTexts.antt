-- Texts that were read whole.
use Rattle.std.proofs.Common.{◌≡◌, ◌≢◌, ℕ, ◌+◌, ◌≤◌, ◌<◌, List, [], ◌∷◌, ◌++◌, length, take, Option, Some, None, Ok, Err, inl, inr, refl, sym, ◌∙◌, ap, subst}
use Rattle.std.proofs.lemmas.List.{append_cancel_left}
use Rattle.outer_io.specs.Files.{Files, file_or_empty}
use Rattle.outer_io.specs.Lines.{input_limit}
use Rattle.outer_io.specs.Told.{Told}
use Rattle.run_files.proofs.Apart.{err_is, ok_not_err, stopped}
use Rattle.run_files.proofs.Fronts.{told_long, told_whole}
use Rattle.run_files.proofs.Stages.{fails_at, fails_on, leaves_ended, leaves_more, leaves_then, same_files}
use Rattle.run_files.specs.Leaving.{FailsAtLast, LeavesPlace}
use Rattle.run_files.specs.Outside.{file_of, PlaceSeen}
use Rattle.run_files.specs.declared.stop.Stop.{Stop}
use Rattle.run_files.specs.declared.stop.Stop.TheVariants.{PlanRefused, ReadFault, WriteFault, FeedRefused}
use Rattle.recount.specs.AuditTexts.{IsOneLong, ReadsText, ReadsTexts}
use Rattle.recount.specs.declared.text_reading.Texts.{Texts}

-- what holds of a file that is told holds of its bytes
pub told_of : (o : Option Files) (files : Files) (name : List ℕ) (Q : List ℕ → Type 0) → o ≡ Some files → Told (file_of o name) Q → Q (file_or_empty files name)
told_of o files name Q is told = subst (λ (f : Option Files). Told (file_of f name) Q) is told

-- what holds of any files, and of those that are told
pub told_any : (told : Option Files) (F : Files → Type 0) → ((files : Files) → F files) → Told told F
told_any None F f = tt
told_any (Some files) F f = f files

pub told_as : (told : Option Files) (F : Files → Type 0) → ((files : Files) → told ≡ Some files → F files) → Told told F
told_as None F f = tt
told_as (Some files) F f = f files refl

module _ {P : Type 0} (p : PlaceSeen P) where
  -- the one name that was opened is the first at which a read failed
  pub fails_one : (a b : P) (name : List ℕ) (stop : Option Stop) (leaves : LeavesPlace p a b (name ∷ []) [] stop) → p.opened b ≡ p.opened a ++ name ∷ [] → FailsAtLast p a leaves.opens
  fails_one a b name stop leaves opened = subst (FailsAtLast p a) (append_cancel_left (p.opened a) (name ∷ []) leaves.opens (sym opened ∙ leaves.opened)) (fails_at p a name)

  -- a file that was not read
  pub text_ended : (a b : P) (name : List ℕ) (stop : Stop) → LeavesPlace p a b (name ∷ []) [] (Some stop) → (stop ≡ ReadFault → p.opened b ≡ p.opened a ++ name ∷ []) → (stop ≢ PlanRefused) × (stop ≢ WriteFault) × (stop ≢ FeedRefused) → ReadsText p a b name (Err stop)
  text_ended a b name stop leaves opened ends = record {
    leaves = leaves;
    first = λ e. fails_one a b name (Some stop) leaves (opened (err_is stop ReadFault e));
    whole = tt;
    long = λ e. absurd (ends.2 (err_is stop FeedRefused e));
    ends = (λ e. ends.0 (err_is stop PlanRefused e), λ e. ends.1 (err_is stop WriteFault e));
  }

  -- one that is too long
  pub text_refused : (a b : P) (name bytes : List ℕ) → LeavesPlace p a b (name ∷ []) [] None → Told (file_of (p.files a) name) (λ all. bytes ≡ take (input_limit + 1) all) → input_limit < length bytes → ReadsText p a b name (Err FeedRefused)
  text_refused a b name bytes leaves front long = record {
    leaves = leaves_ended p a b (name ∷ []) (Some FeedRefused) (λ e. cc) leaves;
    first = λ e. cc;
    whole = tt;
    long = λ e. told_long input_limit (file_of (p.files a) name) bytes front long;
    ends = (λ e. cc, λ e. cc);
  }

  -- one that was read
  pub text_read : (a b : P) (name bytes : List ℕ) → LeavesPlace p a b (name ∷ []) [] None → Told (file_of (p.files a) name) (λ all. bytes ≡ take (input_limit + 1) all) → length bytes ≤ input_limit → ReadsText p a b name (Ok bytes)
  text_read a b name bytes leaves front short = record {
    leaves = leaves;
    first = λ e. absurd (ok_not_err bytes ReadFault e);
    whole = (told_whole input_limit (file_of (p.files a) name) bytes front short, short);
    long = λ e. absurd (ok_not_err bytes FeedRefused e);
    ends = (λ e. ok_not_err bytes PlanRefused e, λ e. ok_not_err bytes WriteFault e);
  }

  -- what was read of a file at a later place is what was told at first
  of_later : (a b : P) (files : Files) (name : List ℕ) (Q : List ℕ → Type 0) → p.files b ≡ p.files a → p.files a ≡ Some files → Told (file_of (p.files b) name) Q → Q (file_or_empty files name)
  of_later a b files name Q same is told = told_of (p.files b) files name Q (same ∙ is) told

  module _ (journal script replies : List ℕ) where
    texts_ended : (a b : P) (stop : Stop) (leaves : LeavesPlace p a b (journal ∷ script ∷ replies ∷ []) [] (Some stop)) → (stop ≡ ReadFault → FailsAtLast p a leaves.opens) → (stop ≡ FeedRefused → (files : Files) → p.files a ≡ Some files → IsOneLong (file_or_empty files journal) (file_or_empty files script) (file_or_empty files replies))
        → (stop ≢ PlanRefused) × (stop ≢ WriteFault) → ReadsTexts p a b journal script replies (Err stop)
    texts_ended a b stop leaves first long ends = record {
      leaves = leaves;
      first = λ e. first (err_is stop ReadFault e);
      whole = tt;
      short = tt;
      long = λ e. long (err_is stop FeedRefused e);
      ends = (λ e. ends.0 (err_is stop PlanRefused e), λ e. ends.1 (err_is stop WriteFault e));
    }

    ends_of : {T : Type 0} (stop : Stop) → (stopped T stop ≢ Err PlanRefused) × (stopped T stop ≢ Err WriteFault) → (stop ≢ PlanRefused) × (stop ≢ WriteFault)
    ends_of stop ends = (λ e. ends.0 (ap (λ k. Err k) e), λ e. ends.1 (ap (λ k. Err k) e))

    -- the journal was not read, or is too long
    pub ended_by_journal : (a b : P) (stop : Stop) → ReadsText p a b journal (Err stop) → ReadsTexts p a b journal script replies (Err stop)
    unfolding leaves_more
    ended_by_journal a b stop one =
        texts_ended a b stop (leaves_more p a b (journal ∷ []) (script ∷ replies ∷ []) [] stop one.leaves) (λ e. one.first (ap (λ k. Err k) e))
        (λ e files is. inl (told_of (p.files a) files journal (λ all. input_limit < length all) is (one.long (ap (λ k. Err k) e)))) (ends_of stop one.ends)

    -- the script was not, after the journal
    pub ended_by_script : (a b c : P) (stop : Stop) (j : List ℕ) → ReadsText p a b journal (Ok j) → ReadsText p b c script (Err stop) → ReadsTexts p a c journal script replies (Err stop)
    unfolding leaves_more leaves_then
    ended_by_script a b c stop j one two =
        texts_ended a c stop (leaves_then p a b c (journal ∷ []) (script ∷ replies ∷ []) [] (Some stop) one.leaves (leaves_more p b c (script ∷ []) (replies ∷ []) [] stop two.leaves))
        (λ e. fails_on p a b one.leaves.opens two.leaves.opens one.leaves.opened (one.leaves.read_quiet (λ e. cc)) (two.first (ap (λ k. Err k) e)))
        (λ e files is. inr (inl (of_later a b files script (λ all. input_limit < length all) (same_files p a b _ _ one.leaves) is (two.long (ap (λ k. Err k) e))))) (ends_of stop two.ends)

    -- the replies were not, after both
    pub ended_by_replies : (a b c d : P) (stop : Stop) (j q : List ℕ) → ReadsText p a b journal (Ok j) → ReadsText p b c script (Ok q) → ReadsText p c d replies (Err stop) → ReadsTexts p a d journal script replies (Err stop)
    unfolding leaves_then
    ended_by_replies a b c d stop j q one two three =
        texts_ended a d stop (leaves_then p a b d (journal ∷ []) (script ∷ replies ∷ []) [] (Some stop) one.leaves (leaves_then p b c d (script ∷ []) (replies ∷ []) [] (Some stop) two.leaves three.leaves))
        (λ e. fails_on p a b one.leaves.opens (two.leaves.opens ++ three.leaves.opens) one.leaves.opened (one.leaves.read_quiet (λ e. cc)) (fails_on p b c two.leaves.opens three.leaves.opens two.leaves.opened (two.leaves.read_quiet (λ e. cc)) (three.first (ap (λ k. Err k) e))))
        (λ e files is. inr (inr (of_later a c files replies (λ all. input_limit < length all) (same_files p b c _ _ two.leaves ∙ same_files p a b _ _ one.leaves) is (three.long (ap (λ k. Err k) e))))) (ends_of stop three.ends)

    -- all three were read
    pub read_all : (a b c d : P) (texts : Texts) → ReadsText p a b journal (Ok texts.journal) → ReadsText p b c script (Ok texts.script) → ReadsText p c d replies (Ok texts.replies) → ReadsTexts p a d journal script replies (Ok texts)
    read_all a b c d texts one two three = record {
      leaves = leaves_then p a b d (journal ∷ []) (script ∷ replies ∷ []) [] None one.leaves (leaves_then p b c d (script ∷ []) (replies ∷ []) [] None two.leaves three.leaves);
      first = λ e. absurd (ok_not_err texts ReadFault e);
      whole = λ files is. (
        told_of (p.files a) files journal (λ all. texts.journal ≡ all) is one.whole.0,
        of_later a b files script (λ all. texts.script ≡ all) (same_files p a b _ _ one.leaves) is two.whole.0,
        of_later a c files replies (λ all. texts.replies ≡ all) (same_files p b c _ _ two.leaves ∙ same_files p a b _ _ one.leaves) is three.whole.0,
      );
      short = (one.whole.1, two.whole.1, three.whole.1);
      long = λ e. absurd (ok_not_err texts FeedRefused e);
      ends = (λ e. ok_not_err texts PlanRefused e, λ e. ok_not_err texts WriteFault e);
    }
