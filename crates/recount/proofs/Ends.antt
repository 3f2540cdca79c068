-- How an audit ends, by how its stages ended.
use Rattle.std.proofs.Common.{◌≡◌, ◌≢◌, ◌⊎◌, ℕ, ◌≤◌, List, [], ◌∷◌, ◌++◌, length, length-append, Option, Some, None, Result, Ok, Err, inl, inr, refl, sym, ◌∙◌, ap, subst, arith}
use Rattle.std.specs.Prelude.{IsOk, is_ok}
use Rattle.std.specs.Result.{result_err}
use Rattle.cube_schema.specs.Meaning.{plan_meaning}
use Rattle.cube_schema.specs.declared.fault.PlanFault.{PlanFault}
use Rattle.cube_schema.specs.declared.plan.Plan.{Plan}
use Rattle.outer_io.specs.Files.{Files, file_or_empty}
use Rattle.outer_io.specs.Lines.{input_limit}
use Rattle.run_files.proofs.Apart.{err_is, ok_not_err, same_stop, stopped}
use Rattle.run_files.proofs.Fronts.{no_fault}
use Rattle.run_files.proofs.PlanReads.{plan_end}
use Rattle.run_files.proofs.SinkPuts.{fails_after, puts_after, silent_after}
use Rattle.run_files.proofs.Stages.{fails_on, leaves_ended, leaves_more, leaves_then, nothing_made, same_created, same_files}
use Rattle.run_files.specs.Leaving.{FailsAtLast, LeavesPlace}
use Rattle.run_files.specs.Outside.{FailsToPut, file_of, PlaceSeen, Silent, SinkSeen}
use Rattle.run_files.specs.Planned.{IsPlanOf, ReadsPlan}
use Rattle.run_files.specs.declared.stop.Stop.{Stop}
use Rattle.run_files.specs.declared.stop.Stop.TheVariants.{NoMemory, PlanRefused, ReadFault, WriteFault, FeedRefused}
use Rattle.recount.specs.declared.verdict.Verdict.{Verdict}
use Rattle.recount.proofs.AuditTexts.{fails_one, told_any, told_as, told_of}
use Rattle.recount.specs.Ends.{HasNoTexts, IsVerdictOf, OpensAudit, RecountEnds}
use Rattle.recount.specs.VerdictLines.{verdict_line}
use Rattle.recount.specs.Names.{AuditNames}
use Rattle.recount.specs.AuditTexts.{AreShort, IsOneLong, ReadsTexts}
use Rattle.recount.specs.Said.{AuditsTexts, HasVerdictUnder, SaysVerdict}
use Rattle.recount.specs.declared.audit.Audit.{Audit}
use Rattle.recount.specs.declared.text_reading.Texts.{Texts}

-- texts of which one is long are not short
not_both : (j q r : List ℕ) → AreShort j q r → IsOneLong j q r → ⊥
not_both j q r short (inl long) = omega (arith, short.0, long)
not_both j q r short (inr (inl long)) = omega (arith, short.1, long)
not_both j q r short (inr (inr long)) = omega (arith, short.2, long)

ended_texts : (stop : Stop) → stop ≢ WriteFault → HasNoTexts (Err stop)
ended_texts NoMemory other = inr (inl refl)
ended_texts PlanRefused other = inr (inr (inr refl))
ended_texts ReadFault other = inr (inr (inl refl))
ended_texts WriteFault other = absurd (other refl)
ended_texts FeedRefused other = inl refl

-- an end with no other cause is want of memory
ended_well : (stop : Stop) → stop ≢ PlanRefused → stop ≢ ReadFault → stop ≢ WriteFault → stop ≢ FeedRefused → IsOk (stopped Audit stop) ⊎ (stopped Audit stop ≡ Err NoMemory)
ended_well NoMemory plan read write feed = inr refl
ended_well PlanRefused plan read write feed = absurd (plan refl)
ended_well ReadFault plan read write feed = absurd (read refl)
ended_well WriteFault plan read write feed = absurd (write refl)
ended_well FeedRefused plan read write feed = absurd (feed refl)

-- where a verdict is not said, and no put failed, memory ran out
only_memory : (stop : Stop) → (stopped Audit stop ≢ Err PlanRefused) × (stopped Audit stop ≢ Err ReadFault) × (stopped Audit stop ≢ Err FeedRefused) → stop ≢ WriteFault → stop ≡ NoMemory
only_memory NoMemory ends write = refl
only_memory PlanRefused ends write = absurd (ends.0 refl)
only_memory ReadFault ends write = absurd (ends.1 refl)
only_memory WriteFault ends write = absurd (write refl)
only_memory FeedRefused ends write = absurd (ends.2 refl)

module _ {P O : Type 0} (p : PlaceSeen P) (s : SinkSeen O) (plan journal script replies : List ℕ) where
  abbrev Names : List (List ℕ)
  Names = plan ∷ journal ∷ script ∷ replies ∷ []

  abbrev Named : AuditNames
  Named = record { plan = plan; journal = journal; script = script; replies = replies }

  same_writes : (a b : P) (stop : Option Stop) → LeavesPlace p a b Names [] stop → p.write_faults b ≡ p.write_faults a
  same_writes a b stop stage = stage.unwritten (nothing_made p a b Names stop stage)

  -- of a place that opened the plan alone, or nothing
  opens_plan : (a b : P) (stop : Stop) → LeavesPlace p a b (plan ∷ []) [] (Some stop) → (stop ≡ ReadFault → p.opened b ≡ p.opened a ++ plan ∷ []) → OpensAudit p a b Named (Err stop)
  unfolding leaves_more
  opens_plan a b stop leaves opened =
      let few : length leaves.opens ≤ 1 = let n = ap length leaves.inputs_are ∙ length-append leaves.opens leaves.unopened in omega (arith, n) in
      record {
        leaves = leaves_more p a b (plan ∷ []) (journal ∷ script ∷ replies ∷ []) [] stop leaves;
        first = λ e. fails_one p a b plan (Some stop) leaves (opened (err_is stop ReadFault e));
        refused_plan = λ e. few;
        no_plan = told_any (p.files a) (λ files. (fault : PlanFault) → plan_meaning (file_or_empty files plan) ≡ Err fault → length leaves.opens ≤ 1) (λ files fault bad. few);
      }

  -- the plan was refused, or was not read
  pub ended_by_plan : (a b : P) (out out' : O) (stop : Stop) → LeavesPlace p a b (plan ∷ []) [] (Some stop) → (stop ≡ ReadFault → p.opened b ≡ p.opened a ++ plan ∷ []) → ReadsPlan s out out' (file_of (p.files a) plan) (Err stop) → RecountEnds p s a b out out' Named (Err stop)
  ended_by_plan a b out out' stop leaves opened reads =
      let opens = opens_plan a b stop leaves opened in
      let all : LeavesPlace p a b Names [] (Some stop) = opens.leaves in
      record {
        done = tt;
        unsaid = λ e. absurd (reads.ends.0 (err_is stop WriteFault e));
        refused_plan = λ e. reads.refused (ap (λ k. Err k) (err_is stop PlanRefused e));
        no_plan = λ files is fault bad. plan_end stop reads.ends;
        refused = λ e. absurd (reads.ends.1 (err_is stop FeedRefused e));
        no_texts = λ files is long. ended_texts stop reads.ends.0;
        silent = λ other e not_plan not_write. reads.silent (λ refused. not_plan (sym (err_is stop other e) ∙ err_is stop PlanRefused refused));
        complete = λ files is good short read write. ended_well stop
            (λ e. let told = reads.refused (ap (λ k. Err k) e) in no_fault (file_or_empty files plan) told.fault good (told_of (p.files a) files plan (λ all. plan_meaning all ≡ Err told.fault) is told.meaning))
            (λ e. read (all.read (ap (λ k. Some k) e))) reads.ends.0 reads.ends.1;
        opens = opens;
        created = same_created p a b Names (Some stop) all;
        write_faults = same_writes a b (Some stop) all;
        files = same_files p a b Names (Some stop) all;
      }

  -- there is a plan, and the files are as before
  module _ (a b c : P) (out mid : O) (pl : Plan) (leaves : LeavesPlace p a b (plan ∷ []) [] None) (reads : ReadsPlan s out mid (file_of (p.files a) plan) (Ok pl)) where
    quiet : Silent s out mid
    quiet = reads.silent (λ e. ok_not_err pl PlanRefused e)

    whole : (stop : Option Stop) → LeavesPlace p b c (journal ∷ script ∷ replies ∷ []) [] stop → LeavesPlace p a c Names [] stop
    whole stop more = leaves_then p a b c (plan ∷ []) (journal ∷ script ∷ replies ∷ []) [] stop leaves more

    same : p.files b ≡ p.files a
    same = same_files p a b (plan ∷ []) None leaves

    is_plan : (files : Files) → p.files a ≡ Some files → IsPlanOf (Some (file_or_empty files plan)) pl
    is_plan files is = subst (λ (f : Option Files). IsPlanOf (file_of f plan) pl) is reads.plan

    plan_good : (files : Files) → p.files a ≡ Some files → (fault : PlanFault) → plan_meaning (file_or_empty files plan) ≡ Err fault → ⊥
    plan_good files is fault bad = no_fault (file_or_empty files plan) fault (ap is_ok (is_plan files is).meaning) bad

    -- what was opened under it
    opens_with : (result : Result Audit Stop) (all : LeavesPlace p a c Names [] (result_err result)) → (result ≡ Err ReadFault → FailsAtLast p a all.opens) → result ≢ Err PlanRefused → OpensAudit p a c Named result
    opens_with result all first not_plan = record {
      leaves = all;
      first = first;
      refused_plan = λ e. absurd (not_plan e);
      no_plan = told_as (p.files a) (λ files. (fault : PlanFault) → plan_meaning (file_or_empty files plan) ≡ Err fault → length all.opens ≤ 1) (λ files is fault bad. absurd (plan_good files is fault bad));
    }

    -- and of texts that were not all read
    opens_texts : (stop : Stop) → ReadsTexts p b c journal script replies (Err stop) → OpensAudit p a c Named (Err stop)
    unfolding leaves_then
    opens_texts stop texts =
        opens_with (Err stop) (leaves_then p a b c (plan ∷ []) (journal ∷ script ∷ replies ∷ []) [] (Some stop) leaves texts.leaves)
        (λ e. fails_on p a b leaves.opens texts.leaves.opens leaves.opened (leaves.read_quiet (λ e. cc)) (texts.first (ap (λ k. Err k) (err_is stop ReadFault e)))) (λ e. texts.ends.0 (ap (λ k. Err k) (err_is stop PlanRefused e)))

    -- a text was refused, or was not read
    pub ended_by_texts : (stop : Stop) → ReadsTexts p b c journal script replies (Err stop) → RecountEnds p s a c out mid Named (Err stop)
    ended_by_texts stop texts =
        let opens = opens_texts stop texts in
        let all : LeavesPlace p a c Names [] (Some stop) = opens.leaves in
        record {
          done = tt;
          unsaid = λ e. absurd (texts.ends.1 (ap (λ k. Err k) (err_is stop WriteFault e)));
          refused_plan = λ e. absurd (texts.ends.0 (ap (λ k. Err k) (err_is stop PlanRefused e)));
          no_plan = λ files is fault bad. absurd (plan_good files is fault bad);
          refused = λ e files is. texts.long (ap (λ k. Err k) (err_is stop FeedRefused e)) files (same ∙ is);
          no_texts = λ files is long. ended_texts stop (λ e. texts.ends.1 (ap (λ k. Err k) e));
          silent = λ other e not_plan not_write. quiet;
          complete = λ files is good short read write. ended_well stop (λ e. texts.ends.0 (ap (λ k. Err k) e)) (λ e. read (all.read (ap (λ k. Some k) e))) (λ e. texts.ends.1 (ap (λ k. Err k) e))
              (λ e. not_both _ _ _ short (texts.long (ap (λ k. Err k) e) files (same ∙ is)));
          opens = opens;
          created = same_created p a c Names (Some stop) all;
          write_faults = same_writes a c (Some stop) all;
          files = same_files p a c Names (Some stop) all;
        }

    -- the texts were read, and the verdict on them is the one on the files
    module _ (texts : Texts) (read : ReadsTexts p b c journal script replies (Ok texts)) where
      on_files : (v : Verdict) → HasVerdictUnder pl texts.journal texts.script texts.replies v → (files : Files) → p.files a ≡ Some files → IsVerdictOf (file_or_empty files plan) (file_or_empty files journal) (file_or_empty files script) (file_or_empty files replies) v
      on_files v has files is =
          let are = read.whole files (same ∙ is) in
          subst (λ (j : List ℕ). IsVerdictOf (file_or_empty files plan) j (file_or_empty files script) (file_or_empty files replies) v) are.0
          (subst (λ (q : List ℕ). IsVerdictOf (file_or_empty files plan) texts.journal q (file_or_empty files replies) v) are.1
          (subst (λ (r : List ℕ). IsVerdictOf (file_or_empty files plan) texts.journal texts.script r v) are.2
          (record { plan = pl; is_plan = is_plan files is; short = read.short; verdict = has })))

      not_long : (files : Files) → p.files a ≡ Some files → IsOneLong (file_or_empty files journal) (file_or_empty files script) (file_or_empty files replies) → ⊥
      not_long files is long =
          let are = read.whole files (same ∙ is) in
          not_both (file_or_empty files journal) (file_or_empty files script) (file_or_empty files replies)
          (subst (λ (n : ℕ). n ≤ input_limit) (ap length are.0) read.short.0, subst (λ (n : ℕ). n ≤ input_limit) (ap length are.1) read.short.1, subst (λ (n : ℕ). n ≤ input_limit) (ap length are.2) read.short.2) long

      -- so it was said
      said_of_files : (out' : O) (audit : Audit) → SaysVerdict s mid out' pl texts (Ok audit) → RecountEnds p s a c out out' Named (Ok audit)
      said_of_files out' audit says =
          let all = whole None read.leaves in
          record {
            done = record { verdict = says.verdict; of_files = on_files says.verdict says.has; puts = puts_after s out mid out' quiet _ says.says.puts; audit_is = says.audit_is };
            unsaid = λ e. absurd (ok_not_err audit WriteFault e);
            refused_plan = λ e. absurd (ok_not_err audit PlanRefused e);
            no_plan = λ files is fault bad. absurd (plan_good files is fault bad);
            refused = λ e. absurd (ok_not_err audit FeedRefused e);
            no_texts = λ files is long. absurd (not_long files is long);
            silent = λ other e not_plan not_write. absurd (ok_not_err audit other e);
            complete = λ files is good short no_read no_write. inl refl;
            opens = opens_with (Ok audit) all (λ e. absurd (ok_not_err audit ReadFault e)) (ok_not_err audit PlanRefused);
            created = same_created p a c Names None all;
            write_faults = same_writes a c None all;
            files = same_files p a c Names None all;
          }

      -- or it was not, where memory was wanted or the put failed
      unsaid_of_files : (out' : O) (stop : Stop) → (stopped Audit stop ≢ Err PlanRefused) × (stopped Audit stop ≢ Err ReadFault) × (stopped Audit stop ≢ Err FeedRefused)
          → (stopped Audit stop ≡ Err WriteFault → (v : Verdict) × HasVerdictUnder pl texts.journal texts.script texts.replies v × FailsToPut s mid out' (verdict_line v)) → (stopped Audit stop ≡ Err NoMemory → Silent s mid out')
          → RecountEnds p s a c out out' Named (Err stop)
      unsaid_of_files out' stop ends part silent =
          let all : LeavesPlace p a c Names [] (Some stop) = leaves_ended p a c Names (Some stop) (λ e. ends.1 (ap (λ k. Err k) (same_stop stop ReadFault e))) (whole None read.leaves) in
          record {
            done = tt;
            unsaid = λ e. let fails = part e in record { verdict = fails.0; of_files = on_files fails.0 fails.1; part = fails_after s out mid out' quiet _ fails.2 };
            refused_plan = λ e. absurd (ends.0 e);
            no_plan = λ files is fault bad. absurd (plan_good files is fault bad);
            refused = λ e. absurd (ends.2 e);
            no_texts = λ files is long. absurd (not_long files is long);
            silent = λ other e not_plan not_write. silent_after s out mid out' quiet (silent (ap (λ k. Err k) (only_memory stop ends (λ w. not_write (sym (err_is stop other e) ∙ w)))));
            complete = λ files is good short no_read no_write. ended_well stop (λ e. ends.0 (ap (λ k. Err k) e)) (λ e. ends.1 (ap (λ k. Err k) e))
                (λ e. no_write (fails_after s out mid out' quiet _ (part (ap (λ k. Err k) e)).2).faults) (λ e. ends.2 (ap (λ k. Err k) e));
            opens = opens_with (Err stop) all (λ e. absurd (ends.1 e)) ends.0;
            created = same_created p a c Names (Some stop) all;
            write_faults = same_writes a c (Some stop) all;
            files = same_files p a c Names (Some stop) all;
          }

      pub ended_by_saying : (out' : O) (result : Result Audit Stop) → AuditsTexts s mid out' pl texts result → RecountEnds p s a c out out' Named result
      ended_by_saying out' (Ok audit) (inl says) = said_of_files out' audit says
      ended_by_saying out' (Ok audit) (inr lacks) = absurd (ok_not_err audit NoMemory lacks.0)
      ended_by_saying out' (Err stop) (inl says) = unsaid_of_files out' stop says.says.ends (λ e. (says.verdict, says.has, says.says.fails e)) says.says.silent
      ended_by_saying out' (Err stop) (inr lacks) =
          subst (λ (k : Stop). RecountEnds p s a c out out' Named (Err k)) (sym (err_is stop NoMemory lacks.0)) (unsaid_of_files out' NoMemory (λ e. cc, λ e. cc, λ e. cc) (λ e. cc) (λ e. lacks.1))
