-- What the front of a plan's file means, which is read up to a limit, and how a run ends that has no plan.
use Rattle.std.proofs.Common.{◌≡◌, ◌≢◌, ◌⊎◌, ℕ, ◌+◌, ◌≤◌, ◌<◌, List, [], ◌∷◌, ◌++◌, take, length, Option, Some, None, Result, Ok, Err, inl, inr, refl, sym, ◌∙◌, ap, subst, arith}
use Rattle.std.proofs.lemmas.Bool.{cases_lt, lt-ltb}
use Rattle.std.proofs.lemmas.List.{append_cancel_left, length-take-le, take_all}
use Rattle.cube_schema.specs.Drafts.{draft_of}
use Rattle.cube_schema.specs.Meaning.{plan_meaning, longest_plan}
use Rattle.cube_schema.specs.declared.fault.PlanFault.{PlanFault}
use Rattle.cube_schema.specs.declared.fault.PlanFault.TheVariants.{TooLong}
use Rattle.cube_schema.specs.declared.plan.Plan.{Plan}
use Rattle.outer_io.specs.Told.{Told}
use Rattle.run_files.proofs.Apart.{err_is, stopped}
use Rattle.run_files.proofs.Stages.{fails_at, names_of}
use Rattle.run_files.specs.Leaving.{FailsAtLast, LeavesPlace}
use Rattle.run_files.specs.Outside.{at, file_of, PlaceSeen, Silent, SinkSeen}
use Rattle.run_files.specs.Planned.{LacksPlan, ReadsPlan, RefusesPlan}
use Rattle.run_files.specs.declared.stop.Stop.{Stop}
use Rattle.run_files.specs.declared.stop.Stop.TheVariants.{NoMemory, PlanRefused, ReadFault, WriteFault, FeedRefused}

too_long : (bytes : List ℕ) → longest_plan < length bytes → plan_meaning bytes ≡ Err TooLong
unfolding plan_meaning
too_long bytes long = rw (lt-ltb longest_plan (length bytes) long)

whole : (all : List ℕ) → length all ≤ longest_plan → take (1048576 + 1) all ≡ all
whole all short = take_all (1048576 + 1) all (omega (arith, short))

-- the front of a plan's file, one byte longer than a plan may be, means what the file means
plan_meaning-take : (all : List ℕ) → plan_meaning (take (1048576 + 1) all) ≡ plan_meaning all
plan_meaning-take all =
    elim (cases_lt longest_plan (length all)) [
      | inl long ↦ too_long _ (omega (arith, length-take-le (1048576 + 1) all (omega arith))) ∙ sym (too_long _ long)
      | inr short ↦ ap plan_meaning (whole all short)
    ]

-- so what the bytes that were read mean is what the file means
told_meaning : (file : Option (List ℕ)) (bytes : List ℕ) (plan : Plan) → Told file (λ all. bytes ≡ take (1048576 + 1) all) → plan_meaning bytes ≡ Ok (draft_of plan) → Told file (λ all. plan_meaning all ≡ Ok (draft_of plan))
told_meaning None bytes plan front e = tt
told_meaning (Some all) bytes plan front e = sym (plan_meaning-take all) ∙ (ap plan_meaning (sym front) ∙ e)

told_fault : (file : Option (List ℕ)) (bytes : List ℕ) (fault : PlanFault) → Told file (λ all. bytes ≡ take (1048576 + 1) all) → plan_meaning bytes ≡ Err fault → Told file (λ all. plan_meaning all ≡ Err fault)
told_fault None bytes fault front e = tt
told_fault (Some all) bytes fault front e = sym (plan_meaning-take all) ∙ (ap plan_meaning (sym front) ∙ e)

-- what is answered of the bytes that were read is answered of the file
pub reads_plan : {O : Type 0} (s : SinkSeen O) (out out' : O) (file : Option (List ℕ)) (bytes : List ℕ) (result : Result Plan Stop) → Told file (λ all. bytes ≡ take (1048576 + 1) all) → ReadsPlan s out out' (Some bytes) result → ReadsPlan s out out' file result
reads_plan s out out' file bytes (Ok plan) front reads = record {
  plan = record { meaning = told_meaning file bytes plan front reads.plan.meaning; printable = reads.plan.printable; files = reads.plan.files };
  refused = λ e. absurd (cc);
  silent = reads.silent;
  ends = reads.ends;
}
reads_plan s out out' file bytes (Err stop) front reads = record {
  plan = tt;
  refused = λ e. let told = reads.refused e in record { fault = told.fault; of_bytes = told.of_bytes; meaning = told_fault file bytes told.fault front told.meaning; says = told.says };
  silent = reads.silent;
  ends = reads.ends;
}

-- which ends a run has whose plan was refused or was not read
pub plan_end : {T : Type 0} (stop : Stop) → (stop ≢ WriteFault) × (stop ≢ FeedRefused) → (stopped T stop ≡ Err NoMemory) ⊎ (stopped T stop ≡ Err ReadFault) ⊎ (stopped T stop ≡ Err PlanRefused)
plan_end NoMemory ends = inl refl
plan_end PlanRefused ends = inr (inr refl)
plan_end ReadFault ends = inr (inl refl)
plan_end WriteFault ends = absurd (ends.0 refl)
plan_end FeedRefused ends = absurd (ends.1 refl)

-- and what is said of it
pub says_plan : {O : Type 0} (s : SinkSeen O) (out out' : O) (file : Option (List ℕ)) (stop : Stop) → ReadsPlan s out out' file (Err stop) → Silent s out out' ⊎ RefusesPlan s out out' file
says_plan s out out' file NoMemory reads = inl (reads.silent (λ e. cc))
says_plan s out out' file PlanRefused reads = inr (reads.refused refl)
says_plan s out out' file ReadFault reads = inl (reads.silent (λ e. cc))
says_plan s out out' file WriteFault reads = inl (reads.silent (λ e. cc))
says_plan s out out' file FeedRefused reads = inl (reads.silent (λ e. cc))

-- so a run ends whose plan was refused or was not read
pub lacks_plan : {P O E : Type 0} (p : PlaceSeen P) (s : SinkSeen O) (a b : P) (o o' : O) (name : List ℕ) (stop : Stop) → LeavesPlace p a b (name ∷ []) [] (Some stop) → (stopped Plan stop ≡ stopped Plan ReadFault → p.opened b ≡ p.opened a ++ name ∷ [])
    → ReadsPlan s o o' (file_of (p.files a) name) (Err stop) → LacksPlan p s (at a o) (at b o') name (stopped E stop)
unfolding names_of
lacks_plan {E = E} p s a b o o' name stop leaves opened reads = record {
  names = names_of p a b (name ∷ []) [] (Some stop) leaves;
  first = λ e. subst (FailsAtLast p a) (append_cancel_left (p.opened a) (name ∷ []) leaves.opens (sym (opened (ap (λ k. Err k) (err_is {T = E} stop ReadFault e))) ∙ leaves.opened)) (fails_at p a name);
  ends = plan_end {T = E} stop reads.ends;
  refused = λ e. reads.refused (ap (λ k. Err k) (err_is {T = E} stop PlanRefused e));
  silent = λ other. reads.silent (λ e. other (ap (λ k. Err k) (err_is {T = Plan} stop PlanRefused e)));
}
