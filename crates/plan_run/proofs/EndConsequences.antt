-- What follows from how a run of a plan ends, whatever the stage to which it came.
use Rattle.std.proofs.Common.{◌≡◌, ◌≢◌, ◌⊎◌, inl, inr, ℕ, List, [], ◌∷◌, ◌++◌, length, length-append, append-nil, arith, Option, Some, None, Result, Ok, Err, refl, ap, subst, ◌∙◌}
use Rattle.std.proofs.lemmas.Bool.{false≢true}
use Rattle.std.specs.Prelude.{IsOk, IsSome}
use Rattle.std.specs.FinMap.{get}
use Rattle.std.proofs.lemmas.List.Elements.{All-contains}
use Rattle.cube_schema.specs.Files.{output_names}
use Rattle.cube_schema.specs.Repeats.{outputs}
use Rattle.cube_schema.specs.declared.plan.Plan.{Plan}
use Rattle.cube_view.specs.declared.schema.Schema.{Schema}
use Rattle.feed_queue.specs.Journal.{journal_text}
use Rattle.feed_reader.proofs.FeedStart.{some_each}
use Rattle.feed_reader.specs.Feeds.{feed_head}
use Rattle.feed_reader.specs.declared.header.HeadFault.{HeadFault}
use Rattle.outer_io.proofs.ToldLaws.{Told-each, Told-some}
use Rattle.outer_io.specs.Faults.{Rose}
use Rattle.outer_io.specs.Files.{Files}
use Rattle.outer_io.specs.Told.{Told}
use Rattle.plan_run.proofs.Said.{last_among, opening_refused}
use Rattle.plan_run.specs.Ends.{CreatesAll, EndsBeforeThreads, EndsUnderPlan, HasHeaders, HasRefusedInput, HasReported, LacksReport, OfBothFiles, RefusesHeader}
use Rattle.plan_run.specs.Interrupted.{HoldsAll}
use Rattle.run_files.specs.Counts.{CountsAt}
use Rattle.run_files.specs.Headed.{HasHeader}
use Rattle.run_files.specs.Outside.{at, file_of, PlaceSeen, SinkSeen}
use Rattle.run_files.specs.Planned.{IsPlanOf}
use Rattle.run_files.specs.Stops.{IsOrLacks}
use Rattle.run_files.specs.declared.stop.Stop.{Stop}
use Rattle.run_files.specs.declared.stop.Stop.TheVariants.{NoMemory, PlanRefused, ReadFault, WriteFault, FeedRefused}
use Rattle.world_core.specs.declared.entry.Entry.{Entry}

-- the outputs of a plan are some
outputs_some : (before after makes : List (List ℕ)) (plan : Plan) → after ≡ before ++ makes → after ≡ before ++ output_names plan → makes ≢ []
outputs_some before after makes plan some all none =
    let a = length-append before makes in
    let b = length-append before (output_names plan) in
    let c = length-append (outputs plan.asks ++ outputs plan.finals) (plan.journal ∷ []) in
    omega (arith, a, b, c, ap length some, ap length all, ap length none)

-- no first line that is told is a header and meets a fault
no_header_fault : (schema : Schema) (files : Option Files) (feed : List ℕ) (fault : HeadFault) → IsSome files → HasHeader schema (file_of files feed) → Told (file_of files feed) (λ bytes. feed_head schema bytes ≡ Err fault) → ⊥
no_header_fault schema None feed fault told good bad = absurd (false≢true told)
no_header_fault schema (Some files) feed fault told good bad = let none = subst (λ (r : Result (List ℕ) HeadFault). IsOk r) bad good in cc none

module _ {P T : Type 0} (p : PlaceSeen P) (t : SinkSeen T) (place place' : P) (out out' : T) (name : List ℕ) (end : Result (Unit {0}) Stop) where
  abbrev Early : Plan → Type 0
  Early plan = EndsBeforeThreads p t (at place out) (at place' out') name plan end

  abbrev Lacking : Plan → Type 0
  Lacking plan = LacksReport p t (at place out) (at place' out') name plan end

  abbrev Reported : Plan → Type 0
  Reported plan = HasReported p t (at place out) (at place' out') name plan end

  abbrev Stage : Plan → Type 0
  Stage plan = Early plan ⊎ Lacking plan ⊎ Reported plan

  abbrev MadeAll : Plan → Type 0
  MadeAll plan = CreatesAll p t (at place out) (at place' out') plan

  abbrev Headed : Plan → Type 0
  Headed plan = HasHeaders p t (at place out) (at place' out') plan

  -- a refused feed is the end only where a feed or a script of the plan is refused
  refused_input : (plan : Plan) → Stage plan → end ≡ Err FeedRefused → Told (p.files place) (λ files. HasRefusedInput files plan)
  refused_input plan (inl early) is = opening_refused p t place place' out out' name early.stop plan early.names.opens early.names.makes (cc (early.end_is, is)) (early.later, early.opens_are, early.order)
  refused_input plan (inr (inl lacks)) is = absurd (cc (lacks.lacking, is))
  refused_input plan (inr (inr reported)) is = reported.refused is

  -- with a plan a refused plan is not the end
  plan_taken : (plan : Plan) → Stage plan → end ≢ Err PlanRefused
  plan_taken plan (inl early) is = elim early.order [ inl feeds ↦ feeds.ends.1 (cc (early.end_is, is)) | inr scripts ↦ scripts.ends.0 (cc (early.end_is, is)) ]
  plan_taken plan (inr (inl lacks)) is = cc (lacks.lacking, is)
  plan_taken plan (inr (inr reported)) is = reported.planned is

  completes : (plan : Plan) → Stage plan → CountsAt p t (at place out) (at place' out') end → ¬ Rose (p.read_faults place) (p.read_faults place') → ¬ Rose (p.write_faults place) (p.write_faults place') → ¬ Rose (t.faults out) (t.faults out')
      → (files : Files) → p.files place ≡ Some files → ¬ HasRefusedInput files plan → IsOrLacks tt end
  completes plan stage counts no_read no_write no_put files told fine = by end refl
    where
      put : ¬ (Rose (p.write_faults place) (p.write_faults place') ⊎ Rose (t.faults out) (t.faults out'))
      put (inl rose) = no_write rose
      put (inr rose) = no_put rose

      by : (e : Result (Unit {0}) Stop) → end ≡ e → IsOrLacks tt end
      by (Ok x) is = inl is
      by (Err NoMemory) is = inr is
      by (Err PlanRefused) is = absurd (plan_taken plan stage is)
      by (Err ReadFault) is = absurd (no_read (counts.read is))
      by (Err WriteFault) is = absurd (put (counts.write is))
      by (Err FeedRefused) is = absurd (fine (Told-some (p.files place) files (λ files. HasRefusedInput files plan) told (refused_input plan stage is)))

  made : (plan : Plan) → Stage plan → end ≢ Err NoMemory → end ≢ Err WriteFault → (p.created place' ≡ p.created place) ⊎ MadeAll plan
  made plan (inl early) found written =
      inl (early.names.created ∙ ap (λ ns. p.created place ++ ns) (early.unmade (λ e. found (cc (early.end_is, e))) (λ e. written (cc (early.end_is, e)))) ∙ append-nil (p.created place))
  made plan (inr (inl lacks)) found written = absurd (found lacks.lacking)
  made plan (inr (inr reported)) found written = inr reported.begun.created

  headless : (plan : Plan) → Stage plan → end ≡ Err FeedRefused → ¬ Headed plan → RefusesHeader p t (at place out) (at place' out') name plan
  headless plan (inl early) is none =
      elim early.order [
        | inl feeds ↦ (early.later, early.names.opened ∙ ap (λ ns. p.opened place ++ ns) early.opens_are, feeds.refused (cc (early.end_is, is)), early.names.created ∙ ap (λ ns. p.created place ++ ns) feeds.unmade ∙ append-nil (p.created place))
        | inr scripts ↦ absurd (none scripts.headed)
      ]
  headless plan (inr (inl lacks)) is none = absurd (none lacks.begun.headed)
  headless plan (inr (inr reported)) is none = absurd (none reported.begun.headed)

  refused_reported : (plan : Plan) → Stage plan → IsSome (p.files place) → end ≡ Err FeedRefused → Headed plan → Reported plan
  refused_reported plan (inl early) told is headed =
      elim early.order [
        | inl feeds ↦
            let last = feeds.refused (cc (early.end_is, is)) in
            let among = last_among plan.feeds early.later feeds.unopened last.earlier last.name feeds.feeds_are last.names_are in
            absurd (no_header_fault plan.schema (p.files place) last.name last.refuses.fault told (All-contains (λ feed. HasHeader plan.schema (file_of (p.files place) feed)) plan.feeds last.name headed among) last.refuses.refused)
        | inr scripts ↦ absurd (scripts.ends.1 (cc (early.end_is, is)))
      ]
  refused_reported plan (inr (inl lacks)) told is headed = absurd (cc (lacks.lacking, is))
  refused_reported plan (inr (inr reported)) told is headed = reported

  read_reported : (plan : Plan) → Stage plan → end ≡ Err ReadFault → MadeAll plan → Reported plan
  read_reported plan (inl early) is all =
      absurd (outputs_some (p.created place) (p.created place') early.names.makes plan early.names.created all (early.unmade (λ e. cc (early.end_is, is, e)) (λ e. cc (early.end_is, is, e))))
  read_reported plan (inr (inl lacks)) is all = absurd (cc (lacks.lacking, is))
  read_reported plan (inr (inr reported)) is all = reported

  misses_nothing : (plan : Plan) → Stage plan → end ≡ Err WriteFault → ¬ Rose (p.write_faults place) (p.write_faults place') → MadeAll plan
      → OfBothFiles p t (at place out) (at place' out') (λ files files'. (entries : List Entry) × (get files' plan.journal ≡ Some (journal_text plan.schema entries)) × HoldsAll plan entries files files')
  misses_nothing plan (inl early) is no_write all =
      elim early.order [
        | inl feeds ↦ absurd (outputs_some (p.created place) (p.created place') early.names.makes plan early.names.created all feeds.unmade)
        | inr scripts ↦ absurd (no_write (scripts.write (cc (early.end_is, is))))
      ]
  misses_nothing plan (inr (inl lacks)) is no_write all = absurd (cc (lacks.lacking, is))
  misses_nothing plan (inr (inr reported)) is no_write all =
      Told-each (p.files place) _ _ (λ files some. some_each (p.files place') _ _ (λ files' holds. (reported.account.entries, holds.journal, holds.all (λ e. cc (is, e)) (λ e. cc (is, e)))) some) (reported.holds no_write)

  -- how far a run of this plan came that came to this stage, by the counts of faults
  pub under_plan : (plan : Plan) → IsPlanOf (file_of (p.files place) name) plan → Stage plan → CountsAt p t (at place out) (at place' out') end → EndsUnderPlan p t (at place out) (at place' out') name end
  under_plan plan plan_is stage counts = record {
    plan = plan;
    plan_is = plan_is;
    stage = stage;
    tells = record {
      made = made plan stage;
      headless = headless plan stage;
      refused_reported = refused_reported plan stage;
      read_reported = read_reported plan stage;
      misses_nothing = misses_nothing plan stage;
      completes = completes plan stage counts;
    };
  }
