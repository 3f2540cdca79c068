-- How a run ends, by how it was opened and by what became of its parts.
use Rattle.std.proofs.Common.{◌≡◌, ◌≢◌, ◌⊎◌, inl, inr, ℕ, Bool, true, false, List, [], ◌∷◌, ◌++◌, All, map, Option, Some, None, Result, Ok, Err, IsSomeAnd, ◌≤◌, refl, sym, ap, subst, ◌∙◌, arith}
use Rattle.std.proofs.lemmas.List.{append_cancel_left, map-append}
use Rattle.std.specs.Prelude.{Any, Contains, IfSome}
use Rattle.std.specs.FinMap.{get}
use Rattle.std.specs.List.{AllZip}
use Rattle.std.proofs.lemmas.List.Elements.{All-weaker}
use Rattle.crew_feeder.specs.declared.done.FeedDone.{FeedDone}
use Rattle.live_session.specs.declared.done.SessionDone.{SessionDone}
use Rattle.cube_crew.proofs.Zips.{AllZip-right}
use Rattle.cube_crew.specs.Crewed.{IsCrewed, LeavesTranscript, answered_over, closing_of}
use Rattle.cube_crew.specs.declared.jobs.Crewed.{Crewed}
use Rattle.cube_schema.specs.Files.{input_names, output_names}
use Rattle.cube_schema.specs.Repeats.{outputs}
use Rattle.cube_schema.specs.declared.plan.Plan.{Plan}
use Rattle.cube_store.specs.Numbers.{OwnsAllButRoot}
use Rattle.feed_reader.specs.Feeds.{is_feed_refused}
use Rattle.feed_reader.specs.declared.job.FeedJob.{FeedJob}
use Rattle.live_session.specs.State.{SessionState}
use Rattle.outer_io.proofs.ToldLaws.{Told-some}
use Rattle.outer_io.specs.Faults.{Rose, RoseBy}
use Rattle.outer_io.specs.Files.{Files, HasFile, file_or_empty}
use Rattle.outer_io.specs.Told.{Told}
use Rattle.outer_io.specs.declared.fault.IoFault.TheVariants as io
use Rattle.run_files.proofs.EmptyFiles.{told_still}
use Rattle.run_files.proofs.SinkPuts.{fails_after, puts_after, silent_after}
use Rattle.run_files.proofs.Stages.{all_empty, all_made, all_opened, KeepsOthers-after, KeepsOthers-more, KeepsOthers-one, names_of}
use Rattle.run_files.specs.Counts.{CountsAt, StandStill}
use Rattle.run_files.specs.Headed.{HasHeader}
use Rattle.run_files.specs.Leaving.{FailsAtLast, FailsAtLastMade, KeepsOthers, LeavesPlace}
use Rattle.run_files.specs.Outside.{at, file_of, parts_seen, PlaceSeen, Puts as Said, PutsOrFails, Silent, SinkSeen, SourceSeen}
use Rattle.run_files.specs.Planned.{IsPlanOf, LacksPlan, RefusesPlan}
use Rattle.run_files.specs.Saying.{SaysText}
use Rattle.run_files.specs.Stops.{write_end}
use Rattle.run_files.specs.declared.stop.Stop.{Stop}
use Rattle.run_files.specs.declared.stop.Stop.TheVariants.{NoMemory, PlanRefused, ReadFault, WriteFault, FeedRefused}
use Rattle.session_core.proofs.WholeScripts.{told_by}
use Rattle.session_core.specs.Scripts.{is_script_refused}
use Rattle.plan_run.specs.Opening.{AreReady, OpensRun, inputs_of, outputs_of}
use Rattle.plan_run.specs.Ready.{IsJobOf, IsSessionOf}
use Rattle.plan_run.specs.declared.parts.RunParts.{RunParts}
use Rattle.plan_run.specs.Closing.{ClosesRun, run_text, threads_end}
use Rattle.plan_run.specs.ThreadEnds.{feed_end, feeds_end, session_end, sessions_end, starved_end}
use Rattle.plan_run.proofs.Causes.{FeedCause, RunCause, SessionCause, feed_causes, session_causes}
use Rattle.plan_run.proofs.WellEnds.{End, ended}
use Rattle.plan_run.proofs.OutputFiles.{some_is, told_pair}
use Rattle.plan_run.proofs.RunNames.{KeepsOthers-twice, dones_named, names_then, sessions_named}
use Rattle.plan_run.proofs.EndFaults.{AnyOf, all_err, any_in, any_left, any_right, any_unmapped}
use Rattle.plan_run.proofs.OneJournal.{EntryLaws}
use Rattle.plan_run.proofs.CountRises.{closing_not_plan, closing_read, closing_write, starved_of}
use Rattle.plan_run.proofs.InputRefusals.{large_feeds, refused_scripts, write_not_refused}
use Rattle.plan_run.proofs.EndRanks.{rank_end}
use Rattle.plan_run.proofs.Said.{InOrder, Unplanned, opening_headed, opening_put, opening_unmade, opening_write}
use Rattle.plan_run.proofs.StillCounts.{put_still, read_still, write_still}
use Rattle.plan_run.proofs.RunCompletion.{completed}
use Rattle.plan_run.proofs.RunAccount.{account, account_is, begins_files, holds_files, kept_well, kept_where, reads_counted, said_lost, writes_counted, wrote_well, wrote_where}
use Rattle.plan_run.proofs.EarlyEnds.{empty_made, given_back_empty}
use Rattle.plan_run.proofs.EndConsequences.{under_plan}
use Rattle.plan_run.specs.Completed.{IsCompleted}
use Rattle.plan_run.specs.Ends.{EndsUnderPlan, HasBegun, HasRefusedInput, HasReported, LacksReport, RunEnds}
use Rattle.plan_run.specs.Interrupted.{Account, BeginsFiles, HoldsFiles, IsUnwritten, account_text, read_stops}
use Rattle.plan_run.specs.Parts.{GivesBack, RunsParts, ends_seen}

-- an end of opening among those of a run
unplanned_end : (stop : Stop) → (Some stop ≡ Some NoMemory) ⊎ (Some stop ≡ Some ReadFault) ⊎ (Some stop ≡ Some PlanRefused) → (ended stop ≡ ended NoMemory) ⊎ (ended stop ≡ ended ReadFault) ⊎ (ended stop ≡ ended PlanRefused)
unplanned_end stop (inl e) = inl (cc e)
unplanned_end stop (inr (inl e)) = inr (inl (cc e))
unplanned_end stop (inr (inr e)) = inr (inr (cc e))

same_stop : (a b : Stop) → ended a ≡ ended b → Some a ≡ Some b
same_stop a b e = cc e

same_end : (a b : Stop) → Some a ≡ Some b → ended a ≡ ended b
same_end a b e = cc e

-- without a plan it is by no file
not_by_file : (stop other : Stop) → other ≢ NoMemory → other ≢ ReadFault → other ≢ PlanRefused → (Some stop ≡ Some NoMemory) ⊎ (Some stop ≡ Some ReadFault) ⊎ (Some stop ≡ Some PlanRefused) → Some stop ≢ Some other
not_by_file stop other found read planned (inl e) is = found (cc (e, is))
not_by_file stop other found read planned (inr (inl e)) is = read (cc (e, is))
not_by_file stop other found read planned (inr (inr e)) is = planned (cc (e, is))

module _ {P T : Type 0} (p : PlaceSeen P) (t : SinkSeen T) where
  -- ---- a run that opening ended

  module _ (place mid : P) (out out1 : T) (name : List ℕ) (stop : Stop) where
    opening_counts : (plan : Option Plan) (inputs outs : List (List ℕ)) (leaves : LeavesPlace p place mid inputs outs (Some stop)) (opens makes : List (List ℕ)) → (plan ≡ None → Unplanned p t place mid out out1 name stop) → IfSome plan (InOrder p t place mid out out1 name stop opens makes)
        → CountsAt p t (at place out) (at mid out1) (ended stop)
    opening_counts plan inputs outs leaves opens makes unplanned order = record {
      done = λ x e. absurd (cc e);
      refused = λ e. (
        leaves.read_quiet (λ is. cc (is, e)),
        leaves.write_quiet (λ is. cc (is, e)) (λ is. cc (is, e)),
        opening_put p t place mid out out1 name stop plan opens makes (cc e) unplanned order,
      );
      unread = λ e. leaves.read_quiet (λ is. cc (is, e));
      write = λ e. opening_write p t place mid out out1 name stop plan opens makes (cc e) unplanned order;
      read = λ e. leaves.read (same_stop stop ReadFault e);
      refused_plan = λ e. (leaves.read_quiet (λ is. cc (is, e)), leaves.write_quiet (λ is. cc (is, e)) (λ is. cc (is, e)));
    }

    opening_stage : (plan : Option Plan) (leaves : LeavesPlace p place mid (name ∷ inputs_of plan) (outputs_of plan) (Some stop)) → IfSome plan (IsPlanOf (file_of (p.files place) name)) → (plan ≡ None → Unplanned p t place mid out out1 name stop)
        → (Some stop ≡ Some ReadFault → FailsAtLast p place leaves.opens) → (leaves.makes ≡ []) ⊎ FailsAtLastMade p place leaves.makes → IfSome plan (InOrder p t place mid out out1 name stop leaves.opens leaves.makes) → (Some stop ≡ Some PlanRefused → (plan ≡ None) × RefusesPlan t out out1 (file_of (p.files place) name))
        → (Some stop ≢ Some PlanRefused → Some stop ≢ Some FeedRefused → Some stop ≢ Some WriteFault → Silent t out out1) → CountsAt p t (at place out) (at mid out1) (ended stop) → LacksPlan p t (at place out) (at mid out1) name (ended stop) ⊎ EndsUnderPlan p t (at place out) (at mid out1) name (Err stop)
    unfolding names_of
    opening_stage None leaves plan_is unplanned first made order refused_plan silent counts = inl (record {
      names = names_of p place mid (name ∷ []) [] (Some stop) leaves;
      first = λ e. first (same_stop stop ReadFault e);
      ends = unplanned_end stop (unplanned refl);
      refused = λ e. (refused_plan (same_stop stop PlanRefused e)).1;
      silent = λ other. silent (λ e. other (same_end stop PlanRefused e)) (not_by_file stop FeedRefused (λ e. cc e) (λ e. cc e) (λ e. cc e) (unplanned refl)) (not_by_file stop WriteFault (λ e. cc e) (λ e. cc e) (λ e. cc e) (unplanned refl));
    })
    opening_stage (Some plan) leaves plan_is unplanned first made order refused_plan silent counts =
        inr (under_plan p t place mid out out1 name (Err stop) plan plan_is (inl (record {
          stop = stop;
          end_is = refl;
          names = names_of p place mid (name ∷ input_names plan) (output_names plan) (Some stop) leaves;
          later = order.0;
          opens_are = order.1;
          first = λ e. first (ap (λ s. Some s) e);
          order = order.2;
          made = made;
          unmade = λ found written. opening_unmade p t place mid out out1 name stop (Some plan) leaves.opens leaves.makes leaves.unmade found written (λ e. leaves.read_first (ap (λ s. Some s) e)) leaves.outputs_are order;
          empty = λ no_write. empty_made p place mid leaves.makes leaves.others (leaves.emptied (λ _. no_write));
        })) counts)

  pub ended_by_opening : (place mid : P) (out out1 : T) (name : List ℕ) (stop : Stop) → OpensRun p t (at place out) (at mid out1) name None (Some stop) → RunEnds p t (at place out) (at mid out1) name (Err stop)
  ended_by_opening place mid out out1 name stop opens =
      let counts = opening_counts place mid out out1 name stop opens.planned.plan (name ∷ inputs_of opens.planned.plan) (outputs_of opens.planned.plan) opens.leaves opens.leaves.opens opens.leaves.makes opens.planned.unplanned opens.order in record {
        stage = opening_stage place mid out out1 name stop opens.planned.plan opens.leaves opens.planned.plan_is opens.planned.unplanned opens.first opens.made opens.order opens.planned.refused_plan opens.silent counts;
        counts = counts;
      }

  -- ---- a run that went on

  module _ (place mid place' : P) (out out1 out' : T) (name : List ℕ) (plan : Plan) (opens : OpensRun p t (at place out) (at mid out1) name (Some plan) None) (plan_is : IsPlanOf (file_of (p.files place) name) plan) where
    its_plan : opens.planned.plan ≡ Some plan
    its_plan = opens.goes_on

    leaves : LeavesPlace p place mid (name ∷ input_names plan) (output_names plan) None
    leaves = subst (λ o. LeavesPlace p place mid (name ∷ inputs_of o) (outputs_of o) None) its_plan opens.leaves

    -- the place may have met its first failed write at the output that was created last
    made : (leaves.makes ≡ []) ⊎ FailsAtLastMade p place leaves.makes
    made = subst (λ ns. (ns ≡ []) ⊎ FailsAtLastMade p place ns) (append_cancel_left (p.created place) opens.leaves.makes leaves.makes (sym opens.leaves.created ∙ leaves.created)) opens.made

    silent : Silent t out out1
    silent = opens.silent (λ e. cc e) (λ e. cc e) (λ e. cc e)

    headed : All (λ feed. HasHeader plan.schema (file_of (p.files place) feed)) plan.feeds
    headed = opening_headed p t place mid out out1 name opens.planned.plan plan opens.leaves.opens opens.leaves.makes its_plan opens.order

    -- what the threads began from
    began : (place' : P) → p.opened place' ≡ p.opened mid → p.created place' ≡ p.created mid → KeepsOthers (p.files mid) (p.files place') (output_names plan) → HasBegun p t (at place out) (at place' out') name plan
    began place' opened created kept = record {
      opened = opened ∙ leaves.opened ∙ ap (λ ns. p.opened place ++ ns) (sym (all_opened p place mid (name ∷ input_names plan) (output_names plan) leaves));
      created = created ∙ leaves.created ∙ ap (λ ns. p.created place ++ ns) (sym (all_made p place mid (name ∷ input_names plan) (output_names plan) leaves));
      began = mid;
      opened_then = sym opened;
      created_then = sym created;
      quiet_then = (leaves.read_quiet (λ e. cc e), leaves.write_quiet (λ e. cc e) (λ e. cc e));
      headed = headed;
      others =
          KeepsOthers-twice (p.files place) (p.files mid) (p.files place') (output_names plan)
          (subst (KeepsOthers (p.files place) (p.files mid)) (sym (all_made p place mid (name ∷ input_names plan) (output_names plan) leaves)) leaves.others) kept;
    }

    module _ {I O : Type 0} (i : SourceSeen I) (s : SinkSeen O) (parts : RunParts I O) (ready : AreReady i.left i.faults s (p.files place) plan parts) where
      abbrev sink_of : SessionDone I O → O
      sink_of done = done.sink

      abbrev sink_in : SessionState I O → O
      sink_in session = session.sink

      -- the names of the sinks of two lists of sessions
      both_named : (asks finals : List O) → map s.name asks ≡ outputs plan.asks → map s.name finals ≡ outputs plan.finals → map s.name (asks ++ finals) ≡ outputs plan.asks ++ outputs plan.finals
      both_named asks finals one two = map-append s.name asks finals ∙ ap (λ ns. ns ++ map s.name finals) one ∙ ap (λ ns. outputs plan.asks ++ ns) two

      module _ (result : Result (Unit {0}) Stop) (crewed : Crewed I O) (ran : IsCrewed (ends_seen i s) OwnsAllButRoot plan.schema parts.jobs crewed)
          (closes : ClosesRun plan crewed parts.journal (parts_seen p i s) t (at mid out1) (at place' out') result) where
        fresh : All (λ (job : FeedJob I). i.faults job.cutter.source ≡ 0) parts.jobs.feeds
        fresh = AllZip-right (λ name. IsJobOf i.left i.faults plan.schema (file_of (p.files place) name)) (λ (job : FeedJob I). i.faults job.cutter.source ≡ 0) plan.feeds parts.jobs.feeds (λ name job is. is.fresh) ready.feeds

        feeds : All (FeedCause i.faults) crewed.feeds
        feeds = feed_causes i.left i.faults parts.jobs.feeds ran.sent crewed.feeds fresh ran.feeds

        asks : All (SessionCause i.faults s.faults) crewed.asks
        asks = session_causes i s OwnsAllButRoot plan.schema false crewed.closed crewed.starved (answered_over crewed.closed crewed.journal crewed.drawn) (p.files place) plan.asks parts.jobs.asks crewed.asks ready.asks ran.asks

        finals : All (SessionCause i.faults s.faults) crewed.finals
        finals = session_causes i s OwnsAllButRoot plan.schema true crewed.closed crewed.starved (answered_over crewed.closed crewed.journal crewed.drawn) (p.files place) plan.finals parts.jobs.finals crewed.finals ready.finals ran.finals

        named : map s.name (map sink_of crewed.asks ++ map sink_of crewed.finals) ≡ outputs plan.asks ++ outputs plan.finals
        named =
            both_named (map sink_of crewed.asks) (map sink_of crewed.finals)
            (dones_named i s (p.files place) OwnsAllButRoot plan.schema false crewed.closed crewed.starved (answered_over crewed.closed crewed.journal crewed.drawn) plan.asks parts.jobs.asks crewed.asks ready.asks ran.asks)
            (dones_named i s (p.files place) OwnsAllButRoot plan.schema true crewed.closed crewed.starved (answered_over crewed.closed crewed.journal crewed.drawn) plan.finals parts.jobs.finals crewed.finals ready.finals ran.finals)

        journal_named : s.name closes.sink ≡ plan.journal
        journal_named = closes.written.name ∙ ready.journal.name_is

        -- of the files only outputs have changed since the sources were given back
        kept : KeepsOthers (p.files mid) (p.files place') (output_names plan)
        kept =
            KeepsOthers-after (p.files mid) (p.files closes.parts.read) (p.files place') (output_names plan) (closes.parts.finals_back.files ∙ closes.parts.asks_back.files ∙ closes.parts.feeds_back.files)
            (KeepsOthers-more (p.files closes.parts.read) (p.files closes.replied) (p.files place') (outputs plan.asks ++ outputs plan.finals) (plan.journal ∷ [])
            (subst (KeepsOthers (p.files closes.parts.read) (p.files closes.replied)) named closes.parts.sinks_back.others)
            (subst (λ n. KeepsOthers (p.files closes.replied) (p.files place') (n ∷ [])) journal_named (KeepsOthers-one (p.files closes.replied) (p.files place') (s.name closes.sink) closes.journal.others)))

        opened : p.opened place' ≡ p.opened mid
        opened = closes.journal.opened ∙ closes.parts.sinks_back.opened ∙ closes.parts.finals_back.opened ∙ closes.parts.asks_back.opened ∙ closes.parts.feeds_back.opened

        created : p.created place' ≡ p.created mid
        created = closes.journal.created ∙ closes.parts.sinks_back.created ∙ closes.parts.finals_back.created ∙ closes.parts.asks_back.created ∙ closes.parts.feeds_back.created

        begun : HasBegun p t (at place out) (at place' out') name plan
        begun = began place' opened created kept

        read_before : p.read_faults mid ≡ p.read_faults place
        read_before = leaves.read_quiet (λ e. cc e)

        write_before : p.write_faults mid ≡ p.write_faults place
        write_before = leaves.write_quiet (λ e. cc e) (λ e. cc e)

        -- the files of a run that is completed
        is_done : EntryLaws → result ≡ Ok tt → Told (p.files place) (λ files. IsSomeAnd (p.files place') (λ files'. IsCompleted plan files files' (t.held out) (t.held out')))
        is_done laws well =
            let closed : ClosesRun plan crewed parts.journal (parts_seen p i s) t (at mid out1) (at place' out') (Ok tt) = subst (ClosesRun plan crewed parts.journal (parts_seen p i s) t (at mid out1) (at place' out')) well closes in
            told_by (p.files place) (λ files. IsSomeAnd (p.files place') (λ files'. IsCompleted plan files files' (t.held out) (t.held out'))) (λ files told.
            let now = told_pair (p.files place) (p.files mid) files (λ a b. (other : List ℕ) → ¬ Contains leaves.makes other → get b other ≡ get a other) told leaves.others in
            subst (λ o. IsSomeAnd (p.files place') (λ files'. IsCompleted plan files files' o (t.held out'))) silent.held
            (completed p i s t plan parts mid place' out1 out' laws files now.0 crewed plan_is.files (subst (λ o. AreReady i.left i.faults s o plan parts) told ready) ran now.1 closed))

        abbrev feed_ends : FeedDone I → End
        feed_ends d = feed_end d.counts.fault

        abbrev session_ends : SessionDone I O → End
        session_ends d = session_end d.fault

        -- which feed or script is refused
        is_refused : result ≡ Err FeedRefused → (files : Files) → p.files place ≡ Some files → HasRefusedInput files plan
        is_refused is files told = by (all_err (threads_end crewed ∷ write_end closes.wrote ∷ closes.given ∷ write_end closes.kept ∷ closes.said ∷ []) FeedRefused (sym closes.ends ∙ is))
          where
            it_is : AreReady i.left i.faults s (Some files) plan parts
            it_is = subst (λ o. AreReady i.left i.faults s o plan parts) told ready

            script : (final : Bool) (names : List (List ℕ)) (befores : List (SessionState I O)) (dones : List (SessionDone I O)) → AllZip (IsSessionOf i.left i.faults s (Some files)) names befores
                → AllZip (LeavesTranscript (ends_seen i s) OwnsAllButRoot plan.schema final (closing_of crewed)) befores dones → sessions_end dones ≡ Err FeedRefused → AnyOf (λ name. is_script_refused plan.schema (file_or_empty files name) ≡ true) names
            script final names befores dones are leave end =
                refused_scripts i s OwnsAllButRoot plan.schema final crewed.closed crewed.starved (answered_over crewed.closed crewed.journal crewed.drawn) files names befores dones are leave
                (any_unmapped session_ends (λ end. end ≡ Err FeedRefused) dones (all_err (map session_ends dones) FeedRefused end))

            among : AnyOf (λ name. is_script_refused plan.schema (file_or_empty files name) ≡ true) (plan.asks ++ plan.finals) → HasRefusedInput files plan
            among any = inr (any_in (λ name. is_script_refused plan.schema (file_or_empty files name) ≡ true) (plan.asks ++ plan.finals) any)

            threads : AnyOf (λ end. end ≡ Err FeedRefused) (starved_end crewed.starved ∷ feeds_end crewed.feeds ∷ sessions_end crewed.asks ∷ sessions_end crewed.finals ∷ []) → HasRefusedInput files plan
            threads (inl starved) = absurd (starved_of crewed.starved FeedRefused (λ e. cc e) starved)
            threads (inr (inl fed)) =
                inl (any_in (λ name. is_feed_refused plan.schema (file_or_empty files name) ≡ true) plan.feeds
                (large_feeds i.left i.faults plan.schema (file_or_empty files) plan.feeds parts.jobs.feeds ran.sent crewed.feeds it_is.feeds ran.feeds (any_unmapped feed_ends (λ end. end ≡ Err FeedRefused) crewed.feeds (all_err (map feed_ends crewed.feeds) FeedRefused fed))))
            threads (inr (inr (inl asked))) = among (any_left (λ name. is_script_refused plan.schema (file_or_empty files name) ≡ true) plan.asks plan.finals (script false plan.asks parts.jobs.asks crewed.asks it_is.asks ran.asks asked))
            threads (inr (inr (inr (inl last)))) = among (any_right (λ name. is_script_refused plan.schema (file_or_empty files name) ≡ true) plan.asks plan.finals (script true plan.finals parts.jobs.finals crewed.finals it_is.finals ran.finals last))
            threads (inr (inr (inr (inr none)))) = absurd none

            by : AnyOf (λ end. end ≡ Err FeedRefused) (threads_end crewed ∷ write_end closes.wrote ∷ closes.given ∷ write_end closes.kept ∷ closes.said ∷ []) → HasRefusedInput files plan
            by (inl e) = threads (all_err (starved_end crewed.starved ∷ feeds_end crewed.feeds ∷ sessions_end crewed.asks ∷ sessions_end crewed.finals ∷ []) FeedRefused e)
            by (inr (inl wrote)) = absurd (write_not_refused closes.wrote wrote)
            by (inr (inr (inl given))) = absurd (closes.parts.sinks_back.only.2 given)
            by (inr (inr (inr (inl kept)))) = absurd (write_not_refused closes.kept kept)
            by (inr (inr (inr (inr (inl said))))) = absurd (closes.report.ends.2 said)
            by (inr (inr (inr (inr (inr none))))) = absurd none

        refused : result ≡ Err FeedRefused → Told (p.files place) (λ files. HasRefusedInput files plan)
        refused e = told_by (p.files place) (λ files. HasRefusedInput files plan) (λ files told. is_refused e files told)

        cause : RunCause p i s t plan crewed parts.journal mid place' out1 out' result
        cause = record { fresh = ready.journal.fresh; feeds = feeds; asks = asks; finals = finals; closes = closes }

        not_plan : result ≢ Err PlanRefused
        not_plan e = closing_not_plan cause e

        read_rose : result ≡ Err ReadFault → Rose (p.read_faults place) (p.read_faults place')
        read_rose e = subst (λ n. Rose n (p.read_faults place')) read_before (closing_read cause e)

        write_rose : result ≡ Err WriteFault → Rose (p.write_faults place) (p.write_faults place') ⊎ Rose (t.faults out) (t.faults out')
        write_rose e = written (closing_write cause e)
          where
            written : Rose (p.write_faults mid) (p.write_faults place') ⊎ Rose (t.faults out1) (t.faults out') → Rose (p.write_faults place) (p.write_faults place') ⊎ Rose (t.faults out) (t.faults out')
            written (inl rose) = inl (subst (λ n. Rose n (p.write_faults place')) write_before rose)
            written (inr rose) = inr (subst (λ n. Rose n (t.faults out')) silent.faults rose)

        -- ---- counts

        -- the counts that stand still, by how late in the order of causes the end comes
        reads_stand : 3 ≤ rank_end result → p.read_faults place' ≡ p.read_faults place
        reads_stand late = read_still cause late ∙ read_before

        all_stand : 4 ≤ rank_end result → StandStill p t (at place out) (at place' out')
        all_stand late = (
          reads_stand (omega (arith, late)),
          write_still cause late ∙ write_before,
          put_still cause late ∙ silent.faults,
        )

        counts : CountsAt p t (at place out) (at place' out') result
        counts = record {
          done = λ x e. all_stand (subst (λ (end : End). 4 ≤ rank_end end) (sym e) (omega arith));
          refused = λ e. all_stand (subst (λ (end : End). 4 ≤ rank_end end) (sym e) (omega arith));
          unread = λ e. reads_stand (subst (λ (end : End). 3 ≤ rank_end end) (sym e) (omega arith));
          write = write_rose;
          read = read_rose;
          refused_plan = λ e. absurd (not_plan e);
        }

        -- ---- files and report

        -- each output was empty when the threads began
        empty_outputs : (files now : Files) → p.files place ≡ Some files → p.files mid ≡ Some now → All (λ name. get now name ≡ Some []) (output_names plan)
        empty_outputs files now told told' =
            All-weaker (λ name. HasFile (p.files mid) name []) (λ name. get now name ≡ Some []) (λ name has. Told-some (p.files mid) now (λ f. get f name ≡ Some []) told' has) (output_names plan)
            (all_empty p place mid (name ∷ input_names plan) (output_names plan) leaves (some_is (p.files place) files told))

        its_account : Account
        its_account = account p i s t plan parts mid place' out1 out' (p.files place) ready crewed ran feeds asks finals result not_plan closes

        -- the files once the threads begin
        at_start : (files : Files) → p.files place ≡ Some files → (now : Files) × (p.files mid ≡ Some now) × ((other : List ℕ) → ¬ Contains leaves.makes other → get now other ≡ get files other)
        at_start files told = told_pair (p.files place) (p.files mid) files (λ a b. (other : List ℕ) → ¬ Contains leaves.makes other → get b other ≡ get a other) told leaves.others

        its_beginnings : Told (p.files place) (λ files. IsSomeAnd (p.files place') (BeginsFiles plan result its_account files))
        unfolding its_account
        its_beginnings = told_by (p.files place) (λ files. IsSomeAnd (p.files place') (BeginsFiles plan result its_account files)) (λ files told.
            let now = at_start files told in
            begins_files p i s t plan parts mid place' out1 out' (p.files place) ready crewed ran feeds asks finals result not_plan closes files now.0 told plan_is.files now.1 (empty_outputs files now.0 told now.1))

        its_files : ¬ Rose (p.write_faults place) (p.write_faults place') → closes.wrote ≢ Err io.NoMemory → closes.kept ≢ Err io.NoMemory → Told (p.files place) (λ files. IsSomeAnd (p.files place') (HoldsFiles plan result its_account files))
        unfolding its_account
        its_files no_write wrote kept = told_by (p.files place) (λ files. IsSomeAnd (p.files place') (HoldsFiles plan result its_account files)) (λ files told.
            let now = at_start files told in
            let quiet : ¬ Rose (p.write_faults mid) (p.write_faults place') = subst (λ n. ¬ Rose n (p.write_faults place')) (sym write_before) no_write in
            holds_files p i s t plan parts mid place' out1 out' (p.files place) ready crewed ran feeds asks finals result not_plan closes files now.0 told plan_is.files now.1 (empty_outputs files now.0 told now.1) quiet
            (wrote_well p i s t plan parts mid place' out1 out' (p.files place) ready crewed ran feeds asks finals result not_plan closes quiet wrote) (kept_well p i s t plan parts mid place' out1 out' (p.files place) ready crewed ran feeds asks finals result not_plan closes quiet kept))

        its_text : run_text plan crewed ≡ account_text plan its_account
        unfolding its_account
        its_text = account_is p i s t plan parts mid place' out1 out' (p.files place) ready crewed ran feeds asks finals result not_plan closes

        its_reads : RoseBy (read_stops its_account) (p.read_faults place) (p.read_faults place')
        unfolding its_account
        its_reads = subst (λ n. RoseBy (read_stops its_account) n (p.read_faults place')) read_before (reads_counted p i s t plan parts mid place' out1 out' (p.files place) ready crewed ran feeds asks finals result not_plan closes)

        its_writes : Any IsUnwritten (its_account.asks ++ its_account.finals) → Rose (p.write_faults place) (p.write_faults place')
        unfolding its_account
        its_writes any = subst (λ n. Rose n (p.write_faults place')) write_before (writes_counted p i s t plan parts mid place' out1 out' (p.files place) ready crewed ran feeds asks finals result not_plan closes any)

        reported : EntryLaws → PutsOrFails t out out' (run_text plan crewed) → closes.said ≢ Err NoMemory → HasReported p t (at place out) (at place' out') name plan result
        reported laws puts found = record {
          begun = begun;
          account = its_account;
          puts = subst (PutsOrFails t out out') its_text puts;
          files = its_beginnings;
          holds = λ no_write.
              let quiet : ¬ Rose (p.write_faults mid) (p.write_faults place') = subst (λ n. ¬ Rose n (p.write_faults place')) (sym write_before) no_write in
              its_files no_write (wrote_where p i s t plan parts mid place' out1 out' (p.files place) ready crewed ran feeds asks finals result not_plan closes quiet found)
              (kept_where p i s t plan parts mid place' out1 out' (p.files place) ready crewed ran feeds asks finals result not_plan closes quiet found);
          reads = its_reads;
          writes = its_writes;
          done = is_done laws;
          refused = refused;
          planned = not_plan;
        }

        stage : EntryLaws → (r : End) → closes.said ≡ r → SaysText t out1 out' (run_text plan crewed) r → LacksReport p t (at place out) (at place' out') name plan result ⊎ HasReported p t (at place out) (at place' out') name plan result
        stage laws (Ok x) is text = inr (reported laws (inl (puts_after t out out1 out' silent (run_text plan crewed) text.puts)) (λ bad. cc (is, bad)))
        stage laws (Err NoMemory) is text = inl (record {
          begun = begun;
          lacking = said_lost p i s t plan parts mid place' out1 out' (p.files place) ready crewed ran feeds asks finals result not_plan closes is;
          silent = silent_after t out out1 out' silent (text.silent refl);
          account = its_account;
          files = its_beginnings;
        })
        stage laws (Err PlanRefused) is text = absurd (text.ends.0 refl)
        stage laws (Err ReadFault) is text = absurd (text.ends.1 refl)
        stage laws (Err WriteFault) is text = inr (reported laws (inr (fails_after t out out1 out' silent (run_text plan crewed) (text.fails refl))) (λ bad. cc (is, bad)))
        stage laws (Err FeedRefused) is text = absurd (text.ends.2 refl)

        pub ended_by_closing : EntryLaws → RunEnds p t (at place out) (at place' out') name result
        ended_by_closing laws = record { stage = inr (under_plan p t place place' out out' name result plan plan_is (inr (stage laws closes.said refl closes.report)) counts); counts = counts }

      -- a run that found no memory to begin with
      pub ended_unrun : (result : Result (Unit {0}) Stop) → result ≡ Err NoMemory → out' ≡ out1 → GivesBack (parts_seen p i s) parts mid place' → RunEnds p t (at place out) (at place' out') name result
      unfolding names_then
      ended_unrun result is said back =
          let named : map s.name (map sink_in parts.jobs.asks ++ map sink_in parts.jobs.finals) ≡ outputs plan.asks ++ outputs plan.finals =
          both_named (map sink_in parts.jobs.asks) (map sink_in parts.jobs.finals) (sessions_named i s (p.files place) plan.asks parts.jobs.asks ready.asks) (sessions_named i s (p.files place) plan.finals parts.jobs.finals ready.finals) in
          let created : p.created place' ≡ p.created mid = back.journal_back.created ∙ back.sinks_back.created ∙ back.finals_back.created ∙ back.asks_back.created ∙ back.feeds_back.created in
          let kept : KeepsOthers (p.files mid) (p.files place') (output_names plan) =
          KeepsOthers-after (p.files mid) (p.files back.read) (p.files place') (output_names plan) (back.finals_back.files ∙ back.asks_back.files ∙ back.feeds_back.files)
          (KeepsOthers-more (p.files back.read) (p.files back.replied) (p.files place') (outputs plan.asks ++ outputs plan.finals) (plan.journal ∷ [])
          (subst (KeepsOthers (p.files back.read) (p.files back.replied)) named back.sinks_back.others)
          (subst (λ n. KeepsOthers (p.files back.replied) (p.files place') (n ∷ [])) ready.journal.name_is (KeepsOthers-one (p.files back.replied) (p.files place') (s.name parts.journal) back.journal_back.others))) in
          let counts : CountsAt p t (at place out) (at place' out') result = record {
            done = λ x e. absurd (cc (is, e));
            refused = λ e. absurd (cc (is, e));
            unread = λ e. absurd (cc (is, e));
            write = λ e. absurd (cc (is, e));
            read = λ e. absurd (cc (is, e));
            refused_plan = λ e. absurd (cc (is, e));
          } in record {
            stage = inr (under_plan p t place place' out out' name result plan plan_is (inl (record {
              stop = NoMemory;
              end_is = is;
              names = names_then p place mid place' (name ∷ input_names plan) (output_names plan) leaves
                  (back.journal_back.opened ∙ back.sinks_back.opened ∙ back.finals_back.opened ∙ back.asks_back.opened ∙ back.feeds_back.opened)
                  created kept;
              later = input_names plan;
              opens_are = sym (all_opened p place mid (name ∷ input_names plan) (output_names plan) leaves);
              first = λ e. absurd (cc e);
              order = inr (record {
                scripts = plan.asks ++ plan.finals;
                opens_are = refl;
                headed = headed;
                silent = silent_after t out out1 out' silent (record { held = ap t.held said; faults = ap t.faults said; name = ap t.name said });
                write = λ e. absurd (cc e);
                ends = (λ e. cc e, λ e. cc e);
              });
              made = made;
              unmade = λ found. absurd (found refl);
              empty = λ no_write. empty_made p place place' leaves.makes
                  (KeepsOthers-twice (p.files place) (p.files mid) (p.files place') leaves.makes leaves.others (subst (KeepsOthers (p.files mid) (p.files place')) (all_made p place mid (name ∷ input_names plan) (output_names plan) leaves) kept))
                  (λ told. given_back_empty p i s plan parts (p.files place) ready told mid place' leaves.makes (told_still (p.files place) (p.files mid) leaves.makes leaves.others told) back (leaves.emptied (λ other. absurd (other refl)) told));
            })) counts);
            counts = counts;
          }

      pub ended_by_parts : EntryLaws → (result : Result (Unit {0}) Stop) → RunsParts (parts_seen p i s) t plan parts (at mid out1) (at place' out') result → RunEnds p t (at place out) (at place' out') name result
      ended_by_parts laws result (inl runs) = ended_by_closing result runs.crewed runs.ran runs.closes laws
      ended_by_parts laws result (inr unrun) = ended_unrun result unrun.0 unrun.1 unrun.2
