-- A closed run that ended well: what its files hold, and that no count rose.
use Rattle.std.proofs.Common.{◌≡◌, ◌≢◌, ℕ, Bool, true, false, List, [], ◌∷◌, ◌++◌, All, length, map, Some, None, Result, Ok, IsSomeAnd, sym, ap, subst, ◌∙◌}
use Rattle.std.proofs.lemmas.List.{map-append}
use Rattle.std.specs.List.{AllZip}
use Rattle.std.specs.Prelude.{AllPairs}
use Rattle.std.specs.FinMap.{get}
use Rattle.std.specs.Prelude.{Contains, OnOk}
use mathlib.Core.List.{map-map}
use Rattle.std.proofs.lemmas.List.Elements.{All-append, All-head, All-tail, All-weaker}
use Rattle.crew_feeder.specs.declared.done.FeedDone.{FeedDone}
use Rattle.live_session.specs.declared.done.SessionDone.{SessionDone}
use Rattle.cube_crew.proofs.Zips.{AllZip-length}
use Rattle.cube_crew.specs.Crewed.{IsCrewed, LeavesTranscript, answered_over, closing}
use Rattle.cube_crew.specs.declared.jobs.Crewed.{Crewed}
use Rattle.cube_schema.specs.Files.{NamesFiles, input_names, output_names}
use Rattle.cube_schema.specs.Repeats.{outputs}
use Rattle.cube_schema.specs.declared.plan.Plan.{Plan}
use Rattle.cube_store.specs.Numbers.{OwnsAllButRoot}
use Rattle.feed_queue.specs.Journal.{journal_text}
use Rattle.feed_reader.specs.Feeds.{accepted}
use Rattle.feed_reader.specs.RowCounts.{counts_of_rows}
use Rattle.outer_io.proofs.ToldLaws.{Told-some}
use Rattle.outer_io.specs.Bytes.{Gains}
use Rattle.outer_io.specs.Files.{Files, HasFile, SameBut, file_or_empty}
use Rattle.outer_io.specs.Told.{Told}
use Rattle.outer_io.specs.declared.cutter.CutFault.TheVariants as cut
use Rattle.outer_io.specs.declared.fault.IoFault.{IoFault}
use Rattle.outer_io.specs.declared.fault.IoFault.TheVariants as io
use Rattle.plan_run.proofs.FaultlessParts.{all_replied, all_taken, are_fed, sinks_named, transcripts}
use Rattle.plan_run.proofs.WellEnds.{All-unmapped, IsWell, all_well, feed_well, session_well, starved_well, written_well}
use Rattle.plan_run.proofs.OutputFiles.{AllPairs-back, AllPairs-front, AllPairs-last, all_landed, some_is, told_pair}
use Rattle.plan_run.proofs.OneJournal.{EntryLaws, entries_valid}
use Rattle.plan_run.specs.Completed.{IsCompleted, reply_counts, whole_rows}
use Rattle.plan_run.specs.Parts.{ends_seen}
use Rattle.run_files.proofs.Lists.{All-back, All-front}
use Rattle.run_files.specs.GivingBack.{Lands, TakesSinks}
use Rattle.run_files.specs.Outside.{at, parts_seen, PlaceSeen, Puts as Said, SinkSeen, SourceSeen}
use Rattle.run_files.specs.Stops.{write_end}
use Rattle.run_files.specs.declared.stop.Stop.{Stop}
use Rattle.plan_run.specs.Opening.{AreReady}
use Rattle.plan_run.specs.Ready.{IsJobOf}
use Rattle.plan_run.specs.declared.parts.RunParts.{RunParts}
use Rattle.run_files.specs.Reports.{counts_text}
use Rattle.feed_reader.specs.declared.counts.FeedCounts.{FeedCounts}
use Rattle.run_files.specs.declared.counts.ScriptCounts.{ScriptCounts}
use Rattle.plan_run.specs.Closing.{ClosesRun, threads_end}
use Rattle.plan_run.specs.Counted.{script_counts}
use Rattle.plan_run.specs.ThreadEnds.{feed_end, feeds_end, session_end, sessions_end, starved_end}
use Rattle.session_core.specs.Scripts.{is_script_refused}
use Rattle.session_core.specs.declared.fault.SessionFault.TheVariants as fault
use Rattle.world_core.specs.Interleaving.{IsInterleaving, entry_points, list_of}

module _ {P I O T : Type 0} (p : PlaceSeen P) (i : SourceSeen I) (s : SinkSeen O) (t : SinkSeen T) (plan : Plan) (parts : RunParts I O) (place place' : P) (out out' : T) where
  -- What ended well of a run that was closed, and was to end well
  pub record EndsWell (crewed : Crewed I O) (closes : ClosesRun plan crewed parts.journal (parts_seen p i s) t (at place out) (at place' out') (Ok tt)) : Type 0 where
    pub fed : crewed.starved ≡ false
    pub feeds : All (λ (done : FeedDone I). done.counts.fault ≡ None) crewed.feeds
    pub asks : All (λ (done : SessionDone I O). done.fault ≡ None) crewed.asks
    pub finals : All (λ (done : SessionDone I O). done.fault ≡ None) crewed.finals
    pub wrote : closes.wrote ≡ Ok tt
    pub given : closes.given ≡ Ok tt
    pub kept : closes.kept ≡ Ok tt
    pub said : closes.said ≡ Ok tt

  pub ends_well : (crewed : Crewed I O) (closes : ClosesRun plan crewed parts.journal (parts_seen p i s) t (at place out) (at place' out') (Ok tt)) → EndsWell crewed closes
  ends_well crewed closes =
      let five = all_well (threads_end crewed ∷ write_end closes.wrote ∷ closes.given ∷ write_end closes.kept ∷ closes.said ∷ []) (sym closes.ends) in
      let threads = All-head IsWell (threads_end crewed) (write_end closes.wrote ∷ closes.given ∷ write_end closes.kept ∷ closes.said ∷ []) five in
      let four = All-tail IsWell (threads_end crewed) (write_end closes.wrote ∷ closes.given ∷ write_end closes.kept ∷ closes.said ∷ []) five in
      let three = All-tail IsWell (write_end closes.wrote) (closes.given ∷ write_end closes.kept ∷ closes.said ∷ []) four in
      let two = All-tail IsWell closes.given (write_end closes.kept ∷ closes.said ∷ []) three in
      let one = All-tail IsWell (write_end closes.kept) (closes.said ∷ []) two in
      let inner = all_well (starved_end crewed.starved ∷ feeds_end crewed.feeds ∷ sessions_end crewed.asks ∷ sessions_end crewed.finals ∷ []) threads in
      let fed = All-tail IsWell (starved_end crewed.starved) (feeds_end crewed.feeds ∷ sessions_end crewed.asks ∷ sessions_end crewed.finals ∷ []) inner in
      let asked = All-tail IsWell (feeds_end crewed.feeds) (sessions_end crewed.asks ∷ sessions_end crewed.finals ∷ []) fed in
      let finals = All-tail IsWell (sessions_end crewed.asks) (sessions_end crewed.finals ∷ []) asked in
      let feed : FeedDone I → Result (Unit {0}) Stop = λ (done : FeedDone I). feed_end done.counts.fault in
      let session : SessionDone I O → Result (Unit {0}) Stop = λ (done : SessionDone I O). session_end done.fault in
      record {
        fed = starved_well crewed.starved (All-head IsWell (starved_end crewed.starved) (feeds_end crewed.feeds ∷ sessions_end crewed.asks ∷ sessions_end crewed.finals ∷ []) inner);
        feeds = All-weaker (λ (done : FeedDone I). IsWell (feed done)) (λ (done : FeedDone I). done.counts.fault ≡ None) (λ done e. feed_well done.counts.fault e) crewed.feeds
            (All-unmapped feed IsWell crewed.feeds (all_well (map feed crewed.feeds) (All-head IsWell (feeds_end crewed.feeds) (sessions_end crewed.asks ∷ sessions_end crewed.finals ∷ []) fed)));
        asks = All-weaker (λ (done : SessionDone I O). IsWell (session done)) (λ (done : SessionDone I O). done.fault ≡ None) (λ done e. session_well done.fault e) crewed.asks
            (All-unmapped session IsWell crewed.asks (all_well (map session crewed.asks) (All-head IsWell (sessions_end crewed.asks) (sessions_end crewed.finals ∷ []) asked)));
        finals = All-weaker (λ (done : SessionDone I O). IsWell (session done)) (λ (done : SessionDone I O). done.fault ≡ None) (λ done e. session_well done.fault e) crewed.finals
            (All-unmapped session IsWell crewed.finals (all_well (map session crewed.finals) (All-head IsWell (sessions_end crewed.finals) [] finals)));
        wrote = written_well closes.wrote (All-head IsWell (write_end closes.wrote) (closes.given ∷ write_end closes.kept ∷ closes.said ∷ []) four);
        given = All-head IsWell closes.given (write_end closes.kept ∷ closes.said ∷ []) three;
        kept = written_well closes.kept (All-head IsWell (write_end closes.kept) (closes.said ∷ []) two);
        said = All-head IsWell closes.said [] one;
      }

  abbrev sink_of : SessionDone I O → O
  sink_of done = done.sink

  -- the files of a run that was closed and ended well
  pub completed : EntryLaws → (files now : Files) (crewed : Crewed I O) → NamesFiles plan → AreReady i.left i.faults s (Some files) plan parts → IsCrewed (ends_seen i s) OwnsAllButRoot plan.schema parts.jobs crewed
      → p.files place ≡ Some now → (closes : ClosesRun plan crewed parts.journal (parts_seen p i s) t (at place out) (at place' out') (Ok tt)) → IsSomeAnd (p.files place') (λ files'. IsCompleted plan files files' (t.held out) (t.held out'))
  completed laws files now crewed names ready ran told closes =
      let well = ends_well crewed closes in
      let found = ran.found well.fed in
      let points = entry_points crewed.journal in
      let back = closes.parts in
      -- the files once the sources were given back, the replies, and the journal
      let told_read : p.files back.read ≡ Some now = back.finals_back.files ∙ back.asks_back.files ∙ back.feeds_back.files ∙ told in
      let sinks : List O = map sink_of crewed.asks ++ map sink_of crewed.finals in
      let sinks_back : TakesSinks p s back.read closes.replied sinks (Ok tt) = subst (λ r. TakesSinks p s back.read closes.replied sinks r) well.given back.sinks_back in
      let replied = told_pair (p.files back.read) (p.files closes.replied) now (λ a b. (other : List ℕ) → ¬ Contains (map s.name sinks) other → get b other ≡ get a other) told_read sinks_back.others in
      let last = told_pair (p.files closes.replied) (p.files place') replied.0 (λ a b. SameBut a b (s.name closes.sink)) replied.1 closes.journal.others in
      -- feeds and scripts
      let fed = are_fed i.left i.faults plan.schema (file_or_empty files) plan.feeds parts.jobs.feeds ran.sent crewed.feeds ready.feeds ran.feeds well.feeds in
      let ran_asks = subst (λ closed. AllZip (LeavesTranscript (ends_seen i s) OwnsAllButRoot plan.schema false (closing crewed.closed crewed.starved (answered_over closed crewed.journal crewed.drawn))) parts.jobs.asks crewed.asks) found.closed ran.asks in
      let ran_finals = subst (λ closed. AllZip (LeavesTranscript (ends_seen i s) OwnsAllButRoot plan.schema true (closing crewed.closed crewed.starved (answered_over closed crewed.journal crewed.drawn))) parts.jobs.finals crewed.finals) found.closed ran.finals in
      let asks = all_replied i s plan.schema false points files crewed.closed crewed.starved plan.asks parts.jobs.asks crewed.asks found.closed well.fed ready.asks ran_asks well.asks in
      let finals = all_replied i s plan.schema true points files crewed.closed crewed.starved plan.finals parts.jobs.finals crewed.finals found.closed well.fed ready.finals ran_finals well.finals in
      -- names
      let apart : AllPairs (λ n m. n ≢ m) (output_names plan) = AllPairs-back (λ n m. n ≢ m) (input_names plan) (output_names plan) names.apart in
      let outs : List (List ℕ) = outputs plan.asks ++ outputs plan.finals in
      let others : All (λ name. name ≢ plan.journal) outs = AllPairs-last (λ n m. n ≢ m) outs plan.journal apart in
      let sinks_are : map s.name sinks ≡ outs =
      map-append s.name (map sink_of crewed.asks) (map sink_of crewed.finals)
      ∙ ap (λ ns. ns ++ map s.name (map sink_of crewed.finals)) (sinks_named i s plan.schema false points files plan.asks crewed.asks asks)
      ∙ ap (λ ns. outputs plan.asks ++ ns) (sinks_named i s plan.schema true points files plan.finals crewed.finals finals) in
      let sinks_apart : AllPairs (λ n m. n ≢ m) (map s.name sinks) = subst (AllPairs (λ n m. n ≢ m)) (sym sinks_are) (AllPairs-front (λ n m. n ≢ m) outs (plan.journal ∷ []) apart) in
      let landed = all_landed p s back.read closes.replied sinks (some_is (p.files back.read) now told_read) sinks_apart sinks_back in
      -- the journal
      let journal_is : s.name closes.sink ≡ plan.journal = closes.written.name ∙ ready.journal.name_is in
      let text : List ℕ = journal_text plan.schema crewed.journal in
      let gained : Gains (s.held parts.journal) (s.held closes.sink) text = subst (λ r. OnOk r (Gains (s.held parts.journal) (s.held closes.sink) text)) well.wrote closes.written.whole in
      let held : s.held closes.sink ≡ Some text = subst (λ o. Gains o (s.held closes.sink) text) ready.journal.holds_nothing gained in
      let lands : Told (s.held closes.sink) (HasFile (p.files place') (s.name closes.sink)) = subst (λ r. Lands (p.files closes.replied) (p.files place') (s.name closes.sink) (s.held closes.sink) r) well.kept closes.journal.lands in
      let journal : get last.0 plan.journal ≡ Some text =
      Told-some (p.files place') last.0 (λ f. get f plan.journal ≡ Some text) last.1
      (subst (λ name. HasFile (p.files place') name text) journal_is (Told-some (s.held closes.sink) text (HasFile (p.files place') (s.name closes.sink)) held lands)) in
      let same : SameBut replied.0 last.0 plan.journal = subst (SameBut replied.0 last.0) journal_is last.2 in
      let to_asks = transcripts i s plan.schema false points files (p.files closes.replied) (p.files place') replied.0 last.0 plan.journal replied.1 last.1 same plan.asks crewed.asks asks
      (All-front (λ sink. Told (s.held sink) (HasFile (p.files closes.replied) (s.name sink))) (map sink_of crewed.asks) (map sink_of crewed.finals) landed) (All-front (λ name. name ≢ plan.journal) (outputs plan.asks) (outputs plan.finals) others) in
      let to_finals = transcripts i s plan.schema true points files (p.files closes.replied) (p.files place') replied.0 last.0 plan.journal replied.1 last.1 same plan.finals crewed.finals finals
      (All-back (λ sink. Told (s.held sink) (HasFile (p.files closes.replied) (s.name sink))) (map sink_of crewed.asks) (map sink_of crewed.finals) landed) (All-back (λ name. name ≢ plan.journal) (outputs plan.asks) (outputs plan.finals) others) in
      -- the order of the entries
      let count : length parts.jobs.feeds ≡ length plan.feeds = AllZip-length (λ name job. IsJobOf i.left i.faults plan.schema (Some (file_or_empty files name)) job) plan.feeds parts.jobs.feeds ready.feeds in
      let drawn : IsInterleaving (length plan.feeds) (list_of ran.sent) crewed.journal =
      subst (λ n. IsInterleaving n (list_of ran.sent) crewed.journal) count (subst (IsInterleaving (length parts.jobs.feeds) (list_of ran.sent)) (sym found.journal) ran.drawn) in
      let order : IsInterleaving (length plan.feeds) (list_of (map (λ name. accepted plan.schema (file_or_empty files name)) plan.feeds)) crewed.journal =
      subst (λ ls. IsInterleaving (length plan.feeds) (list_of ls) crewed.journal) fed.sent drawn in
      let valid = entries_valid laws plan files crewed.journal names order in
      -- the report
      let counted : List FeedCounts → List ScriptCounts → List ScriptCounts → Bool → List ℕ = λ fs qs ls closed. counts_text plan fs qs ls closed (length crewed.journal) in
      let fed_counts : List FeedCounts = map (λ (done : FeedDone I). done.counts) crewed.feeds in
      let report : counted fed_counts (map script_counts crewed.asks) (map script_counts crewed.finals) crewed.closed
      ≡ counted (map counts_of_rows (map (λ name. whole_rows plan.schema (file_or_empty files name)) plan.feeds)) (map reply_counts to_asks.0) (map reply_counts to_finals.0) true =
      ap (λ fs. counted fs (map script_counts crewed.asks) (map script_counts crewed.finals) crewed.closed) (fed.counts ∙ sym (map-map counts_of_rows (λ name. whole_rows plan.schema (file_or_empty files name)) plan.feeds))
      ∙ ap (λ qs. counted (map counts_of_rows (map (λ name. whole_rows plan.schema (file_or_empty files name)) plan.feeds)) qs (map script_counts crewed.finals) crewed.closed) to_asks.2
      ∙ ap (λ ls. counted (map counts_of_rows (map (λ name. whole_rows plan.schema (file_or_empty files name)) plan.feeds)) (map reply_counts to_asks.0) ls crewed.closed) to_finals.2
      ∙ ap (λ c. counted (map counts_of_rows (map (λ name. whole_rows plan.schema (file_or_empty files name)) plan.feeds)) (map reply_counts to_asks.0) (map reply_counts to_finals.0) c) found.closed in
      let puts : Gains (t.held out) (t.held out') (counted fed_counts (map script_counts crewed.asks) (map script_counts crewed.finals) crewed.closed) =
      (subst (λ r. OnOk r (Said t out out' (counted fed_counts (map script_counts crewed.asks) (map script_counts crewed.finals) crewed.closed))) well.said closes.report.puts).held in
      subst (λ o. IsSomeAnd o (λ files'. IsCompleted plan files files' (t.held out) (t.held out'))) (sym last.1)
      (record {
        entries = crewed.journal;
        journal = journal;
        valid = valid;
        only = λ others are same. laws.0 plan.schema others crewed.journal are valid same;
        order = order;
        taken = fed.taken;
        answered = All-append (λ name. is_script_refused plan.schema (file_or_empty files name) ≡ false) plan.asks plan.finals (all_taken i s plan.schema false points files plan.asks crewed.asks asks)
            (all_taken i s plan.schema true points files plan.finals crewed.finals finals);
        ask_replies = to_asks.0;
        asks = to_asks.1;
        final_replies = to_finals.0;
        finals = to_finals.1;
        report = subst (Gains (t.held out) (t.held out')) report puts;
      })
