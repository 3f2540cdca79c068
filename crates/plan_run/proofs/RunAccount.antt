-- What a run that was closed leaves and says, whatever interrupted it.
use Rattle.std.proofs.Common.{◌≡◌, ◌≢◌, ◌+◌, ◌≤◌, ℕ, Bool, true, false, List, [], ◌∷◌, ◌++◌, All, length, map, nat_lt, take, Option, Some, Result, Ok, Err, IsSomeAnd, refl, sym, ap, subst, ◌∙◌, append-nil, arith}
use Rattle.std.specs.Prelude.{AllPairs, Any, Contains, IsErrOf, OnErr, OnOk, count_by}
use Rattle.std.specs.FinMap.{get}
use Rattle.std.specs.List.{AllZip}
use Rattle.std.proofs.Math.Seq.{take-length}
use Rattle.std.proofs.lemmas.Bool.{ltb-false, ltb-true}
use Rattle.std.proofs.lemmas.List.{length-map, length-take, map-append, take-take, take_all}
use Rattle.std.proofs.lemmas.List.Elements.{All-append, All-contains, All-contains_itself, All-head, All-map, All-weaker}
use Rattle.crew_feeder.specs.declared.done.FeedDone.{FeedDone}
use Rattle.live_session.specs.declared.done.SessionDone.{SessionDone}
use Rattle.cube_crew.proofs.Zips.{AllZip-length, AllZip-right, AllZip-then}
use Rattle.cube_crew.specs.Crewed.{IsCrewed, LeavesTranscript, answered_over, closing}
use Rattle.cube_crew.specs.declared.jobs.Crewed.{Crewed}
use Rattle.cube_schema.specs.Files.{NamesFiles, input_names, output_names}
use Rattle.cube_schema.specs.Repeats.{outputs}
use Rattle.cube_schema.specs.declared.plan.Plan.{Plan}
use Rattle.cube_store.specs.Numbers.{OwnsAllButRoot}
use Rattle.cube_view.specs.Points.{Point}
use Rattle.feed_queue.specs.Journal.{journal_text}
use Rattle.feed_reader.specs.Feeds.{accepted, points_in}
use Rattle.feed_reader.specs.RowCounts.{FeedRows}
use Rattle.feed_reader.specs.declared.counts.FeedCounts.{FeedCounts}
use Rattle.feed_reader.specs.declared.job.FeedJob.{FeedJob}
use Rattle.outer_io.proofs.CountLaws.{RoseBy-add}
use Rattle.outer_io.proofs.ToldLaws.{Told-some}
use Rattle.outer_io.specs.Bytes.{Gains, GainsPart}
use Rattle.outer_io.specs.Faults.{Rose, RoseBy}
use Rattle.outer_io.specs.Files.{Files, HasFile, HasPart, SameBut, file_or_empty}
use Rattle.outer_io.specs.Told.{Told}
use Rattle.outer_io.specs.declared.cutter.CutFault.{CutFault}
use Rattle.outer_io.specs.declared.fault.IoFault.{IoFault}
use Rattle.outer_io.specs.declared.fault.IoFault.TheVariants as io
use Rattle.run_files.proofs.FaultRises.{counts_failed, counts_grow, rose_from_before, rose_later}
use Rattle.run_files.proofs.Lists.{All-back, All-front}
use Rattle.run_files.specs.GivingBack.{Lands, faulty}
use Rattle.run_files.specs.Outside.{at, file_of, parts_seen, PlaceSeen, SinkSeen, SourceSeen}
use Rattle.run_files.specs.Reports.{counts_text}
use Rattle.run_files.specs.Stops.{joined_ends, write_end}
use Rattle.run_files.specs.declared.counts.ScriptCounts.{ScriptCounts}
use Rattle.run_files.specs.declared.stop.Stop.{Stop}
use Rattle.run_files.specs.declared.stop.Stop.TheVariants.{NoMemory, PlanRefused, ReadFault, WriteFault, FeedRefused}
use Rattle.session_core.specs.declared.fault.SessionFault.{SessionFault}
use Rattle.session_core.specs.declared.fault.SessionFault.TheVariants as fault
use Rattle.world_core.specs.Interleaving.{IsInterleaving, list_of}
use Rattle.world_core.specs.PairFact.{IsPrefix}
use Rattle.world_core.specs.declared.entry.Entry.{Entry}
use Rattle.plan_run.specs.Opening.{AreReady}
use Rattle.plan_run.specs.Ready.{IsJobOf, IsSessionOf}
use Rattle.plan_run.specs.declared.parts.RunParts.{RunParts}
use Rattle.plan_run.specs.Closing.{ClosesRun, run_text, threads_end}
use Rattle.plan_run.specs.Counted.{script_counts}
use Rattle.plan_run.specs.ThreadEnds.{feed_end, feeds_end, session_end, sessions_end, starved_end}
use Rattle.plan_run.proofs.ScriptAnswers.{HasRun, answers_script, stops_script}
use Rattle.plan_run.proofs.Causes.{FeedCause, SessionCause}
use Rattle.plan_run.proofs.ReadFaultCounts.{count-map, unread_feeds, unread_scripts}
use Rattle.plan_run.proofs.Fronts.{answered_front, interleaves_fronts}
use Rattle.plan_run.proofs.FullFiles.{all_held}
use Rattle.plan_run.proofs.WellEnds.{All-unmapped, End}
use Rattle.plan_run.proofs.OutputFiles.{AllPairs-back, AllPairs-front, AllPairs-last, told_pair}
use Rattle.plan_run.proofs.OutputsByEnd.{LandsAs, all_landed_as}
use Rattle.plan_run.proofs.RunNames.{dones_named}
use Rattle.plan_run.proofs.EndRanks.{ComesFirst, all_ranked, lacking, rank_end, within}
use Rattle.plan_run.proofs.FeedOutcomes.{Gave, GaveRows, StandsAfterOne, all_gave, points_begin, takes_feed}
use Rattle.plan_run.proofs.Zips.{AllZip-ap, AllZip-mapped, AllZip-with}
use Rattle.plan_run.specs.Interrupted.{Account, BeginsFiles, AnswersInFile, HoldsFiles, InterleavesFronts, IsUnwritten, StopsScript, ReportsFeed, account_text, accepted_lists, is_script_unread, is_unread, read_stops}
use Rattle.plan_run.specs.Parts.{ends_seen}

abbrev Answer : Type 0
Answer = Result (Unit {0}) IoFault

abbrev well : End
well = Ok tt

-- writing that neither failed nor found no memory went well
fine : (answer : Answer) → answer ≢ Err io.Failed → answer ≢ Err io.NoMemory → answer ≡ Ok tt
fine (Ok x) written found = refl
fine (Err io.Failed) written found = absurd (written refl)
fine (Err io.NoMemory) written found = absurd (found refl)

-- want of memory comes first of two ends
joined_left : (b : End) → joined_ends (Err NoMemory) b ≡ Err NoMemory
joined_left (Ok x) = refl
joined_left (Err NoMemory) = refl
joined_left (Err PlanRefused) = refl
joined_left (Err ReadFault) = refl
joined_left (Err WriteFault) = refl
joined_left (Err FeedRefused) = refl

joined_right : (a : End) → joined_ends a (Err NoMemory) ≡ Err NoMemory
joined_right (Ok x) = refl
joined_right (Err NoMemory) = refl
joined_right (Err PlanRefused) = refl
joined_right (Err ReadFault) = refl
joined_right (Err WriteFault) = refl
joined_right (Err FeedRefused) = refl

-- a sink that held nothing holds a beginning of what was put into it
part_held : (before after : Option (List ℕ)) (text : List ℕ) (r : Answer) → OnOk r (Gains before after text) → OnErr r (GainsPart before after text) → before ≡ Some [] → (n : ℕ) × (after ≡ Some (take n text))
part_held before after text (Ok x) whole part none = (length text, subst (λ o. Gains o after text) none whole ∙ ap (λ (bytes : List ℕ). Some bytes) (sym (take-length text)))
part_held before after text (Err e) whole part none = (part.0, subst (λ o. Gains o after (take part.0 text)) none part.1)

-- a beginning of a beginning is one
take_twice : (m n : ℕ) (text : List ℕ) → (k : ℕ) × (take m (take n text) ≡ take k text)
take_twice m n text = by (nat_lt n m) refl
  where
    by : (b : Bool) → nat_lt n m ≡ b → (k : ℕ) × (take m (take n text) ≡ take k text)
    by true is = (n, take_all m (take n text) (omega (arith, length-take n text, ltb-true n m is)))
    by false is = (m, take-take m n text (ltb-false n m is))

-- and so does its file
part_lands : (f g : Files) (after : Option Files) (name text : List ℕ) (held : Option (List ℕ)) (n : ℕ) → held ≡ Some (take n text) → after ≡ Some g → get f name ≡ Some [] → (r : Answer) → Lands (Some f) after name held r → (m : ℕ) × (get g name ≡ Some (take m text))
part_lands f g after name text held n is told empty (Ok x) lands = (n, Told-some after g (λ now. get now name ≡ Some (take n text)) told (Told-some held (take n text) (HasFile after name) is lands))
part_lands f g after name text held n is told empty (Err io.Failed) lands =
    let part = Told-some held (take n text) (HasPart after name) is lands in
    let twice = take_twice part.0 n text in
    (twice.0, Told-some after g (λ now. get now name ≡ Some (take part.0 (take n text))) told part.1 ∙ ap (λ (bytes : List ℕ). Some bytes) twice.1)
part_lands f g after name text held n is told empty (Err io.NoMemory) lands = (0, subst (λ o. IsSomeAnd o (λ now. get now name ≡ get f name)) told lands ∙ empty)

module _ {P I O T : Type 0} (p : PlaceSeen P) (i : SourceSeen I) (s : SinkSeen O) (t : SinkSeen T) (plan : Plan) (parts : RunParts I O) (place place' : P) (out out' : T) (o : Option Files) (ready : AreReady i.left i.faults s o plan parts) (crewed : Crewed I O)
    (ran : IsCrewed (ends_seen i s) OwnsAllButRoot plan.schema parts.jobs crewed)
    (feed_causes : All (FeedCause i.faults) crewed.feeds) (ask_causes : All (SessionCause i.faults s.faults) crewed.asks) (final_causes : All (SessionCause i.faults s.faults) crewed.finals)
    (result : Result (Unit {0}) Stop) (planned : result ≢ Err PlanRefused) (closes : ClosesRun plan crewed parts.journal (parts_seen p i s) t (at place out) (at place' out') result) where
  abbrev sink_of : SessionDone I O → O
  sink_of session = session.sink

  -- ---- which ends come no earlier

  five_ends : ComesFirst (rank_end result) (threads_end crewed ∷ write_end closes.wrote ∷ closes.given ∷ write_end closes.kept ∷ closes.said ∷ [])
  five_ends =
      subst (λ (e : End). ComesFirst (rank_end e) (threads_end crewed ∷ write_end closes.wrote ∷ closes.given ∷ write_end closes.kept ∷ closes.said ∷ [])) (sym closes.ends)
      (all_ranked (threads_end crewed ∷ write_end closes.wrote ∷ closes.given ∷ write_end closes.kept ∷ closes.said ∷ []))

  four_ends : ComesFirst (rank_end result) (starved_end crewed.starved ∷ feeds_end crewed.feeds ∷ sessions_end crewed.asks ∷ sessions_end crewed.finals ∷ [])
  four_ends = within (rank_end result) (starved_end crewed.starved ∷ feeds_end crewed.feeds ∷ sessions_end crewed.asks ∷ sessions_end crewed.finals ∷ []) (five_ends 0 well (omega arith))

  wrote_first : rank_end result ≤ rank_end (write_end closes.wrote)
  wrote_first = five_ends 1 well (omega arith)

  given_first : rank_end result ≤ rank_end closes.given
  given_first = five_ends 2 well (omega arith)

  kept_first : rank_end result ≤ rank_end (write_end closes.kept)
  kept_first = five_ends 3 well (omega arith)

  said_first : rank_end result ≤ rank_end closes.said
  said_first = five_ends 4 well (omega arith)

  -- the end comes no later than that of a fault of a feed
  abbrev FeedFirst : Option CutFault → Type 0
  FeedFirst f = rank_end result ≤ rank_end (feed_end f)

  feeds_first : All (λ (d : FeedDone I). FeedFirst d.counts.fault) crewed.feeds
  feeds_first =
      All-unmapped (λ (d : FeedDone I). feed_end d.counts.fault) (λ (e : End). rank_end result ≤ rank_end e) crewed.feeds
      (within (rank_end result) (map (λ (d : FeedDone I). feed_end d.counts.fault) crewed.feeds) (four_ends 1 well (omega arith)))

  abbrev SessionFirst : SessionDone I O → Type 0
  SessionFirst d = rank_end result ≤ rank_end (session_end d.fault)

  sessions_first : (sessions : List (SessionDone I O)) → rank_end result ≤ rank_end (sessions_end sessions) → All SessionFirst sessions
  sessions_first sessions first =
      All-unmapped (λ (d : SessionDone I O). session_end d.fault) (λ (e : End). rank_end result ≤ rank_end e) sessions
      (within (rank_end result) (map (λ (d : SessionDone I O). session_end d.fault) sessions) first)

  asks_first : All SessionFirst crewed.asks
  asks_first = sessions_first crewed.asks (four_ends 2 well (omega arith))

  finals_first : All SessionFirst crewed.finals
  finals_first = sessions_first crewed.finals (four_ends 3 well (omega arith))

  starving : crewed.starved ≡ true → result ≡ Err NoMemory
  starving is = lacking result (subst (λ b. rank_end result ≤ rank_end (starved_end b)) is (four_ends 0 well (omega arith)))

  fed_where : (b : Bool) → crewed.starved ≡ b → result ≢ Err NoMemory → crewed.starved ≡ false
  fed_where true is found = absurd (found (starving is))
  fed_where false is found = is

  unclosed : (b : Bool) → crewed.starved ≡ b → crewed.closed ≡ false → result ≡ Err NoMemory
  unclosed true is open' = starving is
  unclosed false is open' = absurd (cc (open', (ran.found is).closed))

  -- ---- what it reports

  gave : Gave i.left i.faults parts.jobs.feeds ran.sent crewed.feeds
  gave = all_gave i.left i.faults parts.jobs.feeds ran.sent crewed.feeds (AllZip-right (λ name. IsJobOf i.left i.faults plan.schema (file_of o name)) (StandsAfterOne i.left i.faults) plan.feeds parts.jobs.feeds (λ name job is. is.given) ready.feeds) ran.feeds

  pub account : Account
  account = record { feeds = gave.feeds; asks = map script_counts crewed.asks; finals = map script_counts crewed.finals; closed = crewed.closed; entries = crewed.journal; drawn = crewed.drawn }

  pub account_is : run_text plan crewed ≡ account_text plan account
  unfolding account
  account_is = ap (λ (fs : List FeedCounts). counts_text plan fs (map script_counts crewed.asks) (map script_counts crewed.finals) crewed.closed (length crewed.journal)) gave.counts

  -- the count of reading rose by no less than the report says
  pub reads_counted : RoseBy (read_stops account) (p.read_faults place) (p.read_faults place')
  unfolding account
  reads_counted =
      let back = closes.parts in
      let unread : FeedRows → Bool = λ feed. is_unread feed.fault in
      let script_unread : ScriptCounts → Bool = λ script. is_script_unread script.fault in
      let fed : count_by (λ (feed : FeedRows). is_unread feed.fault) gave.feeds ≡ faulty (map (λ (d : FeedDone I). i.faults d.source) crewed.feeds) =
      sym (count-map (λ (feed : FeedRows). feed.fault) is_unread gave.feeds) ∙ ap (λ (fs : List (Option CutFault)). count_by is_unread fs) gave.faults_are
      ∙ count-map (λ (d : FeedDone I). d.counts.fault) is_unread crewed.feeds ∙ sym (unread_feeds i.faults crewed.feeds feed_causes) in
      let asked : count_by script_unread (map script_counts crewed.asks) ≡ faulty (map (λ (d : SessionDone I O). i.faults d.source) crewed.asks) =
      count-map script_counts script_unread crewed.asks ∙ sym (unread_scripts i.faults s.faults crewed.asks ask_causes) in
      let ended : count_by script_unread (map script_counts crewed.finals) ≡ faulty (map (λ (d : SessionDone I O). i.faults d.source) crewed.finals) =
      count-map script_counts script_unread crewed.finals ∙ sym (unread_scripts i.faults s.faults crewed.finals final_causes) in
      let rose = RoseBy-add _ _ _ _ _ (RoseBy-add _ _ _ _ _ back.feeds_back.rose back.asks_back.rose) back.finals_back.rose in
      let same : read_stops account ≡ faulty (map (λ (d : FeedDone I). i.faults d.source) crewed.feeds) + faulty (map (λ (d : SessionDone I O). i.faults d.source) crewed.asks) + faulty (map (λ (d : SessionDone I O). i.faults d.source) crewed.finals) =
      omega (arith, fed, asked, ended) in
      subst (λ k. RoseBy k (p.read_faults place) (p.read_faults place')) (sym same) (subst (RoseBy _ (p.read_faults place)) (sym (closes.journal.read_faults ∙ back.sinks_back.read_faults)) rose)

  -- the report is left out only where the run ends for want of memory
  pub said_lost : closes.said ≡ Err NoMemory → result ≡ Err NoMemory
  said_lost lost = lacking result (subst (λ (e : End). rank_end result ≤ rank_end e) lost said_first)

  pub said_found : result ≢ Err NoMemory → closes.said ≢ Err NoMemory
  said_found found lost = found (said_lost lost)

  pub wrote_found : result ≢ Err NoMemory → closes.wrote ≢ Err io.NoMemory
  wrote_found found lost = found (lacking result (subst (λ (r : Answer). rank_end result ≤ rank_end (write_end r)) lost wrote_first))

  pub kept_found : result ≢ Err NoMemory → closes.kept ≢ Err io.NoMemory
  kept_found found lost = found (lacking result (subst (λ (r : Answer). rank_end result ≤ rank_end (write_end r)) lost kept_first))

  abbrev Unbroken : SessionDone I O → Type 0
  Unbroken d = d.fault ≢ Some fault.Write

  abbrev sinks : List O
  sinks = map sink_of crewed.asks ++ map sink_of crewed.finals

  -- ---- writing

  before_sinks : p.write_faults closes.parts.read ≡ p.write_faults place
  before_sinks = closes.parts.finals_back.write_faults ∙ closes.parts.asks_back.write_faults ∙ closes.parts.feeds_back.write_faults

  grows_last : p.write_faults closes.replied ≤ p.write_faults place'
  grows_last = counts_grow _ _ (s.faults closes.sink) closes.kept closes.journal.counts

  -- a count that rose as the sinks were given back rose
  from_sinks : Rose (p.write_faults closes.parts.read) (p.write_faults closes.replied) → Rose (p.write_faults place) (p.write_faults place')
  from_sinks rose = rose_later _ _ _ (subst (λ n. Rose n (p.write_faults closes.replied)) before_sinks rose) grows_last

  -- so it did where a sink met a fault
  abbrev RisesFor : Option SessionFault → Type 0
  RisesFor f = f ≡ Some fault.Write → Rose (p.write_faults place) (p.write_faults place')

  rises_for : (sessions : List (SessionDone I O)) → All (SessionCause i.faults s.faults) sessions → All (Contains sinks) (map sink_of sessions) → All (λ (d : SessionDone I O). RisesFor d.fault) sessions
  rises_for sessions causes among = λ k d low is. from_sinks (closes.parts.sinks_back.met _ (All-unmapped sink_of (Contains sinks) sessions among k d low) ((causes k d low).write is))

  -- the count of writing rose where the report says that a script was stopped by `Write`
  pub writes_counted : Any IsUnwritten (account.asks ++ account.finals) → Rose (p.write_faults place) (p.write_faults place')
  unfolding account
  writes_counted any =
      let all : All (Contains sinks) sinks = All-contains_itself sinks in
      let script : ScriptCounts → Type 0 = λ script. RisesFor script.fault in
      let asks : All script (map script_counts crewed.asks) = All-map script script_counts crewed.asks (rises_for crewed.asks ask_causes (All-front (Contains sinks) (map sink_of crewed.asks) (map sink_of crewed.finals) all)) in
      let finals : All script (map script_counts crewed.finals) = All-map script script_counts crewed.finals (rises_for crewed.finals final_causes (All-back (Contains sinks) (map sink_of crewed.asks) (map sink_of crewed.finals) all)) in
      All-append script (map script_counts crewed.asks) (map script_counts crewed.finals) asks finals any.0 any.1 any.2 (subst (λ (it : ScriptCounts). IsUnwritten it) (sym any.3) any.4)

  -- ---- where no writing failed

  module _ (quiet : ¬ Rose (p.write_faults place) (p.write_faults place')) where
    sinks_quiet : ¬ Rose (p.write_faults closes.parts.read) (p.write_faults closes.replied)
    sinks_quiet rose = quiet (from_sinks rose)

    journal_quiet : ¬ Rose (p.write_faults closes.replied) (p.write_faults place')
    journal_quiet rose = quiet (subst (λ n. Rose n (p.write_faults place')) before_sinks (rose_from_before _ _ _ closes.parts.sinks_back.grows rose))

    pub wrote_well : closes.wrote ≢ Err io.NoMemory → closes.wrote ≡ Ok tt
    wrote_well found = fine closes.wrote (λ bad. journal_quiet (closes.journal.counts.rose (subst (λ n. Rose n (s.faults closes.sink)) ready.journal.fresh (closes.written.cause.rose (subst (λ r. IsErrOf r io.Failed) (sym bad) refl))))) found

    -- the journal found memory where the report was not left out for want of it, and where the run did not end for want
    -- of it
    pub wrote_where : closes.said ≢ Err NoMemory → closes.wrote ≢ Err io.NoMemory
    wrote_where said lost = said (closes.unsaid (ap (λ (r : Answer). joined_ends (write_end r) (write_end closes.kept)) lost ∙ joined_left (write_end closes.kept)))

    pub kept_where : closes.said ≢ Err NoMemory → closes.kept ≢ Err io.NoMemory
    kept_where said lost = said (closes.unsaid (ap (λ (r : Answer). joined_ends (write_end closes.wrote) (write_end r)) lost ∙ joined_right (write_end closes.wrote)))

    pub kept_well : closes.kept ≢ Err io.NoMemory → closes.kept ≡ Ok tt
    kept_well found = fine closes.kept (λ bad. journal_quiet (counts_failed _ _ (s.faults closes.sink) closes.kept bad closes.journal.counts)) found

    unmet : All (λ sink. ¬ Rose 0 (s.faults sink)) sinks
    unmet = All-weaker (Contains sinks) (λ sink. ¬ Rose 0 (s.faults sink)) (λ sink among rose. sinks_quiet (closes.parts.sinks_back.met sink among rose)) sinks (All-contains_itself sinks)

    unbroken : (sessions : List (SessionDone I O)) → All (SessionCause i.faults s.faults) sessions → All (λ sink. ¬ Rose 0 (s.faults sink)) (map sink_of sessions) → All Unbroken sessions
    unbroken sessions causes none = λ k d low is. All-unmapped sink_of (λ sink. ¬ Rose 0 (s.faults sink)) sessions none k d low ((causes k d low).write is)

    asks_unbroken : All Unbroken crewed.asks
    asks_unbroken = unbroken crewed.asks ask_causes (All-front (λ sink. ¬ Rose 0 (s.faults sink)) (map sink_of crewed.asks) (map sink_of crewed.finals) unmet)

    finals_unbroken : All Unbroken crewed.finals
    finals_unbroken = unbroken crewed.finals final_causes (All-back (λ sink. ¬ Rose 0 (s.faults sink)) (map sink_of crewed.asks) (map sink_of crewed.finals) unmet)

  -- ---- where the files are told

  module _ (files now : Files) (told : o ≡ Some files) (names : NamesFiles plan) (now_told : p.files place ≡ Some now) (emptied : All (λ name. get now name ≡ Some []) (output_names plan)) where
    it_is : AreReady i.left i.faults s (Some files) plan parts
    it_is = subst (λ o. AreReady i.left i.faults s o plan parts) told ready

    abbrev points : List Point
    points = answered_over crewed.closed crewed.journal crewed.drawn

    asks_run : AllZip (HasRun i s plan.schema false crewed.closed crewed.starved points files result) plan.asks crewed.asks
    asks_run =
        AllZip-then (IsSessionOf i.left i.faults s (Some files)) (LeavesTranscript (ends_seen i s) OwnsAllButRoot plan.schema false (closing crewed.closed crewed.starved points)) (HasRun i s plan.schema false crewed.closed crewed.starved points files result)
        plan.asks parts.jobs.asks crewed.asks (λ name before d r l. record { before = before; ready = r; leaves = l }) it_is.asks ran.asks

    finals_run : AllZip (HasRun i s plan.schema true crewed.closed crewed.starved points files result) plan.finals crewed.finals
    finals_run =
        AllZip-then (IsSessionOf i.left i.faults s (Some files)) (LeavesTranscript (ends_seen i s) OwnsAllButRoot plan.schema true (closing crewed.closed crewed.starved points)) (HasRun i s plan.schema true crewed.closed crewed.starved points files result)
        plan.finals parts.jobs.finals crewed.finals (λ name before d r l. record { before = before; ready = r; leaves = l }) it_is.finals ran.finals

    stopped : (final : Bool) (scripts : List (List ℕ)) (sessions : List (SessionDone I O)) → AllZip (HasRun i s plan.schema final crewed.closed crewed.starved points files result) scripts sessions → All SessionFirst sessions → AllZip (StopsScript plan.schema crewed.closed result files) scripts (map script_counts sessions)
    stopped final scripts sessions run first =
        AllZip-mapped (StopsScript plan.schema crewed.closed result files) script_counts scripts sessions
        (AllZip-with (HasRun i s plan.schema final crewed.closed crewed.starved points files result) SessionFirst (λ name d. StopsScript plan.schema crewed.closed result files name (script_counts d)) scripts sessions
        (stops_script i s plan.schema final crewed.closed crewed.starved points files result planned) run first)

    told_read : p.files closes.parts.read ≡ Some now
    told_read = closes.parts.finals_back.files ∙ closes.parts.asks_back.files ∙ closes.parts.feeds_back.files ∙ now_told

    replied : (f : Files) × (p.files closes.replied ≡ Some f) × ((other : List ℕ) → ¬ Contains (map s.name sinks) other → get f other ≡ get now other)
    replied = told_pair (p.files closes.parts.read) (p.files closes.replied) now (λ a b. (other : List ℕ) → ¬ Contains (map s.name sinks) other → get b other ≡ get a other) told_read closes.parts.sinks_back.others

    last : (g : Files) × (p.files place' ≡ Some g) × SameBut replied.0 g (s.name closes.sink)
    last = told_pair (p.files closes.replied) (p.files place') replied.0 (λ a b. SameBut a b (s.name closes.sink)) replied.1 closes.journal.others

    journal_named : s.name closes.sink ≡ plan.journal
    journal_named = closes.written.name ∙ ready.journal.name_is

    same : SameBut replied.0 last.0 plan.journal
    same = subst (SameBut replied.0 last.0) journal_named last.2

    abbrev outs : List (List ℕ)
    outs = outputs plan.asks ++ outputs plan.finals

    apart : AllPairs (λ n m. n ≢ m) (outs ++ plan.journal ∷ [])
    apart = AllPairs-back (λ n m. n ≢ m) (input_names plan) (output_names plan) names.apart

    sinks_named : map s.name sinks ≡ outs
    sinks_named =
        map-append s.name (map sink_of crewed.asks) (map sink_of crewed.finals)
        ∙ ap (λ ns. ns ++ map s.name (map sink_of crewed.finals)) (dones_named i s o OwnsAllButRoot plan.schema false crewed.closed crewed.starved points plan.asks parts.jobs.asks crewed.asks ready.asks ran.asks)
        ∙ ap (λ ns. outputs plan.asks ++ ns) (dones_named i s o OwnsAllButRoot plan.schema true crewed.closed crewed.starved points plan.finals parts.jobs.finals crewed.finals ready.finals ran.finals)

    -- what is said of the outputs' names is said of those of the sinks
    of_sinks : (Q : List ℕ → Type 0) → All Q outs → All (λ sink. Q (s.name sink)) sinks
    of_sinks Q all = All-unmapped s.name Q sinks (subst (All Q) (sym sinks_named) all)

    takes : AllZip (ReportsFeed plan.schema result files) plan.feeds gave.feeds
    takes =
        AllZip-with (λ name feed. (job : FeedJob I) × IsJobOf i.left i.faults plan.schema (Some (file_or_empty files name)) job × GaveRows i.left i.faults job feed) (λ (feed : FeedRows). FeedFirst feed.fault) (ReportsFeed plan.schema result files) plan.feeds gave.feeds
        (λ name feed is first. takes_feed i.left i.faults plan.schema result planned files name is.0 feed is.1 is.2 first)
        (AllZip-then (λ name. IsJobOf i.left i.faults plan.schema (Some (file_or_empty files name))) (GaveRows i.left i.faults) _ plan.feeds parts.jobs.feeds gave.feeds (λ name job feed is gives. (job, is, gives)) it_is.feeds gave.gave)
        (All-unmapped (λ (feed : FeedRows). feed.fault) FeedFirst gave.feeds (subst (All FeedFirst) (sym gave.faults_are) (All-map FeedFirst (λ (d : FeedDone I). d.counts.fault) crewed.feeds feeds_first)))

    text : List ℕ
    text = journal_text plan.schema crewed.journal

    count : length parts.jobs.feeds ≡ length plan.feeds
    count = AllZip-length (λ name job. IsJobOf i.left i.faults plan.schema (Some (file_or_empty files name)) job) plan.feeds parts.jobs.feeds it_is.feeds

    fronts : (entries : List Entry) → IsPrefix entries crewed.drawn → InterleavesFronts (accepted_lists plan files) entries
    fronts entries begins =
        let acc : List ℕ → List Point = λ name. accepted plan.schema (file_or_empty files name) in
        let prefixes : AllZip IsPrefix (map (λ (feed : FeedRows). points_in feed.rows) gave.feeds) (accepted_lists plan files) =
        AllZip-ap (ReportsFeed plan.schema result files) IsPrefix (λ name. accepted plan.schema (file_or_empty files name)) (λ (feed : FeedRows). points_in feed.rows) plan.feeds gave.feeds (points_begin plan.schema result files) takes in
        interleaves_fronts (accepted_lists plan files) ran.sent (length parts.jobs.feeds) entries crewed.drawn (count ∙ sym (length-map plan.feeds acc)) (subst (λ ls. AllZip IsPrefix ls (accepted_lists plan files)) (sym gave.points) prefixes) ran.drawn begins

    drawn : result ≢ Err NoMemory → IsInterleaving (length plan.feeds) (list_of (map (λ (feed : FeedRows). points_in feed.rows) gave.feeds)) crewed.journal
    drawn found =
        let all = ran.found (fed_where crewed.starved refl found) in
        subst (λ ls. IsInterleaving (length plan.feeds) (list_of ls) crewed.journal) gave.points (subst (λ n. IsInterleaving n (list_of ran.sent) crewed.journal) count (subst (IsInterleaving (length parts.jobs.feeds) (list_of ran.sent)) (sym all.journal) ran.drawn))

    abbrev WasEmpty : List ℕ → Type 0
    WasEmpty name = get now name ≡ Some []

    -- the journal was empty before its sink was given back
    journal_empty : get replied.0 plan.journal ≡ Some []
    journal_empty =
        let others : All (λ name. name ≢ plan.journal) (map s.name sinks) = subst (All (λ name. name ≢ plan.journal)) (sym sinks_named) (AllPairs-last (λ n m. n ≢ m) outs plan.journal apart) in
        replied.2 plan.journal (λ among. All-contains (λ name. name ≢ plan.journal) (map s.name sinks) plan.journal others among refl)
        ∙ All-head WasEmpty plan.journal [] (All-back WasEmpty outs (plan.journal ∷ []) emptied)

    journal_begins : (n : ℕ) × (get last.0 plan.journal ≡ Some (take n text))
    unfolding text
    journal_begins =
        let held = part_held (s.held parts.journal) (s.held closes.sink) text closes.wrote closes.written.whole closes.written.part it_is.journal.holds_nothing in
        let lands : Lands (Some replied.0) (p.files place') plan.journal (s.held closes.sink) closes.kept = subst (λ name. Lands (Some replied.0) (p.files place') name (s.held closes.sink) closes.kept) journal_named (subst (λ f. Lands f (p.files place') (s.name closes.sink) (s.held closes.sink) closes.kept) replied.1 closes.journal.lands) in
        part_lands replied.0 last.0 (p.files place') plan.journal text (s.held closes.sink) held.0 held.1 last.1 journal_empty closes.kept lands

    begins : BeginsFiles plan result account files last.0
    unfolding account text
    begins = record {
      journal = journal_begins;
      order = fronts crewed.journal ran.journal;
      first = ran.journal;
      drawn_order = fronts crewed.drawn ([], sym (append-nil crewed.drawn));
      drawn = drawn;
      feeds = takes;
      asks = stopped false plan.asks crewed.asks asks_run asks_first;
      finals = stopped true plan.finals crewed.finals finals_run finals_first;
      closed = unclosed crewed.starved refl;
    }

    pub begins_files : IsSomeAnd (p.files place') (BeginsFiles plan result account files)
    begins_files = subst (λ f. IsSomeAnd f (BeginsFiles plan result account files)) (sym last.1) begins

    -- ---- and no writing failed

    module _ (quiet : ¬ Rose (p.write_faults place) (p.write_faults place')) (wrote : closes.wrote ≡ Ok tt) (kept : closes.kept ≡ Ok tt) where
      abbrev Whole : ScriptCounts → Type 0
      Whole script = script.fault ≢ Some fault.Write

      landed : All (LandsAs s result last.0) sinks
      landed =
          all_landed_as p s result plan.journal now replied.0 last.0 closes.parts.read closes.replied sinks closes.given told_read replied.1 same
          (of_sinks (λ name. name ≢ plan.journal) (AllPairs-last (λ n m. n ≢ m) outs plan.journal apart))
          (of_sinks (λ name. get now name ≡ Some []) (All-front (λ name. get now name ≡ Some []) outs (plan.journal ∷ []) emptied))
          (subst (AllPairs (λ n m. n ≢ m)) (sym sinks_named) (AllPairs-front (λ n m. n ≢ m) outs (plan.journal ∷ []) apart))
          closes.parts.sinks_back (sinks_quiet quiet) given_first

      answered : (final : Bool) (scripts : List (List ℕ)) (sessions : List (SessionDone I O)) → AllZip (HasRun i s plan.schema final crewed.closed crewed.starved points files result) scripts sessions → All Unbroken sessions → All (LandsAs s result last.0) (map sink_of sessions)
          → AllZip (AnswersInFile plan.schema final result account files last.0) scripts (map script_counts sessions)
      unfolding account
      answered final scripts sessions run whole lands =
          AllZip-mapped (AnswersInFile plan.schema final result account files last.0) script_counts scripts sessions
          (AllZip-with (HasRun i s plan.schema final crewed.closed crewed.starved points files result) (λ (d : SessionDone I O). Unbroken d × LandsAs s result last.0 d.sink) (λ name d. AnswersInFile plan.schema final result account files last.0 name (script_counts d)) scripts sessions
          (answers_script i s plan.schema final crewed.closed crewed.starved points files result last.0 account refl (λ shut. ap (λ (b : Bool). answered_over b crewed.journal crewed.drawn) shut) (answered_front crewed.closed crewed.journal crewed.drawn ran.journal) starving) run (λ k d low. (whole k d low, All-unmapped sink_of (LandsAs s result last.0) sessions lands k d low)))

      journal_file : get last.0 plan.journal ≡ Some text
      unfolding text
      journal_file =
          let gained : Gains (s.held parts.journal) (s.held closes.sink) text = subst (λ r. OnOk r (Gains (s.held parts.journal) (s.held closes.sink) text)) wrote closes.written.whole in
          let held : s.held closes.sink ≡ Some text = subst (λ o. Gains o (s.held closes.sink) text) it_is.journal.holds_nothing gained in
          let lands : Told (s.held closes.sink) (HasFile (p.files place') (s.name closes.sink)) = subst (λ r. Lands (p.files closes.replied) (p.files place') (s.name closes.sink) (s.held closes.sink) r) kept closes.journal.lands in
          Told-some (p.files place') last.0 (λ f. get f plan.journal ≡ Some text) last.1
          (subst (λ name. HasFile (p.files place') name text) journal_named (Told-some (s.held closes.sink) text (HasFile (p.files place') (s.name closes.sink)) held lands))

      pub holds_files : IsSomeAnd (p.files place') (HoldsFiles plan result account files)
      unfolding account text
      holds_files =
          let front = All-front (LandsAs s result last.0) (map sink_of crewed.asks) (map sink_of crewed.finals) landed in
          let back = All-back (LandsAs s result last.0) (map sink_of crewed.asks) (map sink_of crewed.finals) landed in
          let asks_answered = answered false plan.asks crewed.asks asks_run (asks_unbroken quiet) front in
          let finals_answered = answered true plan.finals crewed.finals finals_run (finals_unbroken quiet) back in
          subst (λ f. IsSomeAnd f (HoldsFiles plan result account files)) (sym last.1)
          (record {
            begins = begins;
            journal = journal_file;
            asks = asks_answered;
            finals = finals_answered;
            unbroken = (All-map Whole script_counts crewed.asks (asks_unbroken quiet), All-map Whole script_counts crewed.finals (finals_unbroken quiet));
            all = λ found unread.
                let shut = (ran.found (fed_where crewed.starved refl found)).closed in
                all_held plan result files last.0 found unread account shut takes (drawn found) asks_answered (stopped false plan.asks crewed.asks asks_run asks_first) finals_answered (stopped true plan.finals crewed.finals finals_run finals_first);
          })
