-- What is left of a run after its threads: what giving its parts back, writing its journal and reporting leave.
use Rattle.std.specs.Prelude.{◌≡◌, ℕ, List, [], ◌∷◌, ◌++◌, length, map, Result, Err}
use Rattle.crew_feeder.specs.declared.done.FeedDone.{FeedDone}
use Rattle.live_session.specs.declared.done.SessionDone.{SessionDone}
use Rattle.cube_crew.specs.declared.jobs.Crewed.{Crewed}
use Rattle.cube_schema.specs.declared.plan.Plan.{Plan}
use Rattle.feed_queue.specs.Journal.{journal_text}
use Rattle.outer_io.specs.Asking.{CountsPart}
use Rattle.outer_io.specs.Files.{ChangesOnly}
use Rattle.outer_io.specs.declared.fault.IoFault.{IoFault}
use Rattle.run_files.specs.GivingBack.{Lands, TakesSinks, TakesSources}
use Rattle.run_files.specs.Outside.{Outside, PartsSeen, PlaceSeen, SinkSeen}
use Rattle.run_files.specs.Reports.{counts_text}
use Rattle.run_files.specs.Saying.{SaysText}
use Rattle.run_files.specs.Stops.{joined_ends, write_end}
use Rattle.run_files.specs.declared.stop.Stop.{Stop}
use Rattle.run_files.specs.declared.stop.Stop.TheVariants.{NoMemory}
use Rattle.plan_run.specs.Journals.{PutsJournal}
use Rattle.plan_run.specs.Counted.{script_counts}
use Rattle.plan_run.specs.ThreadEnds.{all_ends, feeds_end, sessions_end, starved_end}

-- Feeds and scripts were given back: the sources in order, and then the sinks, with this end
pub record ReturnsParts {P I O : Type 0} (seen : PartsSeen P I O) (before after : P) (feeds : List (FeedDone I)) (asks finals : List (SessionDone I O)) (given : Result (Unit {0}) Stop) : Type 0 where
  -- the place once the sources of the feeds were given back, of the asks, and of the finals
  pub fed : P
  pub asked : P
  pub read : P
  pub feeds_back : TakesSources seen.place before fed (map (λ (feed : FeedDone I). seen.source.faults feed.source) feeds)
  pub asks_back : TakesSources seen.place fed asked (map (λ (ask : SessionDone I O). seen.source.faults ask.source) asks)
  pub finals_back : TakesSources seen.place asked read (map (λ (final : SessionDone I O). seen.source.faults final.source) finals)
  -- then their sinks
  pub sinks_back : TakesSinks seen.place seen.sink read after (map (λ (ask : SessionDone I O). ask.sink) asks ++ map (λ (final : SessionDone I O). final.sink) finals) given

-- One sink was given back, with this answer
pub record ReturnsSink {P O : Type 0} (p : PlaceSeen P) (s : SinkSeen O) (before after : P) (sink : O) (answer : Result (Unit {0}) IoFault) : Type 0 where
  -- its file has what the answer says, and every other file is as before
  pub lands : Lands (p.files before) (p.files after) (s.name sink) (s.held sink) answer
  pub others : ChangesOnly (p.files before) (p.files after) (s.name sink)
  -- its faults count as the place's
  pub counts : CountsPart (p.write_faults before) (p.write_faults after) (s.faults sink) answer
  -- all else is as before
  pub created : p.created after ≡ p.created before
  pub opened : p.opened after ≡ p.opened before
  pub read_faults : p.read_faults after ≡ p.read_faults before

-- how a run ends by what its threads met
abbrev pub threads_end : {I O : Type 0} → Crewed I O → Result (Unit {0}) Stop
threads_end crewed = all_ends (starved_end crewed.starved ∷ feeds_end crewed.feeds ∷ sessions_end crewed.asks ∷ sessions_end crewed.finals ∷ [])

module _ {I O : Type 0} (plan : Plan) (crewed : Crewed I O) where
  -- what a run reports
  abbrev pub run_text : List ℕ
  run_text = counts_text plan (map (λ (feed : FeedDone I). feed.counts) crewed.feeds) (map script_counts crewed.asks) (map script_counts crewed.finals) crewed.closed (length crewed.journal)

  -- What closing a run whose journal has this sink leaves of a place and a sink, and how the run ends
  pub record ClosesRun {P T : Type 0} (unwritten : O) (seen : PartsSeen P I O) (t : SinkSeen T) (before after : Outside P T) (result : Result (Unit {0}) Stop) : Type 0 where
    -- the journal's sink once the journal was written, with this answer
    pub sink : O
    pub wrote : Result (Unit {0}) IoFault
    pub written : PutsJournal seen.sink.held seen.sink.faults seen.sink.name unwritten sink (journal_text plan.schema crewed.journal) wrote
    -- then all parts were given back, the journal's sink last
    pub replied : P
    pub given : Result (Unit {0}) Stop
    pub parts : ReturnsParts seen before.place replied crewed.feeds crewed.asks crewed.finals given
    pub kept : Result (Unit {0}) IoFault
    pub journal : ReturnsSink seen.place seen.sink replied after.place sink kept
    -- then the report was put in one put, which the journal's want of memory leaves out
    pub said : Result (Unit {0}) Stop
    pub report : SaysText t before.out after.out run_text said
    pub unsaid : joined_ends (write_end wrote) (write_end kept) ≡ Err NoMemory → said ≡ Err NoMemory
    -- the run ends by the first of all these in the order of causes, or well
    pub ends : result ≡ all_ends (threads_end crewed ∷ write_end wrote ∷ given ∷ write_end kept ∷ said ∷ [])
