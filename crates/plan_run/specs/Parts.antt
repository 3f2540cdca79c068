-- What becomes of the opened parts of a run.
use Rattle.std.specs.Prelude.{◌≡◌, ◌⊎◌, ◌++◌, map, Result, Err}
use Rattle.cube_crew.specs.Crewed.{IsCrewed}
use Rattle.cube_crew.specs.declared.jobs.Crewed.{Crewed}
use Rattle.cube_schema.specs.declared.plan.Plan.{Plan}
use Rattle.cube_store.specs.Numbers.{OwnsAllButRoot}
use Rattle.feed_reader.specs.declared.job.FeedJob.{FeedJob}
use Rattle.live_session.specs.State.{SessionEnds, SessionState}
use Rattle.outer_io.specs.declared.fault.IoFault.{IoFault}
use Rattle.run_files.specs.GivingBack.{TakesSinks, TakesSources}
use Rattle.run_files.specs.Outside.{Outside, PartsSeen, SinkSeen, SourceSeen}
use Rattle.run_files.specs.declared.stop.Stop.{Stop}
use Rattle.run_files.specs.declared.stop.Stop.TheVariants.{NoMemory}
use Rattle.plan_run.specs.declared.parts.RunParts.{RunParts}
use Rattle.plan_run.specs.Closing.{ClosesRun, ReturnsSink}

-- what contracts see of sources and sinks, as the ends of sessions
abbrev pub ends_seen : {I O : Type 0} → SourceSeen I → SinkSeen O → SessionEnds I O
ends_seen source sink = record { left = source.left; faults = source.faults; held = sink.held; put_faults = sink.faults; name = sink.name }

module _ {P I O : Type 0} (seen : PartsSeen P I O) where
  -- The parts were given back as they were: the sources, and then the sinks, the journal's last
  pub record GivesBack (parts : RunParts I O) (before after : P) : Type 0 where
    pub fed : P
    pub asked : P
    pub read : P
    pub replied : P
    pub given : Result (Unit {0}) Stop
    pub kept : Result (Unit {0}) IoFault
    pub feeds_back : TakesSources seen.place before fed (map (λ (job : FeedJob I). seen.source.faults job.cutter.source) parts.jobs.feeds)
    pub asks_back : TakesSources seen.place fed asked (map (λ (session : SessionState I O). seen.source.faults session.source.source) parts.jobs.asks)
    pub finals_back : TakesSources seen.place asked read (map (λ (session : SessionState I O). seen.source.faults session.source.source) parts.jobs.finals)
    pub sinks_back : TakesSinks seen.place seen.sink read replied (map (λ (session : SessionState I O). session.sink) parts.jobs.asks ++ map (λ (session : SessionState I O). session.sink) parts.jobs.finals) given
    pub journal_back : ReturnsSink seen.place seen.sink replied after parts.journal kept

module _ {P I O T : Type 0} (seen : PartsSeen P I O) (t : SinkSeen T) where
  -- The parts ran, and then the run was closed
  pub record Runs (plan : Plan) (parts : RunParts I O) (before after : Outside P T) (result : Result (Unit {0}) Stop) : Type 0 where
    pub crewed : Crewed I O
    pub ran : IsCrewed (ends_seen seen.source seen.sink) OwnsAllButRoot plan.schema parts.jobs crewed
    pub closes : ClosesRun plan crewed parts.journal seen t before after result

  -- The parts ran, or, where that found no memory to begin with, were given back
  abbrev pub RunsParts : Plan → RunParts I O → Outside P T → Outside P T → Result (Unit {0}) Stop → Type 0
  RunsParts plan parts before after result = Runs plan parts before after result ⊎ ((result ≡ Err NoMemory) × (after.out ≡ before.out) × GivesBack seen parts before.place after.place)
