-- How a run ends by what its feeds and its sessions met.
use Rattle.std.specs.Prelude.{Bool, true, false, List, map, fold, Option, Some, None, Result, Ok, Err}
use Rattle.crew_feeder.specs.declared.done.FeedDone.{FeedDone}
use Rattle.live_session.specs.declared.done.SessionDone.{SessionDone}
use Rattle.outer_io.specs.declared.cutter.CutFault.{CutFault}
use Rattle.run_files.specs.Stops.{joined_ends, stop_of_cut, stop_of_session}
use Rattle.run_files.specs.declared.stop.Stop.{Stop}
use Rattle.run_files.specs.declared.stop.Stop.TheVariants.{NoMemory}
use Rattle.session_core.specs.declared.fault.SessionFault.{SessionFault}

-- by the fault that ended a feed, if one did
abbrev pub feed_end : Option CutFault → Result (Unit {0}) Stop
feed_end None = Ok tt
feed_end (Some fault) = Err (stop_of_cut fault)

-- by the fault that ended a session, if one did
abbrev pub session_end : Option SessionFault → Result (Unit {0}) Stop
session_end None = Ok tt
session_end (Some fault) = Err (stop_of_session fault)

-- by whether something in its threads found no memory
abbrev pub starved_end : Bool → Result (Unit {0}) Stop
starved_end true = Err NoMemory
starved_end false = Ok tt

-- how several things end that were all done
abbrev pub all_ends : List (Result (Unit {0}) Stop) → Result (Unit {0}) Stop
all_ends ends = fold joined_ends (Ok tt) ends

-- by all its feeds
abbrev pub feeds_end : {I : Type 0} → List (FeedDone I) → Result (Unit {0}) Stop
feeds_end feeds = all_ends (map (λ (feed : FeedDone _). feed_end feed.counts.fault) feeds)

-- by the sessions of a list
abbrev pub sessions_end : {I O : Type 0} → List (SessionDone I O) → Result (Unit {0}) Stop
sessions_end sessions = all_ends (map (λ (session : SessionDone _ _). session_end session.fault) sessions)
