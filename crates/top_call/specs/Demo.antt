-- The form `demo FEED SCRIPT`: a feed is loaded, and then a script is answered over its points.
use Rattle.std.specs.Prelude.{◌≡◌, ◌≢◌, ◌⊎◌, ℕ, Bool, true, false, ◌||◌, List, [], ◌∷◌, ◌++◌, length, take, Option, Some, Result, Ok, Err}
use Rattle.cube_store.specs.Numbers.{OwnsAllButRoot}
use Rattle.feed_reader.specs.Feeds.{accepted, is_feed_refused}
use Rattle.outer_io.specs.Faults.{Rose}
use Rattle.outer_io.specs.Files.{Files, file_or_empty}
use Rattle.outer_io.specs.Lines.{lines}
use Rattle.run_files.specs.FaultCounts.{KeepsFaults}
use Rattle.run_files.specs.Outside.{at, PlaceSeen, SinkSeen}
use Rattle.run_files.specs.Stops.{is_lacking, IsOrLacks}
use Rattle.run_files.specs.declared.stop.Stop.{Stop}
use Rattle.run_files.specs.declared.stop.Stop.TheVariants.{NoMemory, PlanRefused, ReadFault, WriteFault, FeedRefused}
use Rattle.session_core.specs.Answered.{GainsReplies, GainsFront}
use Rattle.session_core.specs.Asked.{asked}
use Rattle.session_core.specs.Scripts.{is_script_refused}
use Rattle.top_call.specs.BuiltIn.{built_in}
use Rattle.top_call.specs.Statuses.{status_of_end}
use Rattle.top_call.specs.declared.status.Status.{Status}

-- The names of the feed and the script
pub record DemoNames : Type 0 where
  pub feed : List ℕ
  pub script : List ℕ

-- these two
abbrev pub demo_of : List ℕ → List ℕ → DemoNames
demo_of feed script = record { feed = feed; script = script }

-- the feed's header is refused, or the feed has more than 2^30 bytes, or the script, before a `quit` among its lines
unfoldable pub is_refused : List ℕ → List ℕ → Bool
is_refused feed script = is_feed_refused built_in feed || is_script_refused built_in script

-- a sink gained the replies to all that the script asks, over the accepted records of the feed, each of which was told;
-- the numbers of `stat` are those of a cube
abbrev pub GainsAnswers : Option (List ℕ) → Option (List ℕ) → List ℕ → List ℕ → Type 0
GainsAnswers before after feed script = let h = accepted built_in feed in GainsReplies built_in OwnsAllButRoot h (length h) false before after (asked built_in (lines script))

-- it gained a part of them, from the front, or nothing; a reply may be the line for want of memory, or may not
abbrev pub GainsSomeAnswers : Bool → Option (List ℕ) → Option (List ℕ) → List ℕ → List ℕ → Type 0
GainsSomeAnswers lacks before after feed script = let h = accepted built_in feed in GainsFront built_in OwnsAllButRoot h (length h) lacks before after (asked built_in (lines script))

-- a feed or a script is refused, or one of the causes ends the run that are answered before that
abbrev pub IsRefusedOrEarlier : Result (Unit {0}) Stop → Type 0
IsRefusedOrEarlier end = (end ≡ Err FeedRefused) ⊎ (end ≡ Err NoMemory) ⊎ (end ≡ Err ReadFault) ⊎ (end ≡ Err WriteFault)

-- what loading a feed and answering a script over it leaves of a place and a sink
module _ {P O : Type 0} (p : PlaceSeen P) (s : SinkSeen O) (place place' : P) (out out' : O) where
  -- the claim holds of the bytes of the feed and of the script, where the place tells its files
  abbrev pub OfDemoFiles : DemoNames → (List ℕ → List ℕ → Type 0) → Type 0
  OfDemoFiles names Claim = (files : Files) → p.files place ≡ Some files → Claim (file_or_empty files names.feed) (file_or_empty files names.script)

  -- How it ends
  pub record DemoEnds (names : DemoNames) (end : Result (Unit {0}) Stop) : Type 0 where
    -- no plan is refused
    pub form : end ≢ Err PlanRefused
    -- with Ok the sink gained all answers, and nothing was refused
    pub done : OfDemoFiles names (λ f q. end ≡ Ok tt → GainsAnswers (s.held out) (s.held out') f q × (is_refused f q ≡ false))
    -- with any end it gained some of them alone; only for want of memory a reply may be the line that says so
    pub part : OfDemoFiles names (GainsSomeAnswers (is_lacking end) (s.held out) (s.held out'))
    -- all of them also where a script that is refused follows a feed that is not
    pub all_before_too_much : OfDemoFiles names (λ f q. end ≡ Err FeedRefused → is_feed_refused built_in f ≡ false → GainsAnswers (s.held out) (s.held out') f q)
    -- it ends so only where the feed or the script is refused ..
    pub refused : OfDemoFiles names (λ f q. end ≡ Err FeedRefused → is_refused f q ≡ true)
    -- .. and where one is, it does, or by an earlier cause
    pub refused_or_earlier : OfDemoFiles names (λ f q. is_refused f q ≡ true → IsRefusedOrEarlier end)
    -- a feed that is refused writes nothing
    pub refused_feed : OfDemoFiles names (λ f q. is_feed_refused built_in f ≡ true → out' ≡ out)
    -- with nothing refused and no count risen the run is done, or memory was wanted
    pub complete : OfDemoFiles names (λ f q. is_refused f q ≡ false → ¬ Rose (p.read_faults place) (p.read_faults place') → ¬ Rose (s.faults out) (s.faults out') → IsOrLacks tt end)
    -- what was opened is the feed and then the script, each once at most
    pub opened : (k : ℕ) × (p.opened place' ≡ p.opened place ++ take k (names.feed ∷ names.script ∷ []))
    -- both with Ok
    pub opened_both : end ≡ Ok tt → p.opened place' ≡ p.opened place ++ names.feed ∷ names.script ∷ []
    -- the script only after a feed that is not refused
    pub read_before : OfDemoFiles names (λ f q. p.opened place' ≡ p.opened place ++ names.feed ∷ names.script ∷ [] → is_feed_refused built_in f ≡ false)
    -- where the feed alone was opened, nothing was written
    pub untouched : p.opened place' ≡ p.opened place ++ names.feed ∷ [] → out' ≡ out
    -- each fault has its cause, no file is written, and the sink keeps its name
    pub faults : KeepsFaults p s (at place out) (at place' out') end

  -- How a run of this form ends: as loading the feed and answering the script does, whose end the status is
  pub record DemoRunEnds (status : Status) (names : DemoNames) : Type 0 where
    -- how that ended
    pub end : Result (Unit {0}) Stop
    pub status_is : status ≡ status_of_end end
    -- and what it left
    pub ends : DemoEnds names end
