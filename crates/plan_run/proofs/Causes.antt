-- What the counts of a run's parts say of the faults that ended them.
use Rattle.std.proofs.Common.{◌≡◌, ◌≢◌, ℕ, Bool, List, [], ◌∷◌, All, Option, Some, None, Result, Ok, Err, refl, sym, ap, subst, ◌∙◌}
use Rattle.std.specs.Prelude.{IsErrOf}
use Rattle.std.specs.List.{AllZip}
use Rattle.std.proofs.lemmas.List.Elements.{All-cons, All-head, All-nil, All-tail}
use Rattle.crew_feeder.specs.Leaving.{GivesUntil}
use Rattle.crew_feeder.specs.declared.done.FeedDone.{FeedDone}
use Rattle.live_session.specs.Work.{ending_fault}
use Rattle.live_session.specs.declared.done.SessionDone.{SessionDone}
use Rattle.cube_crew.specs.Crewed.{FeedsLeave, LeavesFeed, LeavesTranscript, closing}
use Rattle.cube_crew.specs.declared.jobs.Crewed.{Crewed}
use Rattle.cube_schema.specs.declared.plan.Plan.{Plan}
use Rattle.cube_view.specs.Points.{Point}
use Rattle.cube_view.specs.declared.schema.Schema.{Schema}
use Rattle.cube_view.specs.declared.stat.Stat.{Stat}
use Rattle.feed_reader.specs.declared.job.FeedJob.{FeedJob}
use Rattle.live_session.specs.State.{SessionState}
use Rattle.outer_io.specs.Cutting.{Cutter}
use Rattle.outer_io.specs.Faults.{Rose}
use Rattle.outer_io.specs.Files.{Files}
use Rattle.outer_io.specs.Lines.{Line}
use Rattle.outer_io.specs.declared.cutter.CutFault.{CutFault}
use Rattle.outer_io.specs.declared.cutter.CutFault.TheVariants as cut
use Rattle.run_files.specs.Outside.{at, parts_seen, PlaceSeen, SinkSeen, SourceSeen}
use Rattle.run_files.specs.declared.stop.Stop.{Stop}
use Rattle.session_core.specs.declared.fault.SessionFault.{SessionFault}
use Rattle.session_core.specs.declared.fault.SessionFault.TheVariants as fault
use Rattle.plan_run.specs.Ready.{IsSessionOf}
use Rattle.plan_run.specs.Closing.{ClosesRun}
use Rattle.plan_run.specs.Parts.{ends_seen}

-- A feed's source met faults exactly where reading ended the feed
pub record FeedCause {I : Type 0} (faults : I → ℕ) (done : FeedDone I) : Type 0 where
  pub read : done.counts.fault ≡ Some cut.Read → Rose 0 (faults done.source)
  pub quiet : done.counts.fault ≢ Some cut.Read → faults done.source ≡ 0

-- A session's source and sink met faults exactly where reading and putting ended it
pub record SessionCause {I O : Type 0} (faults : I → ℕ) (put_faults : O → ℕ) (done : SessionDone I O) : Type 0 where
  pub read : done.fault ≡ Some fault.Read → Rose 0 (faults done.source)
  pub read_quiet : done.fault ≢ Some fault.Read → faults done.source ≡ 0
  pub write : done.fault ≡ Some fault.Write → Rose 0 (put_faults done.sink)
  pub write_quiet : done.fault ≢ Some fault.Write → put_faults done.sink ≡ 0

-- A run was closed, and its parts met faults exactly where these ended them.
pub record RunCause {P I O T : Type 0} (p : PlaceSeen P) (i : SourceSeen I) (s : SinkSeen O) (t : SinkSeen T) (plan : Plan) (crewed : Crewed I O) (unwritten : O) (place place' : P) (out out' : T) (result : Result (Unit {0}) Stop) : Type 0 where
  -- the journal had met none before
  pub fresh : s.faults unwritten ≡ 0
  pub feeds : All (FeedCause i.faults) crewed.feeds
  pub asks : All (SessionCause i.faults s.faults) crewed.asks
  pub finals : All (SessionCause i.faults s.faults) crewed.finals
  pub closes : ClosesRun plan crewed unwritten (parts_seen p i s) t (at place out) (at place' out') result

-- how many faults the source of a feed met
abbrev pub feed_count : {I : Type 0} → SourceSeen I → FeedDone I → ℕ
feed_count i feed = i.faults feed.source

-- and that of a session
abbrev pub session_count : {I O : Type 0} → SourceSeen I → SessionDone I O → ℕ
session_count i session = i.faults session.source

-- the sink of a session
abbrev pub sink_of : {I O : Type 0} → SessionDone I O → O
sink_of session = session.sink

rose_from : (a b c : ℕ) → b ≡ a → Rose b c → Rose a c
rose_from a b c same rose = subst (λ n. Rose n c) same rose

module _ {I : Type 0} (left : I → Option (List ℕ)) (faults : I → ℕ) where
  -- the count of a cutter's source by the fault that ended it
  until_read : (start now : Cutter I) (lines : List Line) → GivesUntil left faults start now lines (Some cut.Read) → Rose (faults start.source) (faults now.source)
  until_read start now lines given = given.1

  until_quiet : (start now : Cutter I) (lines : List Line) (end : Option CutFault) → end ≢ Some cut.Read → GivesUntil left faults start now lines end → faults now.source ≡ faults start.source
  until_quiet start now lines None other given = given.0.quiet
  until_quiet start now lines (Some cut.TooMuch) other given = given.2
  until_quiet start now lines (Some cut.Read) other given = absurd (other refl)
  until_quiet start now lines (Some cut.NoMemory) other given = given.1

  feed_cause : (job : FeedJob I) (sent : List Point) (done : FeedDone I) → faults job.cutter.source ≡ 0 → LeavesFeed left faults job sent done → FeedCause faults done
  feed_cause job sent done fresh leaves =
      record {
        read = λ e. subst (λ n. Rose 0 n) (sym (ap faults leaves.source)) (rose_from 0 (faults job.cutter.source) (faults leaves.cutter.source) fresh (until_read job.cutter leaves.cutter leaves.lines (subst (GivesUntil left faults job.cutter leaves.cutter leaves.lines) e leaves.given)));
        quiet = λ e. ap faults leaves.source ∙ until_quiet job.cutter leaves.cutter leaves.lines done.counts.fault e leaves.given ∙ fresh;
      }

  pub feed_causes : (jobs : List (FeedJob I)) (sents : List (List Point)) (dones : List (FeedDone I)) → All (λ (job : FeedJob I). faults job.cutter.source ≡ 0) jobs → FeedsLeave left faults jobs sents dones → All (FeedCause faults) dones
  feed_causes [] [] [] fresh leave = All-nil (FeedCause faults)
  feed_causes [] [] (d ∷ dones) fresh leave = absurd leave
  feed_causes [] (s ∷ sents) [] fresh leave = absurd leave
  feed_causes [] (s ∷ sents) (d ∷ dones) fresh leave = absurd leave
  feed_causes (j ∷ jobs) [] [] fresh leave = absurd leave
  feed_causes (j ∷ jobs) [] (d ∷ dones) fresh leave = absurd leave
  feed_causes (j ∷ jobs) (s ∷ sents) [] fresh leave = absurd leave
  feed_causes (j ∷ jobs) (s ∷ sents) (d ∷ dones) fresh leave =
      All-cons (FeedCause faults) d dones (feed_cause j s d (All-head (λ (job : FeedJob I). faults job.cutter.source ≡ 0) j jobs fresh) leave.0)
      (feed_causes jobs sents dones (All-tail (λ (job : FeedJob I). faults job.cutter.source ≡ 0) j jobs fresh) leave.1)

-- the fault that ended a session is that of its end
pub ended_by : (end : Result (Unit {0}) SessionFault) (f : SessionFault) → ending_fault end ≡ Some f → IsErrOf end f
ended_by (Ok x) f is = absurd (cc is)
ended_by (Err g) f is = cc

not_ended_by : (end : Result (Unit {0}) SessionFault) (f : SessionFault) → ending_fault end ≢ Some f → ¬ IsErrOf end f
not_ended_by (Ok x) f other bad = cc bad
not_ended_by (Err g) f other bad = other (cc bad)

module _ {I O : Type 0} (i : SourceSeen I) (s : SinkSeen O) (is_stat : Stat → Type 0) (schema : Schema) (final closed starved : Bool) (points : List Point) (files : Option Files) where
  session_cause : (name : List ℕ) (before : SessionState I O) (done : SessionDone I O) → IsSessionOf i.left i.faults s files name before → LeavesTranscript (ends_seen i s) is_stat schema final (closing closed starved points) before done → SessionCause i.faults s.faults done
  session_cause name before done ready leaves =
      let of_end : (f : SessionFault) → done.fault ≡ Some f → IsErrOf leaves.end f = λ f e. ended_by leaves.end f (sym leaves.numbers.2 ∙ e) in
      let not_of_end : (f : SessionFault) → done.fault ≢ Some f → ¬ IsErrOf leaves.end f = λ f e. not_ended_by leaves.end f (λ is. e (leaves.numbers.2 ∙ is)) in
      record {
        read = λ e. rose_from 0 (i.faults before.source.source) (i.faults done.source) ready.script.fresh (leaves.read.rose (of_end fault.Read e));
        read_quiet = λ e. leaves.read.quiet (not_of_end fault.Read e) ∙ ready.script.fresh;
        write = λ e. rose_from 0 (s.faults before.sink) (s.faults done.sink) ready.output.fresh (leaves.write.rose (of_end fault.Write e));
        write_quiet = λ e. leaves.write.quiet (not_of_end fault.Write e) ∙ ready.output.fresh;
      }

  pub session_causes : (names : List (List ℕ)) (befores : List (SessionState I O)) (dones : List (SessionDone I O)) → AllZip (IsSessionOf i.left i.faults s files) names befores
      → AllZip (LeavesTranscript (ends_seen i s) is_stat schema final (closing closed starved points)) befores dones → All (SessionCause i.faults s.faults) dones
  session_causes [] [] [] ready leave = All-nil (SessionCause i.faults s.faults)
  session_causes [] [] (d ∷ dones) ready leave = absurd leave
  session_causes [] (b ∷ befores) dones ready leave = absurd ready
  session_causes (n ∷ names) [] dones ready leave = absurd ready
  session_causes (n ∷ names) (b ∷ befores) [] ready leave = absurd leave
  session_causes (n ∷ names) (b ∷ befores) (d ∷ dones) ready leave = All-cons (SessionCause i.faults s.faults) d dones (session_cause n b d ready.0 leave.0) (session_causes names befores dones ready.1 leave.1)
