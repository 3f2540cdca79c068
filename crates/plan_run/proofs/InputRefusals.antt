-- Which feeds and scripts are refused where closing a run ends so.
use Rattle.std.proofs.Common.{◌≡◌, ◌≢◌, inl, inr, ◌+◌, ◌<◌, ℕ, Bool, true, List, [], ◌∷◌, ◌++◌, length, Option, Some, None, option_map, Result, Ok, Err, refl, sym, ap, subst, ◌∙◌, arith}
use Rattle.std.specs.Prelude.{IsErrOf}
use Rattle.std.specs.List.{AllZip}
use Rattle.crew_feeder.specs.Leaving.{GivesUntil}
use Rattle.crew_feeder.specs.declared.done.FeedDone.{FeedDone}
use Rattle.live_session.specs.declared.done.SessionDone.{SessionDone}
use Rattle.cube_crew.specs.Crewed.{FeedsLeave, LeavesFeed, LeavesTranscript, closing}
use Rattle.cube_view.specs.Points.{Point}
use Rattle.cube_view.specs.declared.schema.Schema.{Schema}
use Rattle.cube_view.specs.declared.stat.Stat.{Stat}
use Rattle.feed_reader.proofs.FeedLaws.{too_large_refused}
use Rattle.feed_reader.proofs.FeedStart.{new_rest}
use Rattle.feed_reader.specs.Feeds.{is_feed_refused}
use Rattle.feed_reader.specs.declared.job.FeedJob.{FeedJob}
use Rattle.live_session.specs.State.{SessionState}
use Rattle.outer_io.proofs.ToldLaws.{Told-some}
use Rattle.outer_io.specs.Cutting.{Cutter, input_size, rest_of}
use Rattle.outer_io.specs.Files.{Files, file_or_empty}
use Rattle.outer_io.specs.Lines.{input_limit}
use Rattle.outer_io.specs.declared.cutter.CutFault.{CutFault}
use Rattle.outer_io.specs.declared.cutter.CutFault.TheVariants as cut
use Rattle.outer_io.specs.declared.fault.IoFault.{IoFault}
use Rattle.outer_io.specs.declared.fault.IoFault.TheVariants as io
use Rattle.run_files.specs.Outside.{SinkSeen, SourceSeen}
use Rattle.run_files.specs.Stops.{write_end}
use Rattle.run_files.specs.declared.stop.Stop.TheVariants.{FeedRefused}
use Rattle.session_core.specs.Scripts.{is_script_refused}
use Rattle.session_core.specs.declared.fault.SessionFault.{SessionFault}
use Rattle.session_core.specs.declared.fault.SessionFault.TheVariants as fault
use Rattle.plan_run.specs.Ready.{IsJobOf, IsSessionOf}
use Rattle.plan_run.specs.ThreadEnds.{feed_end, session_end}
use Rattle.plan_run.proofs.EndFaults.{AnyOf}
use Rattle.plan_run.proofs.Causes.{ended_by}
use Rattle.plan_run.specs.Parts.{ends_seen}

feed_refused_end : (f : Option CutFault) → feed_end f ≡ Err FeedRefused → f ≡ Some cut.TooMuch
feed_refused_end None is = absurd (cc is)
feed_refused_end (Some cut.Read) is = absurd (cc is)
feed_refused_end (Some cut.TooMuch) is = refl
feed_refused_end (Some cut.NoMemory) is = absurd (cc is)

session_refused_end : (f : Option SessionFault) → session_end f ≡ Err FeedRefused → f ≡ Some fault.TooMuch
session_refused_end None is = absurd (cc is)
session_refused_end (Some fault.Read) is = absurd (cc is)
session_refused_end (Some fault.Write) is = absurd (cc is)
session_refused_end (Some fault.TooMuch) is = refl
session_refused_end (Some fault.NoMemory) is = absurd (cc is)

pub write_not_refused : (r : Result (Unit {0}) IoFault) → write_end r ≢ Err FeedRefused
write_not_refused (Ok x) is = cc is
write_not_refused (Err io.Failed) is = cc is
write_not_refused (Err io.NoMemory) is = cc is

module _ {I : Type 0} (left : I → Option (List ℕ)) (faults : I → ℕ) (schema : Schema) (bytes : List ℕ → List ℕ) where
  abbrev IsRefusedFeed : List ℕ → Type 0
  IsRefusedFeed name = is_feed_refused schema (bytes name) ≡ true

  large_feed : (name : List ℕ) (job : FeedJob I) (sent : List Point) (done : FeedDone I) → IsJobOf left faults schema (Some (bytes name)) job → LeavesFeed left faults job sent done → feed_end done.counts.fault ≡ Err FeedRefused → IsRefusedFeed name
  large_feed name job sent done is leaves end =
      let headed = is.headed in
      let before = headed.reads.before in
      let given = subst (GivesUntil left faults job.cutter leaves.cutter leaves.lines) (feed_refused_end done.counts.fault end) leaves.given in
      let start : (before.taken ≡ 0) × (before.given ≡ 0) = (ap (λ (k : Cutter I). k.taken) headed.reads.made, ap (λ (k : Cutter I). k.given) headed.reads.made) in
      Told-some (rest_of left before) (bytes name) (λ feed. is_feed_refused schema feed ≡ true) (new_rest left before headed.source (bytes name) headed.reads.made headed.left_is)
      (too_large_refused left faults schema before job.cutter (headed.reads.header.0 ∷ []) start headed.reads.header.2.passed given.1)

  pub large_feeds : (names : List (List ℕ)) (jobs : List (FeedJob I)) (sents : List (List Point)) (dones : List (FeedDone I)) → AllZip (λ name job. IsJobOf left faults schema (Some (bytes name)) job) names jobs → FeedsLeave left faults jobs sents dones
      → AnyOf (λ (d : FeedDone I). feed_end d.counts.fault ≡ Err FeedRefused) dones → AnyOf IsRefusedFeed names
  large_feeds [] [] sents [] ready leave any = absurd any
  large_feeds [] [] [] (d ∷ dones) ready leave any = absurd leave
  large_feeds [] [] (s ∷ sents) (d ∷ dones) ready leave any = absurd leave
  large_feeds [] (j ∷ jobs) sents dones ready leave any = absurd ready
  large_feeds (n ∷ names) [] sents dones ready leave any = absurd ready
  large_feeds (n ∷ names) (j ∷ jobs) sents [] ready leave any = absurd any
  large_feeds (n ∷ names) (j ∷ jobs) [] (d ∷ dones) ready leave any = absurd leave
  large_feeds (n ∷ names) (j ∷ jobs) (s ∷ sents) (d ∷ dones) ready leave (inl end) = inl (large_feed n j s d ready.0 leave.0 end)
  large_feeds (n ∷ names) (j ∷ jobs) (s ∷ sents) (d ∷ dones) ready leave (inr any) = inr (large_feeds names jobs sents dones ready.1 leave.1 any)

module _ {I O : Type 0} (i : SourceSeen I) (s : SinkSeen O) (is_stat : Stat → Type 0) (schema : Schema) (final closed starved : Bool) (points : List Point) (files : Files) where
  abbrev IsLarge : List ℕ → Type 0
  IsLarge name = input_limit < length (file_or_empty files name)

  abbrev pub IsRefusedScript : List ℕ → Type 0
  IsRefusedScript name = is_script_refused schema (file_or_empty files name) ≡ true

  -- the script of a session that had too much is over the limit, and it is refused
  pub large_script : (name : List ℕ) (before : SessionState I O) (done : SessionDone I O) → IsSessionOf i.left i.faults s (Some files) name before → LeavesTranscript (ends_seen i s) is_stat schema final (closing closed starved points) before done
      → session_end done.fault ≡ Err FeedRefused → IsLarge name × IsRefusedScript name
  large_script name before done ready leaves end =
      let much : IsErrOf leaves.end fault.TooMuch = ended_by leaves.end fault.TooMuch (sym leaves.numbers.2 ∙ session_refused_end done.fault end) in
      let script = file_or_empty files name in
      let cutter = before.source in
      let size : input_size i.left cutter ≡ Some (0 + length script) =
      ap (λ (k : Cutter I). input_size i.left k) ready.script.is_new
      ∙ ap (λ (o : Option (List ℕ)). option_map (λ rest. 0 + length rest) (option_map (λ more. [] ++ more) o)) ready.script.left_is in
      let large = Told-some (input_size i.left cutter) (0 + length script) (λ n. input_limit < n) size (leaves.too_much much).1 in
      (omega (arith, large), Told-some (i.left before.source.source) (file_or_empty files name) (λ script. is_script_refused schema script ≡ true) ready.script.left_is (leaves.refused much ready.script.is_new))

  pub refused_scripts : (names : List (List ℕ)) (befores : List (SessionState I O)) (dones : List (SessionDone I O)) → AllZip (IsSessionOf i.left i.faults s (Some files)) names befores
      → AllZip (LeavesTranscript (ends_seen i s) is_stat schema final (closing closed starved points)) befores dones → AnyOf (λ (d : SessionDone I O). session_end d.fault ≡ Err FeedRefused) dones → AnyOf IsRefusedScript names
  refused_scripts [] [] [] ready leave any = absurd any
  refused_scripts [] [] (d ∷ dones) ready leave any = absurd leave
  refused_scripts [] (b ∷ befores) dones ready leave any = absurd ready
  refused_scripts (n ∷ names) [] dones ready leave any = absurd ready
  refused_scripts (n ∷ names) (b ∷ befores) [] ready leave any = absurd any
  refused_scripts (n ∷ names) (b ∷ befores) (d ∷ dones) ready leave (inl end) = inl (large_script n b d ready.0 leave.0 end).1
  refused_scripts (n ∷ names) (b ∷ befores) (d ∷ dones) ready leave (inr any) = inr (refused_scripts names befores dones ready.1 leave.1 any)
