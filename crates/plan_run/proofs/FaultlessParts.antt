-- A run whose parts all ended well is completed.
use Rattle.std.proofs.Common.{◌≡◌, ◌≢◌, ℕ, Bool, true, false, List, [], ◌∷◌, All, map, Option, Some, None, refl, ap, subst, ◌∙◌}
use Rattle.std.specs.List.{AllZip}
use mathlib.Core.List.{map-map}
use Rattle.std.proofs.lemmas.List.Elements.{All-cons, All-head, All-nil, All-tail}
use Rattle.crew_feeder.specs.declared.done.FeedDone.{FeedDone}
use Rattle.feed_reader.specs.RowCounts.{counts_of_rows}
use Rattle.feed_reader.specs.declared.job.FeedJob.{FeedJob}
use Rattle.live_session.specs.declared.done.SessionDone.{SessionDone}
use Rattle.cube_crew.proofs.Zips.{AllZip-map, AllZip-then}
use Rattle.cube_crew.specs.Crewed.{FeedsLeave, LeavesTranscript, closing}
use Rattle.cube_schema.specs.Repeats.{outputs}
use Rattle.cube_store.specs.Numbers.{OwnsAllButRoot}
use Rattle.cube_view.specs.Points.{Point}
use Rattle.cube_view.specs.declared.schema.Schema.{Schema}
use Rattle.feed_reader.specs.Feeds.{accepted, is_feed_refused}
use Rattle.live_session.specs.State.{SessionState}
use Rattle.outer_io.proofs.ToldLaws.{Told-some}
use Rattle.outer_io.specs.Files.{Files, HasFile, SameBut, file_or_empty}
use Rattle.outer_io.specs.Told.{Told}
use Rattle.plan_run.proofs.FaultlessFeeds.{is_fed}
use Rattle.plan_run.proofs.OutputFiles.{kept_file}
use Rattle.plan_run.proofs.FaultlessSessions.{IsReplied, is_replied}
use Rattle.plan_run.proofs.Zips.{AllZip-with}
use Rattle.plan_run.specs.Completed.{HasTranscript, output_of, reply_counts, whole_rows}
use Rattle.plan_run.specs.Parts.{ends_seen}
use Rattle.reply_json.specs.declared.reply.Reply.{Reply}
use Rattle.run_files.specs.Outside.{SinkSeen, SourceSeen}
use Rattle.plan_run.specs.Ready.{IsJobOf, IsSessionOf}
use Rattle.plan_run.specs.Counted.{script_counts}
use Rattle.session_core.specs.Scripts.{is_script_refused}
use Rattle.session_core.specs.Transcript.{replies_text}

-- ---- feeds

module _ {I : Type 0} (left : I → Option (List ℕ)) (faults : I → ℕ) (schema : Schema) (bytes : List ℕ → List ℕ) where
  abbrev Unfaulted : FeedDone I → Type 0
  Unfaulted done = done.counts.fault ≡ None

  -- What feeds leave that were all read to their ends
  pub record AreFed (names : List (List ℕ)) (sents : List (List Point)) (dones : List (FeedDone I)) : Type 0 where
    pub sent : sents ≡ map (λ name. accepted schema (bytes name)) names
    pub counts : map (λ (done : FeedDone I). done.counts) dones ≡ map (λ name. counts_of_rows (whole_rows schema (bytes name))) names
    pub taken : All (λ name. is_feed_refused schema (bytes name) ≡ false) names

  abbrev Headed : List ℕ → FeedJob I → Type 0
  Headed name job = IsJobOf left faults schema (Some (bytes name)) job

  pub are_fed : (names : List (List ℕ)) (jobs : List (FeedJob I)) (sents : List (List Point)) (dones : List (FeedDone I)) → AllZip Headed names jobs → FeedsLeave left faults jobs sents dones → All Unfaulted dones → AreFed names sents dones
  are_fed [] [] [] [] headed leave well = record { sent = refl; counts = refl; taken = All-nil (λ name. is_feed_refused schema (bytes name) ≡ false) }
  are_fed [] [] [] (d ∷ dones) headed leave well = absurd leave
  are_fed [] [] (s ∷ sents) [] headed leave well = absurd leave
  are_fed [] [] (s ∷ sents) (d ∷ dones) headed leave well = absurd leave
  are_fed [] (j ∷ jobs) sents dones headed leave well = absurd headed
  are_fed (n ∷ names) [] sents dones headed leave well = absurd headed
  are_fed (n ∷ names) (j ∷ jobs) [] [] headed leave well = absurd leave
  are_fed (n ∷ names) (j ∷ jobs) [] (d ∷ dones) headed leave well = absurd leave
  are_fed (n ∷ names) (j ∷ jobs) (s ∷ sents) [] headed leave well = absurd leave
  are_fed (n ∷ names) (j ∷ jobs) (s ∷ sents) (d ∷ dones) headed leave well =
      let one = is_fed left faults schema (bytes n) j s d headed.0.headed leave.0 (All-head Unfaulted d dones well) in
      let later = are_fed names jobs sents dones headed.1 leave.1 (All-tail Unfaulted d dones well) in
      record {
        sent = ap (λ x. x ∷ sents) one.sent_is ∙ ap (λ xs. accepted schema (bytes n) ∷ xs) later.sent;
        counts = ap (λ x. x ∷ map (λ (done : FeedDone I). done.counts) dones) one.counts ∙ ap (λ xs. counts_of_rows (whole_rows schema (bytes n)) ∷ xs) later.counts;
        taken = All-cons (λ name. is_feed_refused schema (bytes name) ≡ false) n names one.taken later.taken;
      }

-- ---- scripts

-- what is said of each pair with a value that it has, as a list of such values
chosen : {A B C D : Type 0} (T : A → C → Type 0) (f : B → D) (g : C → D) (xs : List A) (ys : List B) → AllZip (λ x y. (z : C) × T x z × (f y ≡ g z)) xs ys → (zs : List C) × AllZip T xs zs × (map f ys ≡ map g zs)
chosen T f g [] [] all = ([], tt, refl)
chosen T f g [] (y ∷ ys) all = absurd all
chosen T f g (x ∷ xs) [] all = absurd all
chosen T f g (x ∷ xs) (y ∷ ys) all =
    let later = chosen T f g xs ys all.1 in
    (all.0.0 ∷ later.0, (all.0.1, later.1), ap (λ d. d ∷ map f ys) all.0.2 ∙ ap (λ ds. g all.0.0 ∷ ds) later.2)

module _ {I O : Type 0} (i : SourceSeen I) (s : SinkSeen O) (schema : Schema) (final : Bool) (points : List Point) (files : Files) where
  -- the replies to a script of that name
  abbrev pub RepliesTo : List ℕ → SessionDone I O → Type 0
  RepliesTo name done = IsReplied s OwnsAllButRoot schema final points (file_or_empty files name) (output_of name) done

  -- what the sessions of a list leave that all ended without a fault
  pub all_replied : (closed starved : Bool) (names : List (List ℕ)) (befores : List (SessionState I O)) (dones : List (SessionDone I O)) → closed ≡ true → starved ≡ false
      → AllZip (IsSessionOf i.left i.faults s (Some files)) names befores → AllZip (LeavesTranscript (ends_seen i s) OwnsAllButRoot schema final (closing closed starved points)) befores dones
      → All (λ (done : SessionDone I O). done.fault ≡ None) dones → AllZip RepliesTo names dones
  all_replied closed starved names befores dones shut fed ready leave well =
      AllZip-with (λ name done. (before : SessionState I O) × IsSessionOf i.left i.faults s (Some files) name before × LeavesTranscript (ends_seen i s) OwnsAllButRoot schema final (closing closed starved points) before done)
      (λ (done : SessionDone I O). done.fault ≡ None) RepliesTo names dones
      (λ name done both none. is_replied i s OwnsAllButRoot schema final closed starved points files (file_or_empty files name) (output_of name) both.0 done shut fed none both.1.no_turn both.1.script both.1.output both.2)
      (AllZip-then (IsSessionOf i.left i.faults s (Some files)) (LeavesTranscript (ends_seen i s) OwnsAllButRoot schema final (closing closed starved points)) _ names befores dones (λ name before done r l. (before, r, l)) ready leave)
      well

  -- none of their scripts is refused
  pub all_taken : (names : List (List ℕ)) (dones : List (SessionDone I O)) → AllZip RepliesTo names dones → All (λ name. is_script_refused schema (file_or_empty files name) ≡ false) names
  all_taken [] [] all = All-nil (λ name. is_script_refused schema (file_or_empty files name) ≡ false)
  all_taken [] (d ∷ dones) all = absurd all
  all_taken (n ∷ names) [] all = absurd all
  all_taken (n ∷ names) (d ∷ dones) all = All-cons (λ name. is_script_refused schema (file_or_empty files name) ≡ false) n names all.0.taken (all_taken names dones all.1)

  -- their sinks have the names of the outputs
  pub sinks_named : (names : List (List ℕ)) (dones : List (SessionDone I O)) → AllZip RepliesTo names dones → map s.name (map (λ (done : SessionDone I O). done.sink) dones) ≡ outputs names
  sinks_named names dones all =
      map-map s.name (λ (done : SessionDone I O). done.sink) dones
      ∙ AllZip-map RepliesTo output_of (λ (done : SessionDone I O). s.name done.sink) names dones (λ name done r. r.named) all

  -- each script's output holds its transcript, where its sink's file has what the sink held, and keeps it
  pub transcripts : (b c : Option Files) (f g : Files) (journal : List ℕ) → b ≡ Some f → c ≡ Some g → SameBut f g journal
      → (names : List (List ℕ)) (dones : List (SessionDone I O)) → AllZip RepliesTo names dones → All (λ (sink : O). Told (s.held sink) (HasFile b (s.name sink))) (map (λ (done : SessionDone I O). done.sink) dones) → All (λ name. name ≢ journal) (outputs names)
      → (replies : List (List Reply)) × AllZip (HasTranscript schema final points files g) names replies × (map script_counts dones ≡ map reply_counts replies)
  transcripts b c f g journal before after same names dones all landed apart = chosen (HasTranscript schema final points files g) script_counts reply_counts names dones (each names dones all landed apart)
    where
      each : (names : List (List ℕ)) (dones : List (SessionDone I O)) → AllZip RepliesTo names dones → All (λ (sink : O). Told (s.held sink) (HasFile b (s.name sink))) (map (λ (done : SessionDone I O). done.sink) dones) → All (λ name. name ≢ journal) (outputs names)
          → AllZip (λ name done. (replies : List Reply) × HasTranscript schema final points files g name replies × (script_counts done ≡ reply_counts replies)) names dones
      each [] [] all landed apart = tt
      each [] (d ∷ dones) all landed apart = absurd all
      each (n ∷ names) [] all landed apart = absurd all
      each (n ∷ names) (d ∷ dones) all landed apart =
          let r = all.0 in
          let has = Told-some (s.held d.sink) (replies_text r.replies) (HasFile b (s.name d.sink)) r.held (All-head (λ (sink : O). Told (s.held sink) (HasFile b (s.name sink))) d.sink (map (λ (done : SessionDone I O). done.sink) dones) landed) in
          let named : HasFile b (output_of n) (replies_text r.replies) = subst (λ name. HasFile b name (replies_text r.replies)) r.named has in (
            (r.replies, record { transcript = r.transcript; text = kept_file b c f g journal (output_of n) (replies_text r.replies) before after same (All-head (λ name. name ≢ journal) (output_of n) (outputs names) apart) named }, r.counts),
            each names dones all.1 (All-tail (λ (sink : O). Told (s.held sink) (HasFile b (s.name sink))) d.sink (map (λ (done : SessionDone I O). done.sink) dones) landed) (All-tail (λ name. name ≢ journal) (output_of n) (outputs names) apart),
          )
