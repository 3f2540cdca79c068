-- How a call ends, by how its stages ended.
use Rattle.std.proofs.Common.{◌≡◌, ◌≢◌, ◌⊎◌, ℕ, Bool, true, false, List, [], ◌∷◌, ◌++◌, ◌≤◌, length, take, map, All, Option, Some, None, Result, Ok, Err, inl, inr, refl, sym, ◌∙◌, ap, subst, append_assoc}
use Rattle.std.proofs.lemmas.List.{append-nil}
use Rattle.std.proofs.lemmas.List.Elements.{All-map}
use Rattle.std.proofs.lemmas.List.Sorted.{IsPermutation-sym}
use Rattle.std.specs.List.{AllZip, flat_map}
use Rattle.std.specs.List.Sorted.{IsPermutation}
use Rattle.std.specs.Prelude.{Any}
use Rattle.cube_schema.specs.declared.plan.Plan.{Plan}
use Rattle.cube_view.specs.Bag.{most_points}
use Rattle.cube_view.specs.Points.{Point}
use Rattle.cube_view.specs.declared.schema.Schema.{Schema}
use Rattle.feed_reader.specs.declared.job.FeedJob.{FeedJob}
use Rattle.flat_session.proofs.SameAnswers.{answer_same, front_same}
use Rattle.flat_session.specs.Answers.{flat_basis}
use Rattle.flat_session.specs.Putting.{PutsLinesFront}
use Rattle.outer_io.proofs.ToldLaws.{Told-some}
use Rattle.outer_io.specs.Bytes.{Gains}
use Rattle.outer_io.specs.Faults.{Rose}
use Rattle.outer_io.specs.Files.{Files, file_or_empty}
use Rattle.outer_io.specs.Lines.{lines}
use Rattle.outer_io.specs.Progress.{IsTooLarge}
use Rattle.outer_io.specs.Told.{Told}
use Rattle.outer_io.specs.declared.cutter.CutFault.{CutFault}
use Rattle.outer_io.specs.declared.cutter.CutFault.TheVariants as cut
use Rattle.run_files.proofs.Apart.{err_is, same_stop, stopped}
use Rattle.run_files.proofs.FaultRises.{rose_once}
use Rattle.run_files.proofs.HeadReads.{all_headed, at_feeds, at_feeds_on}
use Rattle.run_files.proofs.PlanReads.{lacks_plan}
use Rattle.run_files.proofs.SinkPuts.{fails_after, puts_after, silent_after}
use Rattle.run_files.proofs.Stages.{all_opened, fails_on, leaves_reading, leaves_then, names_of, nothing_made, same_created, same_files}
use Rattle.run_files.specs.FaultCounts.{KeepsFaults}
use Rattle.run_files.specs.GivingBack.{faulty, TakesSources}
use Rattle.run_files.specs.Headed.{HasHeader, IsHeaded, OpensFeeds}
use Rattle.run_files.specs.Leaving.{LeavesPlace}
use Rattle.run_files.specs.Outside.{at, file_of, PlaceSeen, PutsOrFails, Silent, SinkSeen, SourceSeen}
use Rattle.run_files.specs.Planned.{ReadsPlan}
use Rattle.run_files.specs.Stops.{is_lacking, stop_of_cut}
use Rattle.run_files.specs.declared.stop.Stop.{Stop}
use Rattle.run_files.specs.declared.stop.Stop.TheVariants as stop
use Rattle.save_run.proofs.FeedRows.{any_large, are_fed}
use Rattle.save_run.proofs.SaveEnds.{faulty_some}
use Rattle.save_run.specs.Saved.{accepted_records, AreTaken, HasLongFeed}
use Rattle.save_run.specs.Taking.{AreQuiet, EndsBy}
use Rattle.session_core.proofs.WholeScripts.{told_by}
use Rattle.session_core.specs.Asked.{asked}
use Rattle.flat_run.specs.Answering.{AnswersNamed, GainsScript, GainsScriptPart, script_answers}
use Rattle.flat_run.specs.Ends.{AnswersRecords, EndsByFeed, FlatEnd, FlatEnds, records_of}
use Rattle.flat_run.specs.Names.{ScriptNames}
use Rattle.flat_run.specs.Reading.{AreSound, GivesAll, GivesPoints, points_end, ReadsPoints}

-- ---- lists and ends

-- the fault that ended the reading of the feeds, and none where they were read
fault_met : (k : Stop) (given : Result (List Point) CutFault) → ◌≡◌ {A = Result (List Point) Stop} (Err k) (points_end given) → (f : CutFault) × (given ≡ Err f) × (k ≡ stop_of_cut f)
fault_met k (Ok x) is = cc
fault_met k (Err f) is = (f, refl, cc)

none_met : (x : List Point) (given : Result (List Point) CutFault) → ◌≡◌ {A = Result (List Point) Stop} (Ok x) (points_end given) → given ≡ Ok x
none_met x (Ok y) is = cc
none_met x (Err f) is = cc

-- the points that were read are sound and few
pub read_sound : {P I : Type 0} (p : PlaceSeen P) (i : SourceSeen I) (schema : Schema) (before after : P) (feeds : List (FeedJob I)) (points : List Point) → ReadsPoints p i schema before after feeds (Ok points) → AreSound schema points × (length points ≤ most_points)
read_sound p i schema before after feeds points R =
    let T : GivesAll i.left i.faults schema feeds R.read points = subst (GivesPoints i.left i.faults schema feeds R.read) (none_met points R.given R.result_is) R.gives in
    (T.are_sound, T.few)

-- the call ended by this cause
abbrev ended : Stop → FlatEnd
ended k = Err k

-- the answers to a script over the same points in another order
lines_same : (z : Schema) (h k : List Point) → IsPermutation h k → (script : List ℕ) → script_answers (flat_basis z h) script ≡ script_answers (flat_basis z k) script
lines_same z h k P script = λ i. flat_map (λ p. answer_same z h k P p i) (asked z (lines script))

module _ {P O : Type 0} (p : PlaceSeen P) (s : SinkSeen O) (name script : List ℕ) where
  abbrev Named : ScriptNames
  Named = record { plan = name; script = script }

  abbrev Ends : P → P → O → O → FlatEnd → Type 0
  Ends a b out out' end = FlatEnds p s (at a out) (at b out') Named end

  -- the faults of a stage that ended the call
  faults_ended : (a b : P) (out out' : O) (inputs : List (List ℕ)) (k : Stop) → LeavesPlace p a b inputs [] (Some k) → (k ≡ stop.WriteFault → Rose (s.faults out) (s.faults out')) → (k ≢ stop.WriteFault → k ≢ stop.PlanRefused → s.faults out' ≡ s.faults out) → s.name out' ≡ s.name out → KeepsFaults p s (at a out) (at b out') (ended k)
  faults_ended a b out out' inputs k stage rose quiet called = record {
    read = λ e. stage.read (ap (λ l. Some l) (err_is k stop.ReadFault e));
    write = λ e. rose (err_is k stop.WriteFault e);
    quiet_place = λ r m. stage.read_quiet (λ e. r (ap (λ l. Err l) (same_stop k stop.ReadFault e)));
    quiet_sink = λ w m l. quiet (λ e. w (ap (λ j. Err j) e)) (λ e. l (ap (λ j. Err j) e));
    name = called;
    files = same_files p a b inputs (Some k) stage;
    created = same_created p a b inputs (Some k) stage;
    write_faults = stage.unwritten (nothing_made p a b inputs (Some k) stage);
  }

  -- ---- the plan was refused, or was not read

  said_name : (out out' : O) (line : List ℕ) → PutsOrFails s out out' line → s.name out' ≡ s.name out
  said_name out out' line (inl x) = x.name
  said_name out out' line (inr x) = x.name

  plan_name : (out out' : O) (file : Option (List ℕ)) (k : Stop) → ReadsPlan s out out' file (Err k) → s.name out' ≡ s.name out
  plan_name out out' file stop.NoMemory r = (r.silent (λ e. cc)).name
  plan_name out out' file stop.PlanRefused r = said_name out out' _ (r.refused refl).says
  plan_name out out' file stop.ReadFault r = (r.silent (λ e. cc)).name
  plan_name out out' file stop.WriteFault r = (r.silent (λ e. cc)).name
  plan_name out out' file stop.FeedRefused r = (r.silent (λ e. cc)).name

  pub ended_by_plan : (a b : P) (out out' : O) (k : Stop) → LeavesPlace p a b (name ∷ []) [] (Some k) → (stopped Plan k ≡ stopped Plan stop.ReadFault → p.opened b ≡ p.opened a ++ name ∷ []) → ReadsPlan s out out' (file_of (p.files a) name) (Err k) → Ends a b out out' (Err k)
  ended_by_plan a b out out' k leaves opened reads = record {
    stage = inl (lacks_plan p s a b out out' name k leaves opened reads);
    faults = faults_ended a b out out' (name ∷ []) k leaves (λ e. absurd (reads.ends.0 e)) (λ w l. (reads.silent (λ e. l (err_is k stop.PlanRefused e))).faults) (plan_name out out' (file_of (p.files a) name) k reads);
  }

  -- ---- there is a plan

  module _ (a b : P) (out mid : O) (pl : Plan) (leaves : LeavesPlace p a b (name ∷ []) [] None) (reads : ReadsPlan s out mid (file_of (p.files a) name) (Ok pl)) where
    plan_files : p.files b ≡ p.files a
    plan_files = same_files p a b (name ∷ []) None leaves

    quiet : Silent s out mid
    quiet = reads.silent (λ e. cc)

    -- ---- a feed was not opened, or has no header

    module _ (c : P) (out' : O) where
      head_silent : (k : Stop) → k ≢ stop.WriteFault → k ≢ stop.FeedRefused → OpensFeeds p s pl.schema (at b mid) (at c out') pl.feeds (Some k) → Silent s out out'
      head_silent k w f O = silent_after s out mid out' quiet (O.silent (λ e. f (same_stop k stop.FeedRefused e)) (λ e. w (same_stop k stop.WriteFault e)))

      head_quiet : (k : Stop) → OpensFeeds p s pl.schema (at b mid) (at c out') pl.feeds (Some k) → k ≢ stop.WriteFault → s.faults out' ≡ s.faults out
      head_quiet stop.NoMemory O w = (head_silent stop.NoMemory (λ e. cc) (λ e. cc) O).faults
      head_quiet stop.PlanRefused O w = (head_silent stop.PlanRefused (λ e. cc) (λ e. cc) O).faults
      head_quiet stop.ReadFault O w = (head_silent stop.ReadFault (λ e. cc) (λ e. cc) O).faults
      head_quiet stop.WriteFault O w = absurd (w refl)
      head_quiet stop.FeedRefused O w = (puts_after s out mid out' quiet _ (O.refused refl).refuses.says).faults

      head_name : (k : Stop) → OpensFeeds p s pl.schema (at b mid) (at c out') pl.feeds (Some k) → s.name out' ≡ s.name out
      head_name stop.NoMemory O = (head_silent stop.NoMemory (λ e. cc) (λ e. cc) O).name
      head_name stop.PlanRefused O = (head_silent stop.PlanRefused (λ e. cc) (λ e. cc) O).name
      head_name stop.ReadFault O = (head_silent stop.ReadFault (λ e. cc) (λ e. cc) O).name
      head_name stop.WriteFault O = (fails_after s out mid out' quiet _ (O.unsaid refl).refuses.says).name
      head_name stop.FeedRefused O = (puts_after s out mid out' quiet _ (O.refused refl).refuses.says).name

      pub ended_by_header : (k : Stop) → OpensFeeds p s pl.schema (at b mid) (at c out') pl.feeds (Some k) → Ends a c out out' (Err k)
      unfolding leaves_then names_of
      ended_by_header k O =
          let all : LeavesPlace p a c (name ∷ pl.feeds) [] (Some k) = leaves_then p a b c (name ∷ []) pl.feeds [] (Some k) leaves O.leaves in
          record {
            stage = inr (record {
              plan = pl;
              plan_is = reads.plan;
              stage = inl (record {
                stop = k;
                opens = O.leaves.opens;
                end_is = refl;
                names_left = names_of p a c (name ∷ pl.feeds) [] (Some k) all;
                opens_are = ap (λ ns. ns ++ O.leaves.opens) (sym (all_opened p a b (name ∷ []) [] leaves));
                order =
                    at_feeds_on p s pl a b c c out mid out' O.leaves.opens O.leaves.makes (Some k) plan_files quiet
                    (at_feeds p s pl b c mid out' O.leaves.makes k (nothing_made p b c pl.feeds (Some k) O.leaves) O);
                first = λ e. fails_on p a b leaves.opens O.leaves.opens leaves.opened (leaves.read_quiet (λ e. cc)) (O.first (ap (λ l. Some l) e));
              });
            });
            faults =
                faults_ended a c out out' (name ∷ pl.feeds) k all
                (λ e. (fails_after s out mid out' quiet _ (O.unsaid (ap (λ l. Some l) e)).refuses.says).faults) (λ w l. head_quiet k O w) (head_name k O);
          }

    -- ---- all feeds were opened

    module _ {I : Type 0} (i : SourceSeen I) (c d : P) (then : O) (opens : OpensFeeds p s pl.schema (at b mid) (at c then) pl.feeds None) (feeds : List (FeedJob I))
        (headed : AllZip (λ n. IsHeaded i.left i.faults pl.schema (file_of (p.files b) n)) pl.feeds feeds) where
      -- how many faults a feed's source met
      abbrev met : FeedJob I → ℕ
      met feed = i.faults feed.cutter.source

      abbrev has_met : FeedJob I → Type 0
      has_met job = Rose 0 (met job)

      abbrev is_long : FeedJob I → Type 0
      is_long job = IsTooLarge i.left job.cutter

      -- the plan and its feeds
      opened_both : LeavesPlace p a c (name ∷ pl.feeds) [] None
      opened_both = leaves_then p a b c (name ∷ []) pl.feeds [] None leaves opens.leaves

      still : Silent s out then
      still = silent_after s out mid then quiet (opens.silent (λ e. cc) (λ e. cc))

      headed_all : All (λ n. HasHeader pl.schema (file_of (p.files a) n)) pl.feeds
      headed_all = subst (λ (f : Option Files). All (λ n. HasHeader pl.schema (file_of f n)) pl.feeds) plan_files (all_headed i.left i.faults pl.schema (p.files b) pl.feeds feeds headed)

      headed_of : (files : Files) (is : p.files a ≡ Some files) → AllZip (λ n. IsHeaded i.left i.faults pl.schema (Some (file_or_empty files n))) pl.feeds feeds
      headed_of files is = subst (λ (f : Option Files). AllZip (λ n. IsHeaded i.left i.faults pl.schema (file_of f n)) pl.feeds feeds) (plan_files ∙ is) headed

      module _ (read : List (FeedJob I)) (back : TakesSources p c d (map met read)) where
        files_same : p.files d ≡ p.files a
        files_same = back.files ∙ same_files p a c (name ∷ pl.feeds) None opened_both

        created_none : p.created d ≡ p.created a
        created_none = back.created ∙ same_created p a c (name ∷ pl.feeds) None opened_both

        writes_same : p.write_faults d ≡ p.write_faults a
        writes_same = back.write_faults ∙ opened_both.unwritten (nothing_made p a c (name ∷ pl.feeds) None opened_both)

        opened_all : p.opened d ≡ p.opened a ++ name ∷ pl.feeds
        opened_all = back.opened ∙ opened_both.opened ∙ ap (λ ns. p.opened a ++ ns) (sym (all_opened p a c (name ∷ pl.feeds) [] opened_both))

        reads_same : AreQuiet i.left i.faults read → p.read_faults d ≡ p.read_faults a
        reads_same none = back.quiet (All-map (λ n. n ≡ 0) met read none) ∙ opened_both.read_quiet (λ e. cc)

        read_failed : Any has_met read → Rose (p.read_faults a) (p.read_faults d)
        read_failed any =
            subst (λ (n : ℕ). Rose n (p.read_faults d)) (opened_both.read_quiet (λ e. cc)) (rose_once (faulty (map met read)) (p.read_faults c) (p.read_faults d) (faulty_some met read any.0 any.1 any.2 any.3 any.4) back.rose)

        -- ---- reading them met a fault

        left_all : (k : Stop) → (k ≢ stop.ReadFault → p.read_faults d ≡ p.read_faults a) → (k ≡ stop.ReadFault → Rose (p.read_faults a) (p.read_faults d)) → LeavesPlace p a d (name ∷ pl.feeds) [] (Some k)
        left_all k none rose =
            leaves_reading p a d (name ∷ pl.feeds) (name ∷ pl.feeds) [] (Some k) (sym (append-nil _)) opened_all (λ e. refl) created_none writes_same files_same (λ e. rose (same_stop k stop.ReadFault e)) (λ e. none (λ x. e (ap (λ l. Some l) x)))

        long_feed : Any is_long feeds → Told (p.files a) (HasLongFeed pl)
        long_feed any = told_by (p.files a) (HasLongFeed pl) (λ files is. any_large i.left i.faults pl.schema (file_or_empty files) pl.feeds feeds (headed_of files is) any)

        -- so the call ended
        ended_past : (k : Stop) → LeavesPlace p a d (name ∷ pl.feeds) [] (Some k) → EndsByFeed p s (at a out) (at d then) Named pl (ended k) → k ≢ stop.WriteFault → Ends a d out then (ended k)
        ended_past k all by written = record {
          stage = inr (record { plan = pl; plan_is = reads.plan; stage = inr (record { headed = headed_all; stage = inl (record { by = by; opened = opened_all; silent = still }) }) });
          faults = faults_ended a d out then (name ∷ pl.feeds) k all (λ e. absurd (written e)) (λ w l. still.faults) still.name;
        }

        pub ended_by_feed : (f : CutFault) → EndsBy i.left i.faults feeds read f → Ends a d out then (Err (stop_of_cut f))
        ended_by_feed cut.NoMemory E = ended_past stop.NoMemory (left_all stop.NoMemory (λ e. reads_same E) (λ e. cc)) tt (λ e. cc)
        ended_by_feed cut.TooMuch E = ended_past stop.FeedRefused (left_all stop.FeedRefused (λ e. reads_same E.1) (λ e. cc)) (long_feed E.0) (λ e. cc)
        ended_by_feed cut.Read E = ended_past stop.ReadFault (left_all stop.ReadFault (λ e. absurd (e refl)) (λ e. read_failed E)) tt (λ e. cc)

        -- ---- all were read to their ends, and the script was answered over their points in path order

        module _ (points h : List Point) (T : GivesAll i.left i.faults pl.schema feeds read points) (order : IsPermutation points h) (e : P) (out' : O) (result : FlatEnd)
            (answers : AnswersNamed p s (at d then) (at e out') (flat_basis pl.schema h) script result) (faults : KeepsFaults p s (at d then) (at e out') result) where
          told_there : (files : Files) → p.files a ≡ Some files → p.files d ≡ Some files
          told_there files is = files_same ∙ is

          taken_at : (files : Files) → p.files a ≡ Some files → AreTaken pl files
          taken_at files is = (are_fed i.left i.faults pl.schema (file_or_empty files) pl.feeds feeds T.rows (headed_of files is) T.read).taken

          -- the points are the accepted records, in another order
          records_at : (files : Files) → p.files a ≡ Some files → IsPermutation h (accepted_records pl files)
          records_at files is =
              let fed = are_fed i.left i.faults pl.schema (file_or_empty files) pl.feeds feeds T.rows (headed_of files is) T.read in
              subst (λ (l : List Point). IsPermutation h l) (T.points_are ∙ fed.points) (IsPermutation-sym points h order)

          all_at : (refused : Bool) (files : Files) → p.files a ≡ Some files → GainsScript s then out' (flat_basis pl.schema h) refused (file_or_empty files script) → GainsScript s out out' (records_of pl files) refused (file_or_empty files script)
          all_at refused files is all = (
            subst (λ (held : Option (List ℕ)). Gains held (s.held out') (script_answers (records_of pl files) (file_or_empty files script))) still.held
                (subst (Gains (s.held then) (s.held out')) (lines_same pl.schema h (accepted_records pl files) (records_at files is) (file_or_empty files script)) all.0),
            all.1,
          )

          some_at : (files : Files) → p.files a ≡ Some files → GainsScriptPart s then out' (flat_basis pl.schema h) (is_lacking result) (file_or_empty files script) → GainsScriptPart s out out' (records_of pl files) (is_lacking result) (file_or_empty files script)
          some_at files is some =
              subst (λ (held : Option (List ℕ)). PutsLinesFront (records_of pl files) (is_lacking result) held (s.held out') (lines (file_or_empty files script))) still.held
              (front_same pl.schema h (accepted_records pl files) (records_at files is) (is_lacking result) (s.held then) (s.held out') (lines (file_or_empty files script)) some)

          -- what holds of the files once the feeds were read holds of those at the start
          from_there : (Q R : Files → Type 0) → ((files : Files) → p.files a ≡ Some files → Q files → R files) → Told (p.files d) Q → Told (p.files a) R
          from_there Q R step there = told_by (p.files a) R (λ files is. step files is (Told-some (p.files d) files Q (told_there files is) there))

          answered : AnswersRecords p s (at a out) (at e out') Named pl result
          answered = record {
            taken = told_by (p.files a) (AreTaken pl) taken_at;
            done = λ x. from_there _ _ (all_at false) (answers.done x);
            refused = λ x. from_there _ _ (all_at true) (answers.refused x);
            part = from_there _ _ some_at answers.part;
            opens = answers.opens;
            opened = answers.opened ∙ (ap (λ ns. ns ++ take answers.opens (script ∷ [])) opened_all ∙ append_assoc (p.opened a) (name ∷ pl.feeds) (take answers.opens (script ∷ [])));
            opened_it = λ x. answers.opened_it x ∙ (ap (λ ns. ns ++ script ∷ []) opened_all ∙ append_assoc (p.opened a) (name ∷ pl.feeds) (script ∷ []));
          }

          pub ended_answering : Ends a e out out' result
          ended_answering = record {
            stage = inr (record { plan = pl; plan_is = reads.plan; stage = inr (record { headed = headed_all; stage = inr answered }) });
            faults = record {
              read = λ x. subst (λ (n : ℕ). Rose n (p.read_faults e)) (reads_same T.quiet) (faults.read x);
              write = λ x. subst (λ (n : ℕ). Rose n (s.faults out')) still.faults (faults.write x);
              quiet_place = λ x m. faults.quiet_place x m ∙ reads_same T.quiet;
              quiet_sink = λ x m l. faults.quiet_sink x m l ∙ still.faults;
              name = faults.name ∙ still.name;
              files = faults.files ∙ files_same;
              created = faults.created ∙ created_none;
              write_faults = faults.write_faults ∙ writes_same;
            };
          }

      -- by what reading them answered
      pub ended_reading : (k : Stop) → ReadsPoints p i pl.schema c d feeds (Err k) → Ends a d out then (Err k)
      ended_reading k R =
          let met = fault_met k R.given R.result_is in
          subst (λ (l : Stop). Ends a d out then (Err l)) (sym met.2) (ended_by_feed R.read R.given_back met.0 (subst (GivesPoints i.left i.faults pl.schema feeds R.read) met.1 R.gives))

      -- the points that were read
      pub given_points : (points : List Point) (R : ReadsPoints p i pl.schema c d feeds (Ok points)) → GivesAll i.left i.faults pl.schema feeds R.read points
      given_points points R = subst (GivesPoints i.left i.faults pl.schema feeds R.read) (none_met points R.given R.result_is) R.gives
