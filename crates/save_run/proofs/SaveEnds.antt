-- How a save ends before its feeds were read, and what stands once they were.
use Rattle.std.proofs.Common.{◌≡◌, ◌≢◌, ◌⊎◌, ◌+◌, ◌<◌, ◌≤◌, ℕ, zero, suc, ◌==◌, not, cond, true, false, List, [], ◌∷◌, ◌++◌, get_or, length, map, All, Option, Some, None, Result, Ok, Err, inl, inr, refl, sym, ◌∙◌, ap, subst, arith}
use Rattle.std.proofs.lemmas.Bool.Decides.{nat_tests}
use Rattle.std.proofs.lemmas.List.{append-nil}
use Rattle.std.proofs.lemmas.List.Elements.{All-contains, All-map, Contains-append_left, Contains-push}
use Rattle.std.specs.List.{AllZip}
use Rattle.std.specs.Prelude.{Any, Contains}
use Rattle.cube_schema.specs.declared.plan.Plan.{Plan}
use Rattle.cube_store.specs.Holding.{CubeCounts, IsLeastCubeOf}
use Rattle.cube_store.specs.declared.cube.Cube.{Cube}
use Rattle.cube_view.specs.Points.{Point}
use Rattle.cube_view.specs.declared.schema.Schema.{Schema}
use Rattle.feed_reader.proofs.FeedLaws.{headless_refused, refused_by_size}
use Rattle.feed_reader.specs.Accepting.{AcceptsSound}
use Rattle.feed_reader.specs.Feeds.{feed_head, is_feed_refused}
use Rattle.feed_reader.specs.declared.counts.FeedCounts.{FeedCounts}
use Rattle.feed_reader.specs.declared.job.FeedJob.{FeedJob}
use Rattle.image_run.specs.declared.end.ImageEnd.TheVariants.{Done, Refused}
use Rattle.outer_io.specs.Faults.{Rose}
use Rattle.outer_io.specs.Files.{Files, file_or_empty}
use Rattle.outer_io.specs.Progress.{IsTooLarge}
use Rattle.outer_io.specs.Told.{Told}
use Rattle.outer_io.specs.declared.cutter.CutFault.{CutFault}
use Rattle.outer_io.specs.declared.cutter.CutFault.TheVariants as cut
use Rattle.run_files.proofs.Apart.{err_is, stopped}
use Rattle.run_files.proofs.FaultRises.{faulty-cons, rose_once}
use Rattle.run_files.proofs.HeadReads.{all_headed, at_feeds, at_feeds_on}
use Rattle.run_files.proofs.PlanReads.{lacks_plan}
use Rattle.run_files.proofs.SinkPuts.{fails_after, puts_after, silent_after}
use Rattle.run_files.proofs.Stages.{all_opened, fails_on, KeepsOthers-same, leaves_reading, leaves_then, names_of, nothing_made, same_created, same_files}
use Rattle.run_files.specs.Counts.{CountsAt}
use Rattle.run_files.specs.GivingBack.{faulty, TakesSources}
use Rattle.run_files.specs.Headed.{HasHeader, IsHeaded, OpensFeeds, RefusesLast}
use Rattle.run_files.specs.Leaving.{LeavesPlace}
use Rattle.run_files.specs.Outside.{at, file_of, PlaceSeen, Puts, Silent, SinkSeen, SourceSeen}
use Rattle.run_files.specs.Planned.{LacksPlan, ReadsPlan}
use Rattle.run_files.specs.Stops.{IsOrLacks, stop_of_cut}
use Rattle.run_files.specs.declared.stop.Stop.{Stop}
use Rattle.run_files.specs.declared.stop.Stop.TheVariants as stop
use Rattle.session_core.proofs.WholeScripts.{told_by}
use Rattle.save_run.specs.Taking.{AreQuiet, EndsBy, TakesAll, TakesFeeds}
use Rattle.save_run.proofs.FeedRows.{any_large, are_fed}
use Rattle.save_run.proofs.Records.{are_records}
use Rattle.save_run.proofs.EndsAfterFeeds.{End, Stood}
use Rattle.save_run.specs.Ends.{AtEntry, EndsPastHeaders, NoneRose, SaveEnds, SavesUnderPlan}
use Rattle.save_run.specs.Names.{saving}
use Rattle.save_run.specs.Reading.{taken_end, ReadsFeeds}
use Rattle.save_run.specs.Saved.{AreTaken, HasLongFeed}

-- ---- lists and ends

-- the fault that ended the reading of the feeds, and none where they were read
abbrev Taken : Type 0
Taken = Cube × List FeedCounts

fault_met : (k : Stop) (taken : Result Taken CutFault) → ◌≡◌ {A = Result Taken Stop} (Err k) (taken_end taken) → (f : CutFault) × (taken ≡ Err f) × (k ≡ stop_of_cut f)
fault_met k (Ok x) is = cc
fault_met k (Err f) is = (f, refl, cc)

none_met : (x : Taken) (taken : Result Taken CutFault) → ◌≡◌ {A = Result Taken Stop} (Ok x) (taken_end taken) → taken ≡ Ok x
none_met x (Ok y) is = cc
none_met x (Err f) is = cc

-- saving ended by this cause
abbrev ended : Stop → End
ended k = Err k

counted_some : (n m : ℕ) → Rose 0 n → 1 ≤ cond (not (n == 0)) 1 0 + m
counted_some n m rose = let some = rose.1 in grind (arith, nat_tests)

pub faulty_some : {X : Type 0} (count : X → ℕ) (xs : List X) (k : ℕ) (x : X) → k < length xs → get_or xs k x ≡ x → Rose 0 (count x) → 1 ≤ faulty (map count xs)
faulty_some count [] k x within is rose = absurd (omega (arith, within))
faulty_some count (y ∷ xs) zero x within is rose = let some = counted_some (count y) (faulty (map count xs)) (subst (λ (z : _). Rose 0 (count z)) (sym is) rose) in let both = faulty-cons (count y) (map count xs) in omega (arith, some, both)
faulty_some count (y ∷ xs) (suc k) x within is rose = let later = faulty_some count xs k x (omega (arith, within)) is rose in let both = faulty-cons (count y) (map count xs) in omega (arith, later, both)

-- a feed that is refused is not taken
not_both : (schema : Schema) (feed : List ℕ) → is_feed_refused schema feed ≡ true → is_feed_refused schema feed ≡ false → ⊥
not_both schema feed refused taken = let z : true ≡ false = sym refused ∙ taken in absurd cc

module _ {P O : Type 0} (p : PlaceSeen P) (s : SinkSeen O) where
  module _ (a b : P) (out out' : O) (name image : List ℕ) (inputs : List (List ℕ)) (k : Stop) (leaves : LeavesPlace p a b inputs [] (Some k)) where
    -- the counts of faults with any trouble before the image is created
    early_counts : (k ≡ stop.FeedRefused → s.faults out' ≡ s.faults out) → (k ≡ stop.WriteFault → Rose (s.faults out) (s.faults out')) → CountsAt p s (at a out) (at b out') (ended k)
    early_counts unput write =
        let unwritten = leaves.unwritten (nothing_made p a b inputs (Some k) leaves) in
        record {
          done = λ x e. cc;
          refused = λ e. (leaves.read_quiet (λ is. cc), unwritten, unput (err_is k stop.FeedRefused e));
          unread = λ e. leaves.read_quiet (λ is. cc);
          write = λ e. inr (write (err_is k stop.WriteFault e));
          read = λ e. leaves.read (ap (λ l. Some l) (err_is k stop.ReadFault e));
          refused_plan = λ e. (leaves.read_quiet (λ is. cc), unwritten);
        }

    -- so it ended
    ended_early : LacksPlan p s (at a out) (at b out') name (ended k) ⊎ SavesUnderPlan p s (at a out) (at b out') (saving name image) (ended k)
        → (k ≡ stop.FeedRefused → s.faults out' ≡ s.faults out) → (k ≡ stop.WriteFault → Rose (s.faults out) (s.faults out')) → SaveEnds p s (at a out) (at b out') (saving name image) (ended k)
    ended_early stage unput write = record {
      stage = stage;
      others = KeepsOthers-same (p.files a) (p.files b) (image ∷ []) (same_files p a b inputs (Some k) leaves);
      untouched = λ e. same_files p a b inputs (Some k) leaves;
      counts = early_counts unput write;
    }

  -- ---- the plan was refused, or was not read

  pub ended_by_plan : (a b : P) (out out' : O) (name image : List ℕ) (k : Stop) → LeavesPlace p a b (name ∷ []) [] (Some k) → (stopped Plan k ≡ stopped Plan stop.ReadFault → p.opened b ≡ p.opened a ++ name ∷ [])
      → ReadsPlan s out out' (file_of (p.files a) name) (Err k) → SaveEnds p s (at a out) (at b out') (saving name image) (Err k)
  ended_by_plan a b out out' name image k leaves opened reads =
      ended_early a b out out' name image (name ∷ []) k leaves (inl (lacks_plan p s a b out out' name k leaves opened reads)) (λ e. absurd (reads.ends.1 e)) (λ e. absurd (reads.ends.0 e))

  -- ---- there is a plan

  module _ (a b : P) (out mid : O) (name image : List ℕ) (pl : Plan) (leaves : LeavesPlace p a b (name ∷ []) [] None) (reads : ReadsPlan s out mid (file_of (p.files a) name) (Ok pl)) where
    quiet : Silent s out mid
    quiet = reads.silent (λ e. cc)

    same : p.files b ≡ p.files a
    same = same_files p a b (name ∷ []) None leaves

    -- where the plan's files are told
    told : (files : Files) → p.files a ≡ Some files → p.files b ≡ Some files
    told files is = same ∙ is

    few : length pl.feeds ≤ 8
    few = reads.plan.files.feeds.1

    -- ---- a feed was not opened, or has no header

    module _ (c : P) (out' : O) where
      -- a feed of the plan whose header is refused is none that is taken
      refused_none : (opens unopened : List (List ℕ)) (Says : List ℕ → Type 0) (files : Files) → p.files b ≡ Some files → pl.feeds ≡ opens ++ unopened → RefusesLast pl.schema (file_of (p.files b)) opens Says → AreTaken pl files → ⊥
      refused_none opens unopened Says files is are last taken =
          let among : Contains pl.feeds last.name =
          subst (λ (ns : List (List ℕ)). Contains ns last.name) (sym (are ∙ ap (λ o. o ++ unopened) last.names_are)) (Contains-append_left (last.earlier ++ last.name ∷ []) unopened last.name (Contains-push last.earlier last.name)) in
          let bad : feed_head pl.schema (file_or_empty files last.name) ≡ Err last.refuses.fault = subst (λ (f : Option Files). Told (file_of f last.name) (λ feed. feed_head pl.schema feed ≡ Err last.refuses.fault)) is last.refuses.refused in
          not_both pl.schema (file_or_empty files last.name) (headless_refused pl.schema (file_or_empty files last.name) last.refuses.fault bad)
          (All-contains (λ n. is_feed_refused pl.schema (file_or_empty files n) ≡ false) pl.feeds last.name taken among)

      -- what is complete where opening feeds ended so
      head_end : (k : Stop) → OpensFeeds p s pl.schema (at b mid) (at c out') pl.feeds (Some k) → (k ≡ stop.ReadFault → ⊥) → ¬ Rose (s.faults out) (s.faults out') → (files : Files) → p.files a ≡ Some files → AreTaken pl files → IsOrLacks Done (Err k) ⊎ IsOrLacks Refused (Err k)
      head_end stop.NoMemory O r u files is taken = inl (inr refl)
      head_end stop.PlanRefused O r u files is taken = absurd (O.ends refl)
      head_end stop.ReadFault O r u files is taken = absurd (r refl)
      head_end stop.WriteFault O r u files is taken = absurd (u (fails_after s out mid out' quiet _ (O.unsaid refl).refuses.says).faults)
      head_end stop.FeedRefused O r u files is taken = absurd (refused_none O.leaves.opens O.leaves.unopened (Puts s mid out') files (told files is) O.leaves.inputs_are (O.refused refl) taken)

      pub ended_by_header : (k : Stop) → OpensFeeds p s pl.schema (at b mid) (at c out') pl.feeds (Some k) → SaveEnds p s (at a out) (at c out') (saving name image) (Err k)
      unfolding leaves_then names_of
      ended_by_header k O =
          let all : LeavesPlace p a c (name ∷ pl.feeds) [] (Some k) = leaves_then p a b c (name ∷ []) pl.feeds [] (Some k) leaves O.leaves in
          ended_early a c out out' name image (name ∷ pl.feeds) k all
          (inr (record {
            plan = pl;
            plan_is = reads.plan;
            stage = inl (record {
              stop = k;
              end_is = refl;
              leaves = names_of p a c (name ∷ pl.feeds) [] (Some k) all;
              opens = O.leaves.opens;
              opens_are = ap (λ ns. ns ++ O.leaves.opens) (sym (all_opened p a b (name ∷ []) [] leaves));
              first = λ e. fails_on p a b leaves.opens O.leaves.opens leaves.opened (leaves.read_quiet (λ e. cc)) (O.first (ap (λ l. Some l) e));
              order =
                  at_feeds_on p s pl a b c c out mid out' O.leaves.opens O.leaves.makes (Some k) same quiet
                  (at_feeds p s pl b c mid out' O.leaves.makes k (nothing_made p b c pl.feeds (Some k) O.leaves) O);
            });
            complete = λ none. told_by (p.files a) _ (λ files is taken. head_end k O (λ e. none.0 (all.read (ap (λ l. Some l) e))) none.2 files is taken);
          }))
          (λ e. (puts_after s out mid out' quiet _ (O.refused (ap (λ l. Some l) e)).refuses.says).faults)
          (λ e. (fails_after s out mid out' quiet _ (O.unsaid (ap (λ l. Some l) e)).refuses.says).faults)

    -- ---- all feeds were opened

    module _ {I : Type 0} (i : SourceSeen I) (c d : P) (then : O) (opens : OpensFeeds p s pl.schema (at b mid) (at c then) pl.feeds None) (feeds : List (FeedJob I))
        (headed : AllZip (λ n. IsHeaded i.left i.faults pl.schema (file_of (p.files b) n)) pl.feeds feeds) where
      abbrev Feed : Type 0
      Feed = FeedJob I

      abbrev count : Feed → ℕ
      count feed = i.faults feed.cutter.source

      still : Silent s out then
      still = silent_after s out mid then quiet (opens.silent (λ e. cc) (λ e. cc))

      -- both stages
      both : LeavesPlace p a c (name ∷ pl.feeds) [] None
      both = leaves_then p a b c (name ∷ []) pl.feeds [] None leaves opens.leaves

      -- each feed has a header
      headers : All (λ n. HasHeader pl.schema (file_of (p.files a) n)) pl.feeds
      headers = subst (λ (f : Option Files). All (λ n. HasHeader pl.schema (file_of f n)) pl.feeds) same (all_headed i.left i.faults pl.schema (p.files b) pl.feeds feeds headed)

      headed_at : (files : Files) → p.files a ≡ Some files → AllZip (λ n. IsHeaded i.left i.faults pl.schema (Some (file_or_empty files n))) pl.feeds feeds
      headed_at files is = subst (λ (f : Option Files). AllZip (λ n. IsHeaded i.left i.faults pl.schema (file_of f n)) pl.feeds feeds) (told files is) headed

      module _ (read : List Feed) (back : TakesSources p c d (map count read)) where
        opened_all : p.opened d ≡ p.opened a ++ name ∷ pl.feeds
        opened_all = back.opened ∙ both.opened ∙ ap (λ ns. p.opened a ++ ns) (sym (all_opened p a c (name ∷ pl.feeds) [] both))

        created_none : p.created d ≡ p.created a
        created_none = back.created ∙ same_created p a c (name ∷ pl.feeds) None both

        files_same : p.files d ≡ p.files a
        files_same = back.files ∙ same_files p a c (name ∷ pl.feeds) None both

        writes_same : p.write_faults d ≡ p.write_faults a
        writes_same = back.write_faults ∙ both.unwritten (nothing_made p a c (name ∷ pl.feeds) None both)

        reads_same : AreQuiet i.left i.faults read → p.read_faults d ≡ p.read_faults a
        reads_same still = back.quiet (All-map (λ n. n ≡ 0) count read still) ∙ both.read_quiet (λ e. cc)

        reads_rose : Any (λ (feed : Feed). Rose 0 (count feed)) read → Rose (p.read_faults a) (p.read_faults d)
        reads_rose any =
            subst (λ (n : ℕ). Rose n (p.read_faults d)) (both.read_quiet (λ e. cc))
            (rose_once (faulty (map count read)) (p.read_faults c) (p.read_faults d) (faulty_some count read any.0 any.1 any.2 any.3 any.4) back.rose)

        -- ---- reading them met a fault

        leaves_all : (k : Stop) → (k ≡ stop.ReadFault → Rose (p.read_faults a) (p.read_faults d)) → (k ≢ stop.ReadFault → p.read_faults d ≡ p.read_faults a) → LeavesPlace p a d (name ∷ pl.feeds) [] (Some k)
        leaves_all k rose still =
            leaves_reading p a d (name ∷ pl.feeds) (name ∷ pl.feeds) [] (Some k) (sym (append-nil _)) opened_all (λ e. refl) created_none writes_same files_same (λ e. rose (some_is e)) (λ e. still (λ x. e (ap (λ l. Some l) x)))
          where
            some_is : {k : Stop} → Some k ≡ Some stop.ReadFault → k ≡ stop.ReadFault
            some_is e = cc

        large_feed : Any (λ (feed : Feed). IsTooLarge i.left feed.cutter) feeds → (files : Files) → p.files a ≡ Some files → HasLongFeed pl files
        large_feed any files is = any_large i.left i.faults pl.schema (file_or_empty files) pl.feeds feeds (headed_at files is) any

        not_taken : (files : Files) → HasLongFeed pl files → AreTaken pl files → ⊥
        not_taken files long taken =
            not_both pl.schema (file_or_empty files long.0) (refused_by_size pl.schema (file_or_empty files long.0) long.2)
            (All-contains (λ n. is_feed_refused pl.schema (file_or_empty files n) ≡ false) pl.feeds long.0 taken long.1)

        -- saving ended past the headers
        ended_past : (k : Stop) → LeavesPlace p a d (name ∷ pl.feeds) [] (Some k) → EndsPastHeaders p s (at a out) (at d then) (saving name image) pl (ended k) → k ≢ stop.WriteFault
            → (NoneRose p s (at a out) (at d then) (saving name image) → AtEntry p s (at a out) (at d then) (saving name image) (λ files. AreTaken pl files → IsOrLacks Done (ended k) ⊎ IsOrLacks Refused (ended k)))
            → SaveEnds p s (at a out) (at d then) (saving name image) (ended k)
        ended_past k all past written complete =
            ended_early a d out then name image (name ∷ pl.feeds) k all
            (inr (record { plan = pl; plan_is = reads.plan; stage = inr (record { opened = opened_all; headed = headers; ends = past }); complete = complete })) (λ e. still.faults) (λ e. absurd (written e))

        pub ended_by_feed : (f : CutFault) → EndsBy i.left i.faults feeds read f → SaveEnds p s (at a out) (at d then) (saving name image) (Err (stop_of_cut f))
        ended_by_feed cut.Read E =
            ended_past stop.ReadFault (leaves_all stop.ReadFault (λ e. reads_rose E) (λ e. absurd (e refl))) (created_none, still) (λ e. cc)
            (λ none. absurd (none.0 (reads_rose E)))
        ended_by_feed cut.TooMuch E =
            ended_past stop.FeedRefused (leaves_all stop.FeedRefused (λ e. cc) (λ e. reads_same E.1)) (created_none, still, told_by (p.files a) (HasLongFeed pl) (large_feed E.0)) (λ e. cc)
            (λ none. told_by (p.files a) _ (λ files is taken. absurd (not_taken files (large_feed E.0 files is) taken)))
        ended_by_feed cut.NoMemory E =
            ended_past stop.NoMemory (leaves_all stop.NoMemory (λ e. cc) (λ e. reads_same E)) (inl created_none, still) (λ e. cc)
            (λ none. told_by (p.files a) _ (λ files is taken. inl (inr refl)))

        -- ---- all were read to their ends

        pub stood_read : AcceptsSound → (cube : Cube) (counts : List FeedCounts) → TakesAll i.left i.faults pl.schema feeds read cube counts → Stood p s a d out then name pl cube counts
        stood_read sound cube counts T = record {
          plan_is = reads.plan;
          opened = opened_all;
          headed = headers;
          created = created_none;
          files = files_same;
          read_faults = reads_same T.quiet;
          write_faults = writes_same;
          silent = still;
          schema_is = T.schema_is;
          told = told_by (p.files a) _
              (λ files is.
              let F = are_fed i.left i.faults pl.schema (file_or_empty files) pl.feeds feeds T.rows (headed_at files is) T.read in
              record {
                taken = F.taken;
                counts_are = T.counts_are ∙ F.counts;
                counted = subst (λ (h : List Point). CubeCounts cube h) F.points T.points;
                least = λ many. subst (λ (h : List Point). IsLeastCubeOf cube h) F.points (T.least many);
                records = are_records sound pl.schema (file_or_empty files) pl.feeds;
              });
        }

      -- by what reading them answered
      pub ended_reading : (k : Stop) → ReadsFeeds p i pl.schema c d feeds (Err k) → SaveEnds p s (at a out) (at d then) (saving name image) (Err k)
      ended_reading k R =
          let met = fault_met k R.taken R.result_is in
          subst (λ (l : Stop). SaveEnds p s (at a out) (at d then) (saving name image) (Err l)) (sym met.2) (ended_by_feed R.read R.back met.0 (subst (TakesFeeds i.left i.faults pl.schema feeds R.read) met.1 R.takes))

      pub stood_reading : AcceptsSound → (taken : Cube × List FeedCounts) → ReadsFeeds p i pl.schema c d feeds (Ok taken) → Stood p s a d out then name pl taken.0 taken.1
      stood_reading sound taken R = stood_read R.read R.back sound taken.0 taken.1 (subst (TakesFeeds i.left i.faults pl.schema feeds R.read) (none_met taken R.taken R.result_is) R.takes)
