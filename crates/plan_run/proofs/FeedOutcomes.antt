-- What a feed of a run gave, whatever ended it.
use Rattle.std.proofs.Common.{◌≡◌, ◌≢◌, ◌+◌, ◌<◌, ◌≤◌, ℕ, List, [], ◌∷◌, ◌++◌, All, append-nil, length, map, Option, Some, None, option_map, Result, Err, refl, sym, ap, subst, ◌∙◌, arith}
use Rattle.std.specs.List.{AllZip}
use Rattle.std.proofs.lemmas.List.{map-append}
use Rattle.std.proofs.lemmas.List.Elements.{All-head, All-tail}
use Rattle.crew_feeder.specs.Leaving.{GivesUntil}
use Rattle.crew_feeder.specs.declared.done.FeedDone.{FeedDone}
use Rattle.cube_crew.specs.Crewed.{FeedsLeave, LeavesFeed, feed_rows}
use Rattle.cube_view.specs.Points.{Point}
use Rattle.cube_view.specs.declared.schema.Schema.{Schema}
use Rattle.feed_reader.proofs.FeedLaws.{points_in-append, rows_read}
use Rattle.feed_reader.proofs.FeedStart.{new_lines}
use Rattle.feed_reader.specs.Feeds.{accepted, points_in, rows}
use Rattle.feed_reader.specs.RowCounts.{FeedRows, counts_of_rows, first_refusals}
use Rattle.feed_reader.specs.Rows.{row_of_line}
use Rattle.feed_reader.specs.declared.job.FeedJob.{FeedJob}
use Rattle.feed_reader.specs.declared.row.Row.{Row}
use Rattle.outer_io.proofs.ToldLaws.{Told-some}
use Rattle.outer_io.specs.Cutting.{Cutter, input_size, lines_left}
use Rattle.outer_io.specs.Files.{Files, file_or_empty}
use Rattle.outer_io.specs.Lines.{Line, input_limit, lines}
use Rattle.outer_io.specs.declared.cutter.CutFault.{CutFault}
use Rattle.outer_io.specs.declared.cutter.CutFault.TheVariants as cut
use Rattle.run_files.specs.declared.stop.Stop.{Stop}
use Rattle.run_files.specs.declared.stop.Stop.TheVariants.{PlanRefused}
use Rattle.world_core.specs.PairFact.{IsPrefix}
use Rattle.plan_run.specs.Ready.{IsJobOf}
use Rattle.plan_run.specs.ThreadEnds.{feed_end}
use Rattle.plan_run.proofs.OutputFiles.{told_pair}
use Rattle.plan_run.proofs.EndRanks.{feed_lacking, feed_read, rank_end}
use Rattle.plan_run.specs.Interrupted.{ReportsFeed}

module _ {I : Type 0} (left : I → Option (List ℕ)) (faults : I → ℕ) where
  -- The rows are those of lines that the cutter of the job gave until this fault
  pub record GaveRows (job : FeedJob I) (feed : FeedRows) : Type 0 where
    pub lines : List Line
    pub cutter : Cutter I
    pub given : GivesUntil left faults job.cutter cutter lines feed.fault
    pub rows_are : feed.rows ≡ feed_rows job lines

  -- What the feeds of a run gave
  pub record Gave (jobs : List (FeedJob I)) (sents : List (List Point)) (dones : List (FeedDone I)) : Type 0 where
    pub feeds : List FeedRows
    pub gave : AllZip GaveRows jobs feeds
    pub counts : map (λ (done : FeedDone I). done.counts) dones ≡ map counts_of_rows feeds
    pub points : sents ≡ map (λ (feed : FeedRows). points_in feed.rows) feeds
    pub faults_are : map (λ (feed : FeedRows). feed.fault) feeds ≡ map (λ (done : FeedDone I). done.counts.fault) dones

  abbrev rows_given : (job : FeedJob I) (sent : List Point) (done : FeedDone I) → LeavesFeed left faults job sent done → FeedRows
  rows_given job sent done leaves = record { rows = feed_rows job leaves.lines; fault = done.counts.fault }

  one_counts : (job : FeedJob I) (sent : List Point) (done : FeedDone I) → job.cutter.given ≡ 1 → (leaves : LeavesFeed left faults job sent done) → done.counts ≡ counts_of_rows (rows_given job sent done leaves)
  one_counts job sent done one leaves =
      let number : job.cutter.given + 1 ≡ 2 = ap (λ (n : ℕ). n + 1) one in
      λ i. record {
        accepted = (leaves.accepted.1 ∙ ap (λ (ps : List Point). length ps) leaves.accepted.0) i;
        blank = leaves.counts.0 i;
        refused = leaves.counts.1 i;
        first = (leaves.first ∙ ap (λ n. first_refusals n (feed_rows job leaves.lines)) number) i;
        fault = done.counts.fault;
      }

  -- the cutter of the job has given the header alone
  abbrev pub StandsAfterOne : FeedJob I → Type 0
  StandsAfterOne job = job.cutter.given ≡ 1

  pub all_gave : (jobs : List (FeedJob I)) (sents : List (List Point)) (dones : List (FeedDone I)) → All StandsAfterOne jobs → FeedsLeave left faults jobs sents dones → Gave jobs sents dones
  all_gave [] [] [] ones leave = record { feeds = []; gave = tt; counts = refl; points = refl; faults_are = refl }
  all_gave [] [] (d ∷ dones) ones leave = absurd leave
  all_gave [] (s ∷ sents) [] ones leave = absurd leave
  all_gave [] (s ∷ sents) (d ∷ dones) ones leave = absurd leave
  all_gave (j ∷ jobs) [] [] ones leave = absurd leave
  all_gave (j ∷ jobs) [] (d ∷ dones) ones leave = absurd leave
  all_gave (j ∷ jobs) (s ∷ sents) [] ones leave = absurd leave
  all_gave (j ∷ jobs) (s ∷ sents) (d ∷ dones) ones leave =
      let later = all_gave jobs sents dones (All-tail StandsAfterOne j jobs ones) leave.1 in
      let l = leave.0 in
      let feed = rows_given j s d l in
      record {
        feeds = feed ∷ later.feeds;
        gave = (record { lines = l.lines; cutter = l.cutter; given = l.given; rows_are = refl }, later.gave);
        counts = ap (λ c. c ∷ map (λ (done : FeedDone I). done.counts) dones) (one_counts j s d (All-head StandsAfterOne j jobs ones) l) ∙ ap (λ cs. counts_of_rows feed ∷ cs) later.counts;
        points = ap (λ ps. ps ∷ sents) l.accepted.0 ∙ ap (λ pss. points_in feed.rows ∷ pss) later.points;
        faults_are = ap (λ fs. d.counts.fault ∷ fs) later.faults_are;
      }

  -- the lines that a cutter gave are the first of those that it had
  until_first : (start now : Cutter I) (given more : List Line) (f : Option CutFault) → lines_left left start ≡ Some more → GivesUntil left faults start now given f → (later : List Line) × (more ≡ given ++ later) × (f ≢ Some cut.Read → f ≢ Some cut.NoMemory → later ≡ [])
  until_first start now given more None told until = ([], Told-some (lines_left left start) more (λ all. all ≡ given) told until.0.covers ∙ sym (append-nil given), λ r m. refl)
  until_first start now given more (Some cut.TooMuch) told until = ([], Told-some (lines_left left start) more (λ all. all ≡ given) told until.0 ∙ sym (append-nil given), λ r m. refl)
  until_first start now given more (Some cut.Read) told until =
      let some = Told-some (lines_left left start) more (λ all. (later : List Line) × (all ≡ given ++ later)) told until.0 in
      (some.0, some.1, λ r m. absurd (r refl))
  until_first start now given more (Some cut.NoMemory) told until =
      let some = Told-some (lines_left left start) more (λ all. (later : List Line) × (all ≡ given ++ later)) told until.0 in
      (some.0, some.1, λ r m. absurd (m refl))

  -- and with too much the input is over the limit
  until_large : (start now : Cutter I) (given : List Line) (f : Option CutFault) (size : ℕ) → input_size left start ≡ Some size → f ≡ Some cut.TooMuch → GivesUntil left faults start now given f → input_limit < size
  until_large start now given f size told much until =
      let it = subst (GivesUntil left faults start now given) much until in
      Told-some (input_size left start) size (λ n. input_limit < n) told it.1

  -- and one that is over the limit was given until too much, or until another fault
  until_named : (start now : Cutter I) (given : List Line) (f : Option CutFault) (size : ℕ) → input_size left start ≡ Some size → GivesUntil left faults start now given f → f ≢ Some cut.Read → f ≢ Some cut.NoMemory → input_limit < size → f ≡ Some cut.TooMuch
  until_named start now given None size told until read found large =
      let within = Told-some (input_size left start) size (λ n. n ≤ input_limit) told until.0.size in
      absurd (omega (arith, within, large))
  until_named start now given (Some cut.TooMuch) size told until read found large = refl
  until_named start now given (Some cut.Read) size told until read found large = absurd (read refl)
  until_named start now given (Some cut.NoMemory) size told until read found large = absurd (found refl)

  module _ (schema : Schema) (end : Result (Unit {0}) Stop) (planned : end ≢ Err PlanRefused) (files : Files) where
    pub takes_feed : (name : List ℕ) (job : FeedJob I) (feed : FeedRows) → IsJobOf left faults schema (Some (file_or_empty files name)) job → GaveRows job feed → rank_end end ≤ rank_end (feed_end feed.fault) → ReportsFeed schema end files name feed
    takes_feed name job feed is gave first =
        let bytes = file_or_empty files name in
        let headed = is.headed in
        let before = headed.reads.before in
        let new = headed.reads.made in
        let line = headed.reads.header.0 in
        let gives = headed.reads.header.2 in
        let left_of = told_pair (lines_left left before) (lines_left left job.cutter) (lines bytes) (λ all rest. all ≡ (line ∷ []) ++ rest) (new_lines left before headed.source bytes new headed.left_is) gives.passed.covers in
        let some = until_first job.cutter gave.cutter gave.lines left_of.0 feed.fault left_of.1 gave.given in
        let row = row_of_line schema job.header.places in
        let of_schema : feed.rows ≡ map row gave.lines = gave.rows_are ∙ ap (λ z. map (row_of_line z job.header.places) gave.lines) headed.reads.schema_is in
        let all_rows : rows schema bytes ≡ map row left_of.0 = rows_read schema bytes job.header.places line left_of.0 left_of.2 headed.reads.header.3 in
        let split : rows schema bytes ≡ feed.rows ++ map row some.0 =
        all_rows ∙ ap (map row) some.1 ∙ map-append row gave.lines some.0 ∙ ap (λ (rs : List Row). rs ++ map row some.0) (sym of_schema) in
        let whole_size : input_size left before ≡ Some (0 + length bytes) =
        ap (λ (k : Cutter I). input_size left k) new ∙ ap (λ (o : Option (List ℕ)). option_map (λ rest. 0 + length rest) (option_map (λ more. [] ++ more) o)) headed.left_is in
        let size : input_size left job.cutter ≡ Some (0 + length bytes) = Told-some (input_size left before) (0 + length bytes) (λ n. input_size left job.cutter ≡ Some n) whole_size gives.passed.size in
        record {
          begins = (map row some.0, split);
          whole = λ r m. sym (split ∙ ap (λ (ls : List Line). feed.rows ++ map row ls) (some.2 r m) ∙ append-nil feed.rows);
          read = feed_read end planned feed.fault first;
          too_much = λ much. let large = until_large job.cutter gave.cutter gave.lines feed.fault (0 + length bytes) size much gave.given in omega (arith, large);
          large = λ r m much. until_named job.cutter gave.cutter gave.lines feed.fault (0 + length bytes) size gave.given r m (omega (arith, much));
          no_memory = feed_lacking end planned feed.fault first;
        }

module _ (schema : Schema) (end : Result (Unit {0}) Stop) (files : Files) where
  -- the points of a feed's rows are a beginning of the accepted records
  pub points_begin : (name : List ℕ) (feed : FeedRows) → ReportsFeed schema end files name feed → IsPrefix (points_in feed.rows) (accepted schema (file_or_empty files name))
  unfolding accepted
  points_begin name feed takes = (points_in takes.begins.0, ap points_in takes.begins.1 ∙ points_in-append feed.rows takes.begins.0)

  -- and all of them where the rows are all
  pub points_all : (name : List ℕ) (feed : FeedRows) → feed.rows ≡ rows schema (file_or_empty files name) → points_in feed.rows ≡ accepted schema (file_or_empty files name)
  unfolding accepted
  points_all name feed is = ap points_in is
