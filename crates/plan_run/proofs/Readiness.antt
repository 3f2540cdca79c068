-- Opened feeds, and opened scripts that became sessions, which are ready and fit to run.
use Rattle.std.proofs.Common.{◌≡◌, ℕ, ◌+◌, ◌≤◌, List, [], ◌∷◌, ◌++◌, All, length, Option, Some, None, IsSomeAnd, refl, sym, ◌∙◌, ap, subst, arith}
use Rattle.std.proofs.lemmas.List.{length-map}
use Rattle.std.proofs.lemmas.List.Elements.{All-cons, All-nil}
use Rattle.std.proofs.lemmas.Slice.Zip.{AllZip-long}
use Rattle.std.specs.List.{AllZip}
use Rattle.std.specs.Prelude.{codes, vec_capacity}
use Rattle.live_session.specs.Work.{HadNoTurn}
use Rattle.cube_schema.specs.Files.{NamesFiles}
use Rattle.cube_schema.specs.Repeats.{outputs}
use Rattle.cube_schema.specs.declared.plan.Plan.{Plan}
use Rattle.cube_view.specs.declared.schema.Schema.{Schema}
use Rattle.feed_reader.proofs.FeedStart.{new_rest}
use Rattle.feed_reader.specs.Reading.{AcceptsRows}
use Rattle.feed_reader.specs.declared.job.FeedJob.{FeedJob}
use Rattle.outer_io.proofs.ToldLaws.{Told-some}
use Rattle.outer_io.specs.Cutting.{Cutter, IsNew, lines_left, rest_of}
use Rattle.outer_io.specs.Files.{Files}
use Rattle.outer_io.specs.Progress.{IsGoing}
use Rattle.outer_io.specs.Told.{Told}
use Rattle.run_files.specs.Headed.{IsHeaded}
use Rattle.run_files.specs.Outside.{file_of, SinkSeen}
use Rattle.run_files.specs.Scripted.{AreScriptParts, IsOutput, IsScript}
use Rattle.run_files.specs.declared.scripts.ScriptParts.{ScriptParts}
use Rattle.plan_run.specs.Opening.{AreFit, AreReady}
use Rattle.plan_run.specs.Ready.{IsJobOf, IsSessionOf}
use Rattle.plan_run.specs.Seated.{sessions_of}
use Rattle.plan_run.specs.declared.parts.RunParts.{RunParts}

-- what follows for the second of each two
pub each_second : {A B : Type 0} (R : A → B → Type 0) (P : B → Type 0) → ((x : A) (y : B) → R x y → P y) → (xs : List A) (ys : List B) → AllZip R xs ys → All P ys
each_second R P step [] [] all = All-nil P
each_second R P step [] (y ∷ ys) all = absurd all
each_second R P step (x ∷ xs) [] all = absurd all
each_second R P step (x ∷ xs) (y ∷ ys) all = All-cons P y ys (step x y all.0) (each_second R P step xs ys all.1)

-- ---- feeds

module _ {I : Type 0} (left : I → Option (List ℕ)) (faults : I → ℕ) (schema : Schema) where
  -- the lines that are left of a feed whose header was read are its rows
  rows_left : (file : Option (List ℕ)) (feed : FeedJob I) → IsHeaded left faults schema file feed → Told file (λ bytes. IsSomeAnd (lines_left left feed.cutter) (AcceptsRows schema feed.header.places bytes))
  rows_left None feed h = tt
  rows_left (Some bytes) feed h =
      Told-some (rest_of left h.reads.before) bytes (λ b. IsSomeAnd (lines_left left feed.cutter) (AcceptsRows schema feed.header.places b)) (new_rest left h.reads.before h.source bytes h.reads.made h.left_is) h.reads.accepted

  -- it is a job that is ready
  is_job : (file : Option (List ℕ)) (feed : FeedJob I) → IsHeaded left faults schema file feed → IsJobOf left faults schema file feed
  is_job file feed h =
      let gives = h.reads.header.2 in record {
        headed = h;
        given = omega (arith, gives.given, gives.counts, ap (λ (k : Cutter I). k.given) h.reads.made);
        fresh = gives.passed.quiet ∙ ap (λ (k : Cutter I). faults k.source) h.reads.made ∙ h.fresh;
        rows = rows_left file feed h;
      }

  module _ (files : Option Files) where
    are_jobs : (names : List (List ℕ)) (feeds : List (FeedJob I)) → AllZip (λ name. IsHeaded left faults schema (file_of files name)) names feeds → AllZip (λ name. IsJobOf left faults schema (file_of files name)) names feeds
    are_jobs [] [] all = tt
    are_jobs [] (feed ∷ feeds) all = absurd all
    are_jobs (name ∷ names) [] all = absurd all
    are_jobs (name ∷ names) (feed ∷ feeds) all = (is_job (file_of files name) feed all.0, are_jobs names feeds all.1)

-- ---- scripts

module _ {I O : Type 0} (left : I → Option (List ℕ)) (faults : I → ℕ) (s : SinkSeen O) (files : Option Files) where
  -- each script with the sink of its output is a session that is ready
  are_sessions : (names : List (List ℕ)) (scripts : List (Cutter I)) (sinks : List O) → AllZip (λ name. IsScript left faults (file_of files name)) names scripts → AllZip (IsOutput s files) (outputs names) sinks → AllZip (IsSessionOf left faults s files) names (sessions_of scripts sinks)
  are_sessions [] [] sinks all made = tt
  are_sessions [] (script ∷ scripts) sinks all made = absurd all
  are_sessions (name ∷ names) [] sinks all made = absurd all
  are_sessions (name ∷ names) (script ∷ scripts) [] all made = absurd made
  are_sessions (name ∷ names) (script ∷ scripts) (sink ∷ sinks) all made = (record { script = all.0; output = made.0; no_turn = refl }, are_sessions names scripts sinks all.1 made.1)

  -- nothing of the scripts was read
  pub are_new : (names : List (List ℕ)) (scripts : List (Cutter I)) → AllZip (λ name. IsScript left faults (file_of files name)) names scripts → All (λ (script : Cutter I). IsNew script.source script) scripts
  are_new = each_second (λ name. IsScript left faults (file_of files name)) (λ (script : Cutter I). IsNew script.source script) (λ name script is. is.is_new)

  -- and there is a sink for each
  pub are_pairs : (names : List (List ℕ)) (scripts : List (Cutter I)) (sinks : List O) → AllZip (λ name. IsScript left faults (file_of files name)) names scripts → AllZip (IsOutput s files) (outputs names) sinks → length sinks ≡ length scripts
  are_pairs names scripts sinks all made =
      AllZip-long (IsOutput s files) (outputs names) sinks made ∙ length-map names (λ (name : List ℕ). name ++ codes ".out") ∙ sym (AllZip-long (λ name. IsScript left faults (file_of files name)) names scripts all)

  -- ---- both

  pub are_ready : (plan : Plan) (feeds : List (FeedJob I)) (scripts : ScriptParts (Cutter I) O) (parts : RunParts I O) → AllZip (λ name. IsHeaded left faults plan.schema (file_of files name)) plan.feeds feeds → AreScriptParts left faults s files plan scripts
      → parts.jobs.feeds ≡ feeds → parts.jobs.asks ≡ sessions_of scripts.asks scripts.ask_outputs → parts.jobs.finals ≡ sessions_of scripts.finals scripts.final_outputs → parts.journal ≡ scripts.journal → AreReady left faults s files plan parts
  are_ready plan feeds scripts parts headed are fed asked finally kept = record {
    feeds = subst (AllZip (λ name. IsJobOf left faults plan.schema (file_of files name)) plan.feeds) (sym fed) (are_jobs left faults plan.schema files plan.feeds feeds headed);
    asks = subst (AllZip (IsSessionOf left faults s files) plan.asks) (sym asked) (are_sessions plan.asks scripts.asks scripts.ask_outputs are.asks are.ask_outputs);
    finals = subst (AllZip (IsSessionOf left faults s files) plan.finals) (sym finally) (are_sessions plan.finals scripts.finals scripts.final_outputs are.finals are.final_outputs);
    journal = subst (IsOutput s files plan.journal) (sym kept) are.journal;
  }

  -- parts that are ready are fit, where the plan names few files and there is room
  pub are_fit : (plan : Plan) (parts : RunParts I O) → NamesFiles plan → AreReady left faults s files plan parts → parts.room.items ≡ [] → length plan.asks + length plan.finals ≤ vec_capacity parts.room → AreFit plan.schema parts
  are_fit plan parts few ready empty room =
      let job = λ (name : List ℕ). IsJobOf left faults plan.schema (file_of files name) in
      let session = IsSessionOf left faults s files in
      let fed = AllZip-long job plan.feeds parts.jobs.feeds ready.feeds in
      let asked = AllZip-long session plan.asks parts.jobs.asks ready.asks in
      let finally = AllZip-long session plan.finals parts.jobs.finals ready.finals in
      let none : length parts.room.items ≡ 0 = ap length empty in
      record {
        jobs = record {
          headers = each_second job (λ (j : FeedJob I). j.header.schema ≡ plan.schema) (λ name j is. is.headed.reads.schema_is) plan.feeds parts.jobs.feeds ready.feeds;
          going = each_second job (λ (j : FeedJob I). IsGoing j.cutter) (λ name j is. is.headed.reads.header.2.goes_on) plan.feeds parts.jobs.feeds ready.feeds;
          feeds = (omega (arith, fed, few.feeds.0), omega (arith, fed, few.feeds.1));
          sessions = (omega (arith, asked, few.few_asks), omega (arith, finally, few.few_finals));
          asks = each_second session HadNoTurn (λ name k is. is.no_turn) plan.asks parts.jobs.asks ready.asks;
          finals = each_second session HadNoTurn (λ name k is. is.no_turn) plan.finals parts.jobs.finals ready.finals;
        };
        empty = (empty, omega (arith, none, parts.room.ok.0));
        room = omega (arith, asked, finally, room);
      }
