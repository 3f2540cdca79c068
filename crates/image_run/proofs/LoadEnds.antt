-- How a load ends, by how its stages ended.
use Rattle.std.proofs.Common.{◌≡◌, ◌≢◌, ◌⊎◌, ℕ, zero, suc, ◌+◌, ◌<◌, ◌≤◌, ◌^◌, true, false, List, [], ◌∷◌, ◌++◌, length, take, Option, Some, None, Result, Ok, Err, inl, inr, refl, sym, ◌∙◌, ap, subst, arith, append_assoc, length-append}
use Rattle.std.proofs.Math.Logic.{∥∥₁_elim, ∥∥₁_map}
use Rattle.std.proofs.Math.Seq.{take-append_seam}
use Rattle.std.proofs.lemmas.List.{append-nil, append_cancel_left}
use Rattle.cube_schema.specs.declared.plan.Plan.{Plan}
use Rattle.cube_store.proofs.CubeBags.{Counts-points}
use Rattle.cube_store.specs.Holding.{CubeCounts}
use Rattle.cube_store.specs.Numbers.{OwnsAllButRoot}
use Rattle.cube_store.specs.Reading.{spot_weight}
use Rattle.cube_store.specs.declared.cube.Cube.{Cube}
use Rattle.cube_view.specs.Bag.{Counts}
use Rattle.cube_view.specs.Points.{Point}
use Rattle.cube_view.specs.declared.schema.Schema.{Schema}
use Rattle.image_cube.specs.CubeImages.{IsCubeImage, IsCubeOfImage}
use Rattle.image_cube.specs.Read.{IsFitImage, Refuses}
use Rattle.image_cube.specs.declared.fault.ImageFault.{ImageFault}
use Rattle.image_cube.specs.declared.fault.ImageFault.TheVariants as image
use Rattle.image_parse.proofs.ImageReads.{one_meaning}
use Rattle.node_arena.specs.Slots.{Slot}
use Rattle.outer_io.specs.Faults.{Rose}
use Rattle.outer_io.specs.Files.{Files, file_or_empty}
use Rattle.outer_io.specs.Lines.{lines}
use Rattle.outer_io.specs.Told.{Told}
use Rattle.run_files.proofs.Apart.{err_is, ok_not_err, same_stop, stopped as ended_so}
use Rattle.run_files.proofs.Fronts.{front_long, front_whole}
use Rattle.run_files.proofs.PlanReads.{plan_end, says_plan}
use Rattle.run_files.proofs.SinkPuts.{fails_after, puts_after, silent_after}
use Rattle.run_files.proofs.Stages.{all_opened, fails_at, fails_on, leaves_ended, leaves_more, leaves_then, nothing_made, same_created, same_files}
use Rattle.run_files.specs.Answering.{AnswersFile}
use Rattle.run_files.specs.FaultCounts.{KeepsFaults}
use Rattle.run_files.specs.Leaving.{FailsAtLast, LeavesPlace}
use Rattle.run_files.specs.Outside.{at, FailsToPut, file_of, PlaceSeen, Puts, PutsOrFails, Silent, SinkSeen}
use Rattle.run_files.specs.Planned.{ReadsPlan}
use Rattle.run_files.specs.Stops.{is_lacking, IsOrLacks}
use Rattle.run_files.specs.Views.{seen_view}
use Rattle.run_files.specs.declared.stop.Stop.{Stop}
use Rattle.run_files.specs.declared.stop.Stop.TheVariants as stop
use Rattle.session_core.specs.Answered.{GainsReplies, GainsFront}
use Rattle.session_core.specs.Asked.{asked}
use Rattle.session_core.specs.Scripts.{is_script_refused}
use Rattle.shape_test.specs.Fits.{Fits}
use Rattle.image_run.specs.Ends.{IsAcceptedImage, IsRefusedFor, GainsImageAnswers, GainsSomeImageAnswers, LoadEnds, SaysFault, SaysOfLoad}
use Rattle.image_run.specs.Lines.{image_line}
use Rattle.image_run.specs.Names.{ImageNames}
use Rattle.image_run.specs.Taking.{RefusesImage, TakesImage}
use Rattle.image_run.specs.declared.end.ImageEnd.{ImageEnd}
use Rattle.image_run.specs.declared.end.ImageEnd.TheVariants.{Done, Refused}

abbrev pub End : Type 0
End = Result ImageEnd Stop

-- ---- the front of a file as an image

-- the file is refused where its front is
refused_whole : (schema : Schema) (all bytes : List ℕ) (fault : ImageFault) → bytes ≡ take (2 ^ 30 + 1) all → fault ≢ image.NoMemory → Refuses schema bytes fault → Refuses schema all fault
refused_whole schema all bytes image.TooLong front other R = front_long (2 ^ 30) all bytes front R
refused_whole schema all bytes image.NotImage front other R = subst (λ (b : List ℕ). Refuses schema b image.NotImage) (front_whole (2 ^ 30) all bytes front R.0) R
refused_whole schema all bytes image.NotShape front other R = subst (λ (b : List ℕ). Refuses schema b image.NotShape) (front_whole (2 ^ 30) all bytes front R.short) R
refused_whole schema all bytes image.NoMemory front other R = absurd (other refl)

-- no image that fits is refused
not_refused : (schema : Schema) (bytes : List ℕ) (slots : List Slot) (size : ℕ) (fault : ImageFault) → IsFitImage schema bytes slots size → IsRefusedFor schema bytes fault → ⊥
not_refused schema bytes slots size image.TooLong F R = let s = F.short in let l = R.1 in omega (arith, s, l)
not_refused schema bytes slots size image.NotImage F R = R.1.1 size slots F.image
not_refused schema bytes slots size image.NotShape F R =
    let m = one_meaning bytes R.1.size size R.1.slots slots R.1.image F.image in
    R.1.unfit (subst (λ (n : ℕ). Fits schema R.1.slots n) (sym m.0) (subst (λ (s : List Slot). Fits schema s size) (sym m.1) F.fits))
not_refused schema bytes slots size image.NoMemory F R = R.0 refl

accepted_not_refused : (schema : Schema) (bytes : List ℕ) (fault : ImageFault) → IsAcceptedImage schema bytes → IsRefusedFor schema bytes fault → ⊥
accepted_not_refused schema bytes fault A R = ∥∥₁_elim A (λ x y. absurd x) (λ (s : (h : List Point) × IsCubeImage schema bytes h). not_refused schema bytes s.1.slots (length s.0) fault s.1.fit R)

-- ---- ends

-- of no names none are first
take_none : (n : ℕ) → ◌≡◌ {A = List (List ℕ)} (take n []) []
take_none zero = refl
take_none (suc n) = refl

-- names that were opened are not more than these
not_more : (before after few more : List (List ℕ)) → after ≡ before ++ few → after ≡ before ++ more → length few < length more → ⊥
not_more before after few more one other less =
    let a = ap (λ (ns : List (List ℕ)). length ns) one ∙ length-append before few in
    let b = ap (λ (ns : List (List ℕ)). length ns) other ∙ length-append before more in
    omega (arith, a, b, less)

-- of some names those that were opened are no more
opened_few : (names opens unopened : List (List ℕ)) → names ≡ opens ++ unopened → length opens ≤ length names
opened_few names opens unopened are =
    let n = ap (λ (ns : List (List ℕ)). length ns) are ∙ length-append opens unopened in
    omega (arith, n)

not_err : (e : ImageEnd) (k : Stop) → ◌≡◌ {A = End} (Err k) (Ok e) → ⊥
not_err e k is = cc

module _ {P O : Type 0} (p : PlaceSeen P) (s : SinkSeen O) where
  -- names of which those that were opened are a front
  front_is : (a b : P) (inputs : List (List ℕ)) (k : Option Stop) (leaves : LeavesPlace p a b inputs [] k) → leaves.opens ≡ take (length leaves.opens) inputs
  front_is a b inputs k leaves = sym (ap (take (length leaves.opens)) leaves.inputs_are ∙ take-append_seam leaves.opens leaves.unopened)

  -- after names that were opened, and no read failed, the one more that was opened is the first at which one did
  fails_there : (a b c : P) (first : List (List ℕ)) (name : List ℕ) (k : Option Stop) (leaves : LeavesPlace p b c (name ∷ []) [] k) → p.opened b ≡ p.opened a ++ first → p.read_faults b ≡ p.read_faults a → p.opened c ≡ p.opened b ++ name ∷ [] → FailsAtLast p a (first ++ leaves.opens)
  fails_there a b c first name k leaves before quiet opened =
      fails_on p a b first leaves.opens before quiet (subst (FailsAtLast p b) (append_cancel_left (p.opened b) (name ∷ []) leaves.opens (sym opened ∙ leaves.opened)) (fails_at p b name))

  -- the faults of a stage that ended the run
  faults_ended : (a b : P) (out out' : O) (inputs : List (List ℕ)) (k : Stop) → LeavesPlace p a b inputs [] (Some k) → (k ≡ stop.WriteFault → Rose (s.faults out) (s.faults out')) → (k ≢ stop.WriteFault → k ≢ stop.NoMemory → k ≢ stop.PlanRefused → s.faults out' ≡ s.faults out) → s.name out' ≡ s.name out → KeepsFaults {T = ImageEnd} p s (at a out) (at b out') (Err k)
  faults_ended a b out out' inputs k stage rose quiet name = record {
    read = λ e. stage.read (ap (λ l. Some l) (err_is k stop.ReadFault e));
    write = λ e. rose (err_is k stop.WriteFault e);
    quiet_place = λ r m. stage.read_quiet (λ e. r (ap (λ l. Err l) (same_stop k stop.ReadFault e)));
    quiet_sink = λ w m l. quiet (λ e. w (ap (λ j. Err j) e)) (λ e. m (ap (λ j. Err j) e)) (λ e. l (ap (λ j. Err j) e));
    name = name;
    files = same_files p a b inputs (Some k) stage;
    created = same_created p a b inputs (Some k) stage;
    write_faults = stage.unwritten (nothing_made p a b inputs (Some k) stage);
  }

  module _ (name image script : List ℕ) where
    abbrev Two : List (List ℕ)
    Two = name ∷ image ∷ []

    abbrev Named : ImageNames
    Named = record { plan = name; image = image; script = script }

    abbrev Ends : P → P → O → O → End → Type 0
    Ends a b out out' result = LoadEnds p s (at a out) (at b out') Named result

    -- the plan was refused, or was not read
    pub ended_by_plan : (a b : P) (out out' : O) (k : Stop) → LeavesPlace p a b (name ∷ []) [] (Some k) → (k ≡ stop.ReadFault → p.opened b ≡ p.opened a ++ name ∷ []) → ReadsPlan s out out' (file_of (p.files a) name) (Err k) → Ends a b out out' (Err k)
    ended_by_plan a b out out' k leaves opened reads =
        let all : LeavesPlace p a b (name ∷ image ∷ script ∷ []) [] (Some k) = leaves_more p a b (name ∷ []) (image ∷ script ∷ []) [] k leaves in
        record {
          planned = record { plan = None; plan_is = tt; unplanned = λ e. plan_end k reads.ends; refused_plan = λ e. (refl, reads.refused (ap (λ l. Err l) (err_is k stop.PlanRefused e))) };
          done = λ e. absurd (not_err Done k e);
          refused_image = λ e. absurd (not_err Refused k e);
          refused = λ e. absurd (reads.ends.1 (err_is k stop.FeedRefused e));
          said = says_plan s out out' (file_of (p.files a) name) k reads;
          opened = (length leaves.opens, leaves.opened ∙ ap (λ ns. p.opened a ++ ns) (front_is a b (name ∷ []) (Some k) leaves));
          first = λ e. subst (FailsAtLast p a) (front_is a b (name ∷ []) (Some k) leaves) (fails_there a a b [] name (Some k) leaves (sym (append-nil _)) refl (opened (err_is k stop.ReadFault e)));
          opened_all = λ e. absurd (not_err Done k e);
          opened_last = λ e. let few = opened_few (name ∷ []) leaves.opens leaves.unopened leaves.inputs_are in absurd (not_more (p.opened a) (p.opened b) leaves.opens (name ∷ image ∷ script ∷ []) leaves.opened e (omega (arith, few)));
          faults = faults_ended a b out out' (name ∷ image ∷ script ∷ []) k all (λ e. absurd (reads.ends.0 e)) (λ w m l. (reads.silent (λ e. l (plan_is e))).faults) (named k reads);
          complete = λ r w. tt;
        }
      where
        plan_is : {k : Stop} → ◌≡◌ {A = Result Plan Stop} (Err k) (Err stop.PlanRefused) → k ≡ stop.PlanRefused
        plan_is e = cc

        said_name : (line : List ℕ) → PutsOrFails s out out' line → s.name out' ≡ s.name out
        said_name line (inl x) = x.name
        said_name line (inr x) = x.name

        named : (k : Stop) → ReadsPlan s out out' (file_of (p.files a) name) (Err k) → s.name out' ≡ s.name out
        named stop.NoMemory r = (r.silent (λ e. cc)).name
        named stop.PlanRefused r = let x = r.refused refl in said_name _ x.says
        named stop.ReadFault r = (r.silent (λ e. cc)).name
        named stop.WriteFault r = (r.silent (λ e. cc)).name
        named stop.FeedRefused r = (r.silent (λ e. cc)).name

    -- there is a plan
    module _ (a b c : P) (out mid : O) (pl : Plan) (leaves : LeavesPlace p a b (name ∷ []) [] None) (reads : ReadsPlan s out mid (file_of (p.files a) name) (Ok pl)) where
      quiet : Silent s out mid
      quiet = reads.silent (λ e. cc)

      whole : (k : Option Stop) → LeavesPlace p b c (image ∷ []) [] k → LeavesPlace p a c Two [] k
      whole k more = leaves_then p a b c (name ∷ []) (image ∷ []) [] k leaves more

      same : p.files b ≡ p.files a
      same = same_files p a b (name ∷ []) None leaves

      read_end : (k : Stop) → (k ≢ stop.PlanRefused) × (k ≢ stop.WriteFault) × (k ≢ stop.FeedRefused) → (k ≡ stop.ReadFault → ⊥) → (e : ImageEnd) → IsOrLacks e (Err k)
      read_end stop.NoMemory ends read e = inr refl
      read_end stop.PlanRefused ends read e = absurd (ends.0 refl)
      read_end stop.ReadFault ends read e = absurd (read refl)
      read_end stop.WriteFault ends read e = absurd (ends.1 refl)
      read_end stop.FeedRefused ends read e = absurd (ends.2 refl)

      -- it ends by a stop before the script is answered
      stopped : (out' : O) (k : Stop) → (k ≢ stop.PlanRefused) × (k ≢ stop.FeedRefused) → (opens : List (List ℕ)) × (p.opened c ≡ p.opened a ++ opens) × (length opens ≤ 2) → (opened : (n : ℕ) × (p.opened c ≡ p.opened a ++ take n (name ∷ image ∷ script ∷ []))) → (k ≡ stop.ReadFault → FailsAtLast p a (take opened.0 (name ∷ image ∷ script ∷ []))) → SaysOfLoad p s (at a out) (at c out') Named (Some pl) (Err k)
          → KeepsFaults {T = ImageEnd} p s (at a out) (at c out') (Err k) → (¬ Rose (p.read_faults a) (p.read_faults c) → ¬ Rose (s.faults out) (s.faults out') → (e : ImageEnd) → IsOrLacks e (Err k)) → Ends a c out out' (Err k)
      stopped out' k other few opened first said faults complete = record {
        planned = record { plan = Some pl; plan_is = reads.plan; unplanned = λ e. cc; refused_plan = λ e. absurd (other.0 (err_is k stop.PlanRefused e)) };
        done = λ e. absurd (not_err Done k e);
        refused_image = λ e. absurd (not_err Refused k e);
        refused = λ e. absurd (other.1 (err_is k stop.FeedRefused e));
        said = said;
        opened = opened;
        first = λ e. first (err_is k stop.ReadFault e);
        opened_all = λ e. absurd (not_err Done k e);
        opened_last = λ e. let least = few.2 in absurd (not_more (p.opened a) (p.opened c) few.0 (name ∷ image ∷ script ∷ []) few.1 e (omega (arith, least)));
        faults = faults;
        complete = λ r w files is. (λ x y. complete r w Done, λ fault x. complete r w Refused);
      }

      -- the image was not read
      pub ended_by_image : (k : Stop) → LeavesPlace p b c (image ∷ []) [] (Some k) → (k ≡ stop.ReadFault → p.opened c ≡ p.opened b ++ image ∷ []) → (k ≢ stop.PlanRefused) × (k ≢ stop.WriteFault) × (k ≢ stop.FeedRefused) → Ends a c out mid (Err k)
      unfolding leaves_more leaves_then
      ended_by_image k more opened ends =
          let two : LeavesPlace p a c Two [] (Some k) = leaves_then p a b c (name ∷ []) (image ∷ []) [] (Some k) leaves more in
          let all : LeavesPlace p a c (name ∷ image ∷ script ∷ []) [] (Some k) = leaves_more p a c Two (script ∷ []) [] k two in
          let front = front_is a c (name ∷ image ∷ script ∷ []) (Some k) all in
          stopped mid k (ends.0, ends.2) (two.opens, two.opened, opened_few Two two.opens two.unopened two.inputs_are) (length all.opens, all.opened ∙ ap (λ ns. p.opened a ++ ns) front)
          (λ e. subst (FailsAtLast p a) front (fails_there a b c leaves.opens image (Some k) more leaves.opened (leaves.read_quiet (λ e. cc)) (opened e))) (inl quiet)
          (faults_ended a c out mid (name ∷ image ∷ script ∷ []) k all (λ e. absurd (ends.1 e)) (λ w m l. quiet.faults) quiet.name) (λ r w. read_end k ends (λ e. r (all.read (ap (λ l. Some l) e))))

      -- the image was read
      module _ (bytes : List ℕ) (more : LeavesPlace p b c (image ∷ []) [] None) (front : Told (file_of (p.files b) image) (λ all. bytes ≡ take (2 ^ 30 + 1) all)) where
        of_file : (files : Files) → p.files a ≡ Some files → bytes ≡ take (2 ^ 30 + 1) (file_or_empty files image)
        of_file files is = subst (λ (f : Option Files). Told (file_of f image) (λ all. bytes ≡ take (2 ^ 30 + 1) all)) (same ∙ is) front

        both : LeavesPlace p a c Two [] None
        both = whole None more

        opened_plan : p.opened b ≡ p.opened a ++ name ∷ []
        opened_plan = leaves.opened ∙ ap (λ ns. p.opened a ++ ns) (sym (all_opened p a b (name ∷ []) [] leaves))

        opened_two : p.opened c ≡ p.opened a ++ Two
        opened_two = both.opened ∙ ap (λ ns. p.opened a ++ ns) (sym (all_opened p a c Two [] both))

        -- it is refused, of which this was said
        refused_for : (out' : O) (Says : List ℕ → Type 0) (More : List ℕ → Type 0) → ((line : List ℕ) → Says line → More line) → RefusesImage s mid out' pl.schema bytes Says → SaysFault p s (at a out) (at c out') Named pl.schema More
        refused_for out' Says More on R = record {
          fault = R.fault;
          refuses = λ files is. (R.of_bytes, refused_whole pl.schema (file_or_empty files image) bytes R.fault (of_file files is) R.of_bytes R.refuses);
          says = on (image_line R.fault) R.says;
        }

        pub ended_by_refusal : (out' : O) → RefusesImage s mid out' pl.schema bytes (Puts s mid out') → Ends a c out out' (Ok Refused)
        ended_by_refusal out' R =
            let F = refused_for out' (Puts s mid out') (Puts s out out') (puts_after s out mid out' quiet) R in
            record {
              planned = record { plan = Some pl; plan_is = reads.plan; unplanned = λ e. cc; refused_plan = λ e. absurd (ok_not_err Refused stop.PlanRefused e) };
              done = λ e. cc;
              refused_image = λ e. (pl, refl, F, opened_two);
              refused = λ e. absurd (ok_not_err Refused stop.FeedRefused e);
              said = inr (inl (record { fault = F.fault; refuses = F.refuses; says = inl F.says }));
              opened = (2, opened_two);
              first = λ e. absurd (ok_not_err Refused stop.ReadFault e);
              opened_all = λ e. cc;
              opened_last = λ e. absurd (not_more (p.opened a) (p.opened c) Two (name ∷ image ∷ script ∷ []) opened_two e (omega arith));
              faults = record {
                read = λ e. absurd (ok_not_err Refused stop.ReadFault e);
                write = λ e. absurd (ok_not_err Refused stop.WriteFault e);
                quiet_place = λ r m. both.read_quiet (λ e. cc);
                quiet_sink = λ w m l. F.says.faults;
                name = F.says.name;
                files = same_files p a c Two None both;
                created = same_created p a c Two None both;
                write_faults = both.unwritten (nothing_made p a c Two None both);
              };
              complete = λ r w files is. (
                λ x y. absurd (accepted_not_refused pl.schema (file_or_empty files image) F.fault x (F.refuses files is)),
                λ fault x. inl refl,
              );
            }

        -- saying that failed, or memory was wanted
        pub ended_unsaid : (out' : O) → RefusesImage s mid out' pl.schema bytes (FailsToPut s mid out') → Ends a c out out' (Err stop.WriteFault)
        ended_unsaid out' R =
            let F = refused_for out' (FailsToPut s mid out') (FailsToPut s out out') (fails_after s out mid out' quiet) R in
            let all : LeavesPlace p a c (name ∷ image ∷ script ∷ []) [] (Some stop.WriteFault) = leaves_more p a c Two (script ∷ []) [] stop.WriteFault (leaves_ended p a c Two (Some stop.WriteFault) (λ e. cc) both) in
            stopped out' stop.WriteFault ((λ e. cc), (λ e. cc)) (Two, opened_two, omega arith) (2, opened_two) (λ e. cc) (inr (inl (record { fault = F.fault; refuses = F.refuses; says = inr F.says })))
            (faults_ended a c out out' (name ∷ image ∷ script ∷ []) stop.WriteFault all (λ e. F.says.faults) (λ x m l. absurd (x refl)) F.says.name) (λ r w e. absurd (w F.says.faults))

        pub ended_lacking : (out' : O) → Silent s mid out' → Ends a c out out' (Err stop.NoMemory)
        ended_lacking out' silent =
            let all : LeavesPlace p a c (name ∷ image ∷ script ∷ []) [] (Some stop.NoMemory) = leaves_more p a c Two (script ∷ []) [] stop.NoMemory (leaves_ended p a c Two (Some stop.NoMemory) (λ e. cc) both) in
            let still = silent_after s out mid out' quiet silent in
            stopped out' stop.NoMemory ((λ e. cc), (λ e. cc)) (Two, opened_two, omega arith) (2, opened_two) (λ e. cc) (inl still)
            (faults_ended a c out out' (name ∷ image ∷ script ∷ []) stop.NoMemory all (λ e. cc) (λ x m l. absurd (m refl)) still.name) (λ r w e. inr refl)

        -- by how taking it ended
        pub ended_taking : (out' : O) (k : Stop) → TakesImage s mid out' pl.schema bytes (Err k) → Ends a c out out' (Err k)
        ended_taking out' stop.NoMemory T = ended_lacking out' T
        ended_taking out' stop.PlanRefused T = absurd T
        ended_taking out' stop.ReadFault T = absurd T
        ended_taking out' stop.WriteFault T = ended_unsaid out' T
        ended_taking out' stop.FeedRefused T = absurd T

        -- the script was answered over its cube
        module _ (d : P) (then out' : O) (cube : Cube) (K : IsCubeOfImage pl.schema bytes cube) (silent : Silent s mid then) where
          abbrev counted : List Point → Type 0
          counted = Counts (spot_weight cube.schema cube.arena) cube.size

          still : Silent s out then
          still = silent_after s out mid then quiet silent

          told : (files : Files) → p.files a ≡ Some files → p.files c ≡ Some files
          told files is = same_files p a c Two None both ∙ is

          all_of : (files : Files) → p.files a ≡ Some files → bytes ≡ file_or_empty files image
          all_of files is = front_whole (2 ^ 30) (file_or_empty files image) bytes (of_file files is) K.fit.short

          accepted : (files : Files) → p.files a ≡ Some files → IsAcceptedImage pl.schema (file_or_empty files image)
          accepted files is = subst (IsAcceptedImage pl.schema) (all_of files is) (∥∥₁_map cube.counted (λ (h : (h : List Point) × CubeCounts cube h). (h.0, (K.counts h.0).0 h.1)))

          counts_it : (files : Files) → p.files a ≡ Some files → (h : List Point) → IsCubeImage pl.schema (file_or_empty files image) h → counted h
          counts_it files is h I = Counts-points cube.schema cube.arena cube.root.0 cube.size h ((K.counts h).1 (subst (λ (b : List ℕ). IsCubeImage pl.schema b h) (sym (all_of files is)) I))

          module _ (result : Result (Unit {0}) Stop) (answers : AnswersFile p s (at c then) (at d out') (seen_view pl.schema OwnsAllButRoot counted) script result) (faults : KeepsFaults p s (at c then) (at d out') result) where
            all_replies : (files : Files) → p.files a ≡ Some files → ((h : List Point) → counted h → GainsReplies pl.schema OwnsAllButRoot h (length h) false (s.held then) (s.held out') (asked pl.schema (lines (file_or_empty files script)))) → GainsImageAnswers s out out' pl.schema (file_or_empty files image) (file_or_empty files script)
            all_replies files is each = record {
              accepted = accepted files is;
              gains = λ h I. subst (λ (o : Option (List ℕ)). GainsReplies pl.schema OwnsAllButRoot h (length h) false o (s.held out') (asked pl.schema (lines (file_or_empty files script)))) still.held (each h (counts_it files is h I));
            }

            some_replies : (files : Files) → p.files a ≡ Some files → GainsSomeImageAnswers s out out' pl.schema (file_or_empty files image) (file_or_empty files script) (is_lacking result)
            some_replies files is = record {
              accepted = accepted files is;
              gains = λ h I. subst (λ (o : Option (List ℕ)). GainsFront pl.schema OwnsAllButRoot h (length h) (is_lacking result) o (s.held out') (asked pl.schema (lines (file_or_empty files script)))) still.held (answers.part files (told files is) h (counts_it files is h I));
            }

            abbrev opened_three : (k : ℕ) × (p.opened d ≡ p.opened a ++ take k (name ∷ image ∷ script ∷ []))
            opened_three = let o = answers.opened_once in (suc (suc o.0), o.1 ∙ (ap (λ ns. ns ++ take o.0 (script ∷ [])) opened_two ∙ append_assoc (p.opened a) Two (take o.0 (script ∷ []))))

            -- after the image the script is the first at which a read may have failed; where it was not opened it is
            -- the image
            first_three : FailsAtLast p a (take (opened_three.0) (name ∷ image ∷ script ∷ []))
            first_three = at_name answers.opened_once.0
              where
                at_name : (n : ℕ) → FailsAtLast p a (name ∷ image ∷ take n (script ∷ []))
                at_name zero = fails_on p a b (name ∷ []) (image ∷ []) opened_plan (leaves.read_quiet (λ e. cc)) (fails_at p b image)
                at_name (suc n) = subst (λ (ns : List (List ℕ)). FailsAtLast p a (name ∷ image ∷ script ∷ ns)) (sym (take_none n)) (fails_on p a c Two (script ∷ []) opened_two (both.read_quiet (λ e. cc)) (fails_at p c script))

            no_refusal : (fault : ImageFault) (files : Files) (is : p.files a ≡ Some files) (e : ImageEnd) (r : End) → IsRefusedFor pl.schema (file_or_empty files image) fault → IsOrLacks e r
            no_refusal fault files is e r x = absurd (accepted_not_refused pl.schema (file_or_empty files image) fault (accepted files is) x)

            read_at_first : Rose (p.read_faults c) (p.read_faults d) → Rose (p.read_faults a) (p.read_faults d)
            read_at_first = subst (λ (n : ℕ). Rose n (p.read_faults d)) (both.read_quiet (λ e. cc))

            write_at_first : Rose (s.faults then) (s.faults out') → Rose (s.faults out) (s.faults out')
            write_at_first = subst (λ (n : ℕ). Rose n (s.faults out')) still.faults

            faults_of : (r : End) → ((k : Stop) → r ≡ Err k → result ≡ Err k) → ((k : Stop) → result ≡ Err k → r ≡ Err k) → KeepsFaults p s (at a out) (at d out') r
            faults_of r to from = record {
              read = λ e. read_at_first (faults.read (to stop.ReadFault e));
              write = λ e. write_at_first (faults.write (to stop.WriteFault e));
              quiet_place = λ x m. faults.quiet_place (λ e. x (from stop.ReadFault e)) (λ e. m (from stop.NoMemory e)) ∙ both.read_quiet (λ e. cc);
              quiet_sink = λ x m l. faults.quiet_sink (λ e. x (from stop.WriteFault e)) (λ e. m (from stop.NoMemory e)) (λ e. l (from stop.PlanRefused e)) ∙ still.faults;
              name = faults.name ∙ still.name;
              files = faults.files ∙ same_files p a c Two None both;
              created = faults.created ∙ same_created p a c Two None both;
              write_faults = faults.write_faults ∙ both.unwritten (nothing_made p a c Two None both);
            }

          ended_by_answers : (x : Unit {0}) → AnswersFile p s (at c then) (at d out') (seen_view pl.schema OwnsAllButRoot counted) script (Ok x) → KeepsFaults p s (at c then) (at d out') (Ok x) → Ends a d out out' (Ok Done)
          ended_by_answers x answers faults = record {
            planned = record { plan = Some pl; plan_is = reads.plan; unplanned = λ e. cc; refused_plan = λ e. absurd (ok_not_err Done stop.PlanRefused e) };
            done = λ e. (pl, refl, λ files is. let w = answers.done files (told files is) refl in (all_replies (Ok x) answers faults files is w.0, w.1));
            refused_image = λ e. cc;
            refused = λ e. absurd (ok_not_err Done stop.FeedRefused e);
            said = inr (inr (some_replies (Ok x) answers faults));
            opened = opened_three (Ok x) answers faults;
            first = λ e. absurd (ok_not_err Done stop.ReadFault e);
            opened_all = λ e. answers.opened_it refl ∙ (ap (λ ns. ns ++ script ∷ []) opened_two ∙ append_assoc (p.opened a) Two (script ∷ []));
            opened_last = λ e. (pl, refl, accepted);
            faults = faults_of (Ok x) answers faults (Ok Done) (λ k e. absurd (ok_not_err Done k e)) (λ k e. cc);
            complete = λ r w files is. (λ y z. inl refl, λ fault y. no_refusal (Ok x) answers faults fault files is Refused (Ok Done) y);
          }

          ended_well : (k : Stop) (answers : AnswersFile p s (at c then) (at d out') (seen_view pl.schema OwnsAllButRoot counted) script (Err k)) (faults : KeepsFaults {T = Unit {0}} p s (at c then) (at d out') (Err k)) → ¬ Rose (p.read_faults a) (p.read_faults d) → ¬ Rose (s.faults out) (s.faults out') → (files : Files) → p.files a ≡ Some files → is_script_refused pl.schema (file_or_empty files script) ≡ false → IsOrLacks Done (Err k)
          ended_well stop.NoMemory answers faults r w files is good = inr refl
          ended_well stop.PlanRefused answers faults r w files is good = absurd (answers.form refl)
          ended_well stop.ReadFault answers faults r w files is good = absurd (r (read_at_first (Err stop.ReadFault) answers faults (faults.read refl)))
          ended_well stop.WriteFault answers faults r w files is good = absurd (w (write_at_first (Err stop.WriteFault) answers faults (faults.write refl)))
          ended_well stop.FeedRefused answers faults r w files is good = let bad = (answers.refused files (told files is) refl).1 in let z : true ≡ false = sym bad ∙ good in absurd cc

          same_lack : (k : Stop) → is_lacking (ended_so (Unit {0}) k) ≡ is_lacking (ended_so ImageEnd k)
          same_lack stop.NoMemory = refl
          same_lack stop.PlanRefused = refl
          same_lack stop.ReadFault = refl
          same_lack stop.WriteFault = refl
          same_lack stop.FeedRefused = refl

          ended_answering : (k : Stop) → AnswersFile p s (at c then) (at d out') (seen_view pl.schema OwnsAllButRoot counted) script (Err k) → KeepsFaults {T = Unit {0}} p s (at c then) (at d out') (Err k) → Ends a d out out' (Err k)
          ended_answering k answers faults = record {
            planned = record { plan = Some pl; plan_is = reads.plan; unplanned = λ e. cc; refused_plan = λ e. absurd (answers.form (ap (λ l. Err l) (err_is k stop.PlanRefused e))) };
            done = λ e. absurd (not_err Done k e);
            refused_image = λ e. absurd (not_err Refused k e);
            refused = λ e. (pl, refl, λ files is. let w = answers.refused files (told files is) (ap (λ l. Err l) (err_is k stop.FeedRefused e)) in (all_replies (Err k) answers faults files is w.0, w.1));
            said = inr (inr (λ files is. subst (GainsSomeImageAnswers s out out' pl.schema (file_or_empty files image) (file_or_empty files script)) (same_lack k) (some_replies (Err k) answers faults files is)));
            opened = opened_three (Err k) answers faults;
            first = λ e. first_three (Err k) answers faults;
            opened_all = λ e. absurd (not_err Done k e);
            opened_last = λ e. (pl, refl, accepted);
            faults = faults_of (Err k) answers faults (Err k) (λ l e. ap (λ m. Err m) (err_is k l e)) (λ l e. ap (λ m. Err m) (err_is k l e));
            complete = λ r w files is. (λ y z. ended_well k answers faults r w files is z, λ fault y. no_refusal (Err k) answers faults fault files is Refused (Err k) y);
          }

          -- as the cube's schema says it, which is the plan's
          pub ended_with : (x : Unit {0}) → AnswersFile p s (at c then) (at d out') (seen_view cube.schema OwnsAllButRoot counted) script (Ok x) → KeepsFaults {T = Unit {0}} p s (at c then) (at d out') (Ok x) → Ends a d out out' (Ok Done)
          ended_with x answers faults = ended_by_answers x (subst (λ (z : Schema). AnswersFile p s (at c then) (at d out') (seen_view z OwnsAllButRoot counted) script (Ok x)) K.of_schema answers) faults

          pub ended_without : (k : Stop) → AnswersFile p s (at c then) (at d out') (seen_view cube.schema OwnsAllButRoot counted) script (Err k) → KeepsFaults {T = Unit {0}} p s (at c then) (at d out') (Err k) → Ends a d out out' (Err k)
          ended_without k answers faults = ended_answering k (subst (λ (z : Schema). AnswersFile p s (at c then) (at d out') (seen_view z OwnsAllButRoot counted) script (Err k)) K.of_schema answers) faults
