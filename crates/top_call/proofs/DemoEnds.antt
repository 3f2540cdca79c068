-- How a run of the form `demo` ends, by how its feed was loaded and its script answered.
use Rattle.std.proofs.Common.{◌≡◌, ◌≢◌, ◌≤◌, ℕ, zero, suc, Bool, true, false, ◌||◌, List, [], ◌∷◌, ◌++◌, take, length, Result, Ok, Err, Some, inl, inr, refl, sym, ◌∙◌, ap, subst, arith, length-append, append_assoc}
use Rattle.std.proofs.Math.Bool.{or-true}
use Rattle.std.proofs.lemmas.List.{append-nil}
use Rattle.cube_store.specs.Numbers.{OwnsAllButRoot}
use Rattle.cube_view.specs.Points.{Point}
use Rattle.cube_view.specs.declared.schema.Schema.{Schema}
use Rattle.feed_reader.specs.Feeds.{accepted, is_feed_refused}
use Rattle.outer_io.specs.Faults.{Rose}
use Rattle.outer_io.specs.Files.{Files, file_or_empty}
use Rattle.outer_io.specs.Lines.{lines}
use Rattle.run_files.proofs.ScriptAnswers.{nothing_gained}
use Rattle.run_files.specs.Answering.{AnswersFile}
use Rattle.run_files.specs.FaultCounts.{KeepsFaults}
use Rattle.run_files.specs.Outside.{at, PlaceSeen, SinkSeen}
use Rattle.run_files.specs.Stops.{is_lacking, IsOrLacks}
use Rattle.run_files.specs.Views.{seen_view}
use Rattle.run_files.specs.declared.stop.Stop.{Stop}
use Rattle.run_files.specs.declared.stop.Stop.TheVariants.{NoMemory, PlanRefused, ReadFault, WriteFault, FeedRefused}
use Rattle.session_core.specs.Answered.{GainsReplies, GainsFront}
use Rattle.session_core.specs.Asked.{asked}
use Rattle.session_core.specs.Scripts.{is_script_refused}
use Rattle.top_call.specs.BuiltIn.{built_in}
use Rattle.top_call.specs.Demo.{demo_of, DemoEnds, is_refused, IsRefusedOrEarlier}
use Rattle.top_call.specs.Loading.{Loads}

abbrev End : Type 0
End = Result (Unit {0}) Stop

both_ways : {P : Type 0} (b : Bool) → b ≡ true → b ≡ false → P
both_ways b t f = absurd (apart (sym t ∙ f))
  where
    apart : true ≡ false → ⊥
    apart e = cc

refused_feed : (feed script : List ℕ) → is_feed_refused built_in feed ≡ true → is_refused feed script ≡ true
unfolding is_refused
refused_feed feed script bad = ap (λ b. b || is_script_refused built_in script) bad

refused_script : (feed script : List ℕ) → is_script_refused built_in script ≡ true → is_refused feed script ≡ true
unfolding is_refused
refused_script feed script bad = ap (λ b. is_feed_refused built_in feed || b) bad ∙ or-true (is_feed_refused built_in feed)

taken_both : (feed script : List ℕ) → is_feed_refused built_in feed ≡ false → is_script_refused built_in script ≡ false → is_refused feed script ≡ false
unfolding is_refused
taken_both feed script good small = ap (λ b. b || is_script_refused built_in script) good ∙ small

-- a run that is not done ended early
ends_early : (end : End) → end ≢ Ok tt → end ≢ Err PlanRefused → IsRefusedOrEarlier end
ends_early (Ok x) done form = absurd (done refl)
ends_early (Err NoMemory) done form = inr (inl refl)
ends_early (Err PlanRefused) done form = absurd (form refl)
ends_early (Err ReadFault) done form = inr (inr (inl refl))
ends_early (Err WriteFault) done form = inr (inr (inr refl))
ends_early (Err FeedRefused) done form = inl refl

-- one that has no other cause is done, or memory was wanted
ends_well : (end : End) → end ≢ Err PlanRefused → end ≢ Err ReadFault → end ≢ Err WriteFault → end ≢ Err FeedRefused → IsOrLacks tt end
ends_well (Ok x) form read write refused = inl refl
ends_well (Err NoMemory) form read write refused = inr refl
ends_well (Err PlanRefused) form read write refused = absurd (form refl)
ends_well (Err ReadFault) form read write refused = absurd (read refl)
ends_well (Err WriteFault) form read write refused = absurd (write refl)
ends_well (Err FeedRefused) form read write refused = absurd (refused refl)

take_none : {A : Type 0} (n : ℕ) → take {A = A} n [] ≡ []
take_none zero = refl
take_none (suc n) = refl

-- what was opened, the feed at most
opened_feed : (before after : List (List ℕ)) (feed script : List ℕ) → (n : ℕ) × (after ≡ before ++ take n (feed ∷ [])) → (k : ℕ) × (after ≡ before ++ take k (feed ∷ script ∷ []))
opened_feed before after feed script (zero, e) = (0, e)
opened_feed before after feed script (suc n, e) = (1, e ∙ ap (λ ns. before ++ (feed ∷ ns)) (take_none n))

-- what was opened, the feed and then the script at most
opened_script : (before then after : List (List ℕ)) (feed script : List ℕ) → then ≡ before ++ feed ∷ [] → (n : ℕ) × (after ≡ then ++ take n (script ∷ [])) → (k : ℕ) × (after ≡ before ++ take k (feed ∷ script ∷ []))
opened_script before then after feed script first (n, e) =
    (suc n, e ∙ ap (λ ns. ns ++ take n (script ∷ [])) first ∙ append_assoc before (feed ∷ []) (take n (script ∷ [])))

one_name : (n : ℕ) (name : List ℕ) → length (take n (name ∷ [])) ≤ 1
one_name zero name = omega arith
one_name (suc n) name = let e = ap (λ (ns : List (List ℕ)). length ns) (take_none {A = List ℕ} n) in omega (arith, e)

-- one name is not two
not_two : {P : Type 0} (before after : List (List ℕ)) (feed script : List ℕ) → (n : ℕ) × (after ≡ before ++ take n (feed ∷ [])) → after ≡ before ++ feed ∷ script ∷ [] → P
not_two before after feed script (n, one) two =
    let a = ap (λ (ns : List (List ℕ)). length ns) one ∙ length-append before (take n (feed ∷ [])) in
    let b = ap (λ (ns : List (List ℕ)). length ns) two ∙ length-append before (feed ∷ script ∷ []) in
    let c = one_name n feed in
    absurd (omega (arith, a, b, c))

module _ {P O : Type 0} (p : PlaceSeen P) (s : SinkSeen O) (feed script : List ℕ) where
  abbrev Ends : P → P → O → O → End → Type 0
  Ends place place' out out' end = DemoEnds p s place place' out out' (demo_of feed script) end

  -- a run that ended with its feed, which was not loaded
  ended_by_feed : (place place' : P) (out : O) (counts : List Point → Type 0) (k : Stop) → Loads p place place' feed built_in counts (Err k) → Ends place place' out out (Err k)
  ended_by_feed place place' out counts k loads =
      record {
        form = λ e. loads.ends.1 (stop_is e);
        done = λ fs told e. cc;
        part = λ fs told. nothing_gained built_in OwnsAllButRoot _ _ _ (s.held out) _;
        all_before_too_much = λ fs told e good. both_ways (is_feed_refused built_in (file_or_empty fs feed)) (loads.refused fs told e) good;
        refused = λ fs told e. refused_feed (file_or_empty fs feed) (file_or_empty fs script) (loads.refused fs told e);
        refused_or_earlier = λ fs told bad. ends_early (Err k) (λ e. cc) (λ e. loads.ends.1 (stop_is e));
        refused_feed = λ fs told bad. refl;
        complete = λ fs told good read write. ends_well (Err k) (λ e. loads.ends.1 (stop_is e)) (λ e. read (loads.read.rose e)) (λ e. loads.ends.0 (stop_is e))
            (λ e. both_ways (is_refused (file_or_empty fs feed) (file_or_empty fs script)) (refused_feed (file_or_empty fs feed) (file_or_empty fs script) (loads.refused fs told e)) good);
        opened = opened_feed (p.opened place) (p.opened place') feed script loads.opened_once;
        opened_both = λ e. cc;
        read_before = λ fs told two. not_two (p.opened place) (p.opened place') feed script loads.opened_once two;
        untouched = λ e. refl;
        faults = record {
          read = loads.read.rose;
          write = λ e. absurd (loads.ends.0 (stop_is e));
          quiet_place = λ r m. loads.read.quiet r;
          quiet_sink = λ w m l. refl;
          name = refl;
          files = loads.files;
          created = loads.created;
          write_faults = loads.write_faults;
        };
      }
    where
      stop_is : {j : Stop} → ◌≡◌ {A = End} (Err k) (Err j) → k ≡ j
      stop_is e = cc

  -- a run that found no memory for its schema
  pub ended_at_once : (place : P) (out : O) → Ends place place out out (Err NoMemory)
  ended_at_once place out =
      record {
        form = λ e. cc;
        done = λ fs told e. cc;
        part = λ fs told. nothing_gained built_in OwnsAllButRoot _ _ _ (s.held out) _;
        all_before_too_much = λ fs told e good. cc;
        refused = λ fs told e. cc;
        refused_or_earlier = λ fs told bad. inr (inl refl);
        refused_feed = λ fs told bad. refl;
        complete = λ fs told good read write. inr refl;
        opened = (0, sym (append-nil (p.opened place)));
        opened_both = λ e. cc;
        read_before = λ fs told two. not_two (p.opened place) (p.opened place) feed script (0, sym (append-nil (p.opened place))) two;
        untouched = λ e. refl;
        faults = record { read = λ e. cc; write = λ e. cc; quiet_place = λ r m. refl; quiet_sink = λ w m l. refl; name = refl; files = refl; created = refl; write_faults = refl };
      }

  -- a run that came to its script
  module _ (place mid place' : P) (out out' : O) (counts : List Point → Type 0) (end : End) (loads : Loads p place mid feed built_in counts (Ok tt)) (answers : AnswersFile p s (at mid out) (at place' out') (seen_view built_in OwnsAllButRoot counts) script end) (faults : KeepsFaults p s (at mid out) (at place' out') end) where
    told_mid : (fs : Files) → p.files place ≡ Some fs → p.files mid ≡ Some fs
    told_mid fs told = loads.files ∙ told

    -- what holds of each list that is counted holds of the accepted records
    of_accepted : (P : List Point → Type 0) (fs : Files) → p.files place ≡ Some fs → ((h : List Point) → counts h → P h) → P (accepted built_in (file_or_empty fs feed))
    of_accepted P fs told each = each (accepted built_in (file_or_empty fs feed)) (loads.loaded fs told).1

    abbrev All : (fs : Files) → List Point → Type 0
    All fs h = GainsReplies built_in OwnsAllButRoot h (length h) false (s.held out) (s.held out') (asked built_in (lines (file_or_empty fs script)))

    abbrev Some_of : Bool → (fs : Files) → List Point → Type 0
    Some_of lacks fs h = GainsFront built_in OwnsAllButRoot h (length h) lacks (s.held out) (s.held out') (asked built_in (lines (file_or_empty fs script)))

    none_refused : (fs : Files) → p.files place ≡ Some fs → end ≡ Ok tt → is_refused (file_or_empty fs feed) (file_or_empty fs script) ≡ false
    none_refused fs told e = taken_both (file_or_empty fs feed) (file_or_empty fs script) (loads.loaded fs told).0 (answers.done fs (told_mid fs told) e).1

    script_refused : (fs : Files) → p.files place ≡ Some fs → end ≡ Err FeedRefused → is_refused (file_or_empty fs feed) (file_or_empty fs script) ≡ true
    script_refused fs told e = refused_script (file_or_empty fs feed) (file_or_empty fs script) (answers.refused fs (told_mid fs told) e).1

    read_quiet : p.read_faults mid ≡ p.read_faults place
    read_quiet = loads.read.quiet (λ e. cc)

    faults_by_script : KeepsFaults p s (at place out) (at place' out') end
    faults_by_script = record {
      read = λ e. subst (λ (n : ℕ). Rose n (p.read_faults place')) read_quiet (faults.read e);
      write = faults.write;
      quiet_place = λ r m. faults.quiet_place r m ∙ read_quiet;
      quiet_sink = faults.quiet_sink;
      name = faults.name;
      files = faults.files ∙ loads.files;
      created = faults.created ∙ loads.created;
      write_faults = faults.write_faults ∙ loads.write_faults;
    }

    ended_by_script : Ends place place' out out' end
    ended_by_script =
        record {
          form = answers.form;
          done = λ fs told e. (of_accepted (All fs) fs told (answers.done fs (told_mid fs told) e).0, none_refused fs told e);
          part = λ fs told. of_accepted (Some_of (is_lacking end) fs) fs told (answers.part fs (told_mid fs told));
          all_before_too_much = λ fs told e good. of_accepted (All fs) fs told (answers.refused fs (told_mid fs told) e).0;
          refused = script_refused;
          refused_or_earlier = λ fs told bad. ends_early end (λ e. both_ways (is_refused (file_or_empty fs feed) (file_or_empty fs script)) bad (none_refused fs told e)) answers.form;
          refused_feed = λ fs told bad. both_ways (is_feed_refused built_in (file_or_empty fs feed)) bad (loads.loaded fs told).0;
          complete = λ fs told good read write. ends_well end answers.form (λ e. read (faults_by_script.read e)) (λ e. write (faults_by_script.write e))
              (λ e. both_ways (is_refused (file_or_empty fs feed) (file_or_empty fs script)) (script_refused fs told e) good);
          opened = opened_script (p.opened place) (p.opened mid) (p.opened place') feed script loads.opened_it answers.opened_once;
          opened_both = λ e. answers.opened_it e ∙ ap (λ ns. ns ++ script ∷ []) loads.opened_it ∙ append_assoc (p.opened place) (feed ∷ []) (script ∷ []);
          read_before = λ fs told two. (loads.loaded fs told).0;
          untouched = λ e. answers.untouched (e ∙ sym loads.opened_it);
          faults = faults_by_script;
        }

-- a run whose cube has a schema that is the built-in one
module _ {P O : Type 0} (p : PlaceSeen P) (s : SinkSeen O) (feed script : List ℕ) (place mid place' : P) (out out' : O) (schema : Schema) (made : schema ≡ built_in) (counts : List Point → Type 0) where
  pub ends_by_feed : (k : Stop) → Loads p place place' feed schema counts (Err k) → DemoEnds p s place place' out out (demo_of feed script) (Err k)
  ends_by_feed k loads = ended_by_feed p s feed script place place' out counts k (subst (λ (z : Schema). Loads p place place' feed z counts (Err k)) made loads)

  pub ends_by_script : (schema' : Schema) → schema' ≡ schema → (end : End) → Loads p place mid feed schema counts (Ok tt) → AnswersFile p s (at mid out) (at place' out') (seen_view schema' OwnsAllButRoot counts) script end → KeepsFaults p s (at mid out) (at place' out') end → DemoEnds p s place place' out out' (demo_of feed script) end
  ends_by_script schema' same end loads answers faults =
      ended_by_script p s feed script place mid place' out out' counts end (subst (λ (z : Schema). Loads p place mid feed z counts (Ok tt)) made loads)
      (subst (λ (z : Schema). AnswersFile p s (at mid out) (at place' out') (seen_view z OwnsAllButRoot counts) script end) (same ∙ made) answers) faults
