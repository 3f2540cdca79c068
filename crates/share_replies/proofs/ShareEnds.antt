-- How adding the replies of shares ends, by how its stages ended.
use Rattle.std.proofs.Common.{◌≡◌, ◌≢◌, ◌⊎◌, ℕ, zero, suc, ◌+◌, ◌≤◌, ◌<◌, List, [], ◌∷◌, ◌++◌, length, take, map, get_or, Option, Some, None, Result, Ok, Err, IfOk, inl, inr, refl, sym, ◌∙◌, ap, subst, arith}
use Rattle.std.specs.Prelude.{IfErr, IsOk, is_ok}
use Rattle.std.specs.Result.{result_err}
use Rattle.std.proofs.lemmas.List.{append-nil, map-append, take-map, take_all}
use Rattle.std.proofs.lemmas.List.Elements.{All-append, All-cons, All-head, All-nil, All-tail}
use Rattle.cube_schema.specs.Drafts.{draft_of}
use Rattle.cube_schema.specs.Meaning.{plan_meaning}
use Rattle.cube_schema.specs.declared.fault.PlanFault.{PlanFault}
use Rattle.cube_schema.specs.declared.plan.Plan.{Plan}
use Rattle.outer_io.specs.Files.{Files, file_or_empty}
use Rattle.outer_io.specs.Lines.{input_limit}
use Rattle.outer_io.specs.Told.{Told}
use Rattle.recount.proofs.AuditTexts.{fails_one, told_any}
use Rattle.reply_json.specs.declared.reply.Reply.{Reply}
use Rattle.run_files.proofs.Apart.{err_is, ok_not_err, same_stop, stopped}
use Rattle.run_files.proofs.Fronts.{no_fault, told_long}
use Rattle.run_files.proofs.SinkPuts.{fails_after, puts_after, silent_after}
use Rattle.run_files.proofs.Stages.{fails_on, leaves_ended, leaves_reading, leaves_then, same_files}
use Rattle.run_files.specs.Leaving.{FailsAtLast, LeavesPlace}
use Rattle.run_files.specs.Outside.{FailsToPut, file_of, PlaceSeen, Puts, Silent, SinkSeen}
use Rattle.run_files.specs.Planned.{ReadsPlan, RefusesPlan}
use Rattle.run_files.specs.declared.stop.Stop.{Stop}
use Rattle.run_files.specs.declared.stop.Stop.TheVariants.{NoMemory, PlanRefused, ReadFault, WriteFault, FeedRefused}
use Rattle.share_replies.specs.Causes.{EndsAtPlan, EndsByFiles, IsOutsideEnd, LeavesSink, OpensShares, ReadsFiles, ReadsFront, ReadsReplies, stop_of_file}
use Rattle.share_replies.specs.Ends.{FailsToSayShares, FileNames, RefusesShare, SaysShares, SaysSums, SaysWrong, TakesShares}
use Rattle.share_replies.specs.Lengths.{AreFilesShort, HasLongFile}
use Rattle.share_replies.specs.Refusals.{DecidesScript, totals_of}
use Rattle.share_replies.specs.Texts.{PutsFirst, totals_text, wrong_line}
use Rattle.share_replies.specs.declared.adding.Outcome.{Outcome}
use Rattle.share_replies.specs.declared.fault.FileFault.{FileFault}
use Rattle.share_replies.specs.declared.fault.FileFault.TheVariants as file
use Rattle.share_replies.specs.declared.fault.SharesFault.{SharesFault}
use Rattle.share_replies.specs.declared.fault.SharesFault.TheVariants as shares
use Rattle.share_replies.specs.declared.fault.WrongReply.{WrongReply}
use Rattle.share_replies.specs.declared.summed.Summed.{Summed}
use Rattle.share_replies.proofs.ShareClaims.{share_refused, shares_taken}
use Rattle.share_replies.proofs.TextSums.{take_at_item}

module _ (files : Files) where
  -- files of which one is long are not all short
  not_short : (names : List (List ℕ)) → AreFilesShort files names → HasLongFile files names → ⊥
  not_short [] short long = long
  not_short (name ∷ names) short (inl long) = let few = All-head (λ n. length (file_or_empty files n) ≤ input_limit) name names short in omega (arith, few, long)
  not_short (name ∷ names) short (inr long) = not_short names (All-tail (λ n. length (file_or_empty files n) ≤ input_limit) name names short) long

  -- one of the first is one of them
  long_front : (k : ℕ) (names : List (List ℕ)) → HasLongFile files (take k names) → HasLongFile files names
  long_front zero names long = absurd long
  long_front (suc k) [] long = absurd long
  long_front (suc k) (name ∷ names) (inl long) = inl long
  long_front (suc k) (name ∷ names) (inr long) = inr (long_front k names long)

  -- and so is one of the later ones
  long_later : (first names : List (List ℕ)) → HasLongFile files names → HasLongFile files (first ++ names)
  long_later [] names long = long
  long_later (name ∷ first) names long = inr (long_later first names long)

-- what holds of files that are as before
told_same : (told now : Option Files) (F G : Files → Type 0) → now ≡ told → ((files : Files) → F files → G files) → Told now F → Told told G
told_same told now F G same f h = at told (subst (λ (o : Option Files). Told o F) same h)
  where
    at : (told : Option Files) → Told told F → Told told G
    at None h = tt
    at (Some files) h = f files h

-- a file that is told is one of the files
told_file : (told : Option Files) (name : List ℕ) → Told (file_of told name) (λ all. input_limit < length all) → Told told (λ files. HasLongFile files (name ∷ []))
told_file None name long = tt
told_file (Some files) name long = inl long

-- a file that was read whole is short
told_short : (told : Option Files) (name bytes : List ℕ) → Told (file_of told name) (λ all. bytes ≡ all) → length bytes ≤ input_limit → Told told (λ files. AreFilesShort files (name ∷ []))
told_short None name bytes whole short = tt
told_short (Some files) name bytes whole short =
    let few : length (file_or_empty files name) ≤ input_limit = subst (λ (all : List ℕ). length all ≤ input_limit) whole short in
    All-cons (λ n. length (file_or_empty files n) ≤ input_limit) name [] few (All-nil (λ n. length (file_or_empty files n) ≤ input_limit))

-- files that are short and more that are, of the same files, are all short
both_short : (told now : Option Files) (first names : List (List ℕ)) → now ≡ told → Told told (λ files. AreFilesShort files first) → Told now (λ files. AreFilesShort files names) → Told told (λ files. AreFilesShort files (first ++ names))
both_short told now first names same one two = at told one (subst (λ (o : Option Files). Told o (λ files. AreFilesShort files names)) same two)
  where
    at : (told : Option Files) → Told told (λ files. AreFilesShort files first) → Told told (λ files. AreFilesShort files names) → Told told (λ files. AreFilesShort files (first ++ names))
    at None one two = tt
    at (Some files) one two = All-append (λ n. length (file_or_empty files n) ≤ input_limit) first names one two

module _ {P : Type 0} (p : PlaceSeen P) where
  -- a file that was not read
  pub text_ended : (a b : P) (name : List ℕ) (stop : Stop) → LeavesPlace p a b (name ∷ []) [] (Some stop) → (stop ≡ ReadFault → p.opened b ≡ p.opened a ++ name ∷ []) → (stop ≢ PlanRefused) × (stop ≢ WriteFault) × (stop ≢ FeedRefused) → ReadsFiles p a b (name ∷ []) (Some stop)
  text_ended a b name stop leaves opened ends = record {
    leaves = leaves;
    first = λ e. fails_one p a b name (Some stop) leaves (opened (same_stop stop ReadFault e));
    long = λ e. absurd (ends.2 (same_stop stop FeedRefused e));
    short = λ e. cc;
    ends = (λ e. ends.0 (same_stop stop PlanRefused e), λ e. ends.1 (same_stop stop WriteFault e));
  }

  -- one that is too long
  pub text_refused : (a b : P) (name bytes : List ℕ) → LeavesPlace p a b (name ∷ []) [] None → Told (file_of (p.files a) name) (λ all. bytes ≡ take (input_limit + 1) all) → input_limit < length bytes → ReadsFiles p a b (name ∷ []) (Some FeedRefused)
  text_refused a b name bytes leaves front long = record {
    leaves = leaves_ended p a b (name ∷ []) (Some FeedRefused) (λ e. cc) leaves;
    first = λ e. cc;
    long = λ e. told_file (p.files a) name (told_long input_limit (file_of (p.files a) name) bytes front long);
    short = λ e. cc;
    ends = (λ e. cc, λ e. cc);
  }

  -- one that was read whole
  pub text_read : (a b : P) (name bytes : List ℕ) → LeavesPlace p a b (name ∷ []) [] None → Told (file_of (p.files a) name) (λ all. bytes ≡ all) → length bytes ≤ input_limit → ReadsFiles p a b (name ∷ []) None
  text_read a b name bytes leaves whole short = record { leaves = leaves; first = λ e. cc; long = λ e. cc; short = λ e. told_short (p.files a) name bytes whole short; ends = (λ e. cc, λ e. cc) }

  -- files that were all read, and then memory ran out
  pub files_lacked : (a b : P) (names : List (List ℕ)) → ReadsFiles p a b names None → ReadsFiles p a b names (Some NoMemory)
  files_lacked a b names read = record { leaves = leaves_ended p a b names (Some NoMemory) (λ e. cc) read.leaves; first = λ e. cc; long = λ e. cc; short = λ e. cc; ends = (λ e. cc, λ e. cc) }

  -- or a line is wrong, or memory ran out
  pub file_faulty : (a b : P) (name : List ℕ) (fault : FileFault) → ((stop : Stop) → fault ≡ file.Stopped stop → stop ≡ NoMemory) → ReadsFiles p a b (name ∷ []) None → ReadsFiles p a b (name ∷ []) (stop_of_file fault)
  file_faulty a b name (file.Stopped stop) memory read = subst (λ (e : Stop). ReadsFiles p a b (name ∷ []) (Some e)) (sym (memory stop refl)) (files_lacked a b (name ∷ []) read)
  file_faulty a b name (file.Wrong line w) memory read = read

  -- after files that were all read, more
  pub both_read : (a b c : P) (first names : List (List ℕ)) (stop : Option Stop) → ReadsFiles p a b first None → ReadsFiles p b c names stop → ReadsFiles p a c (first ++ names) stop
  unfolding leaves_then
  both_read a b c first names stop one two =
      let same : p.files b ≡ p.files a = same_files p a b first None one.leaves in
      record {
        leaves = leaves_then p a b c first names [] stop one.leaves two.leaves;
        first = λ e. fails_on p a b one.leaves.opens two.leaves.opens one.leaves.opened (one.leaves.read_quiet (λ e. cc)) (two.first e);
        long = λ e. told_same (p.files a) (p.files b) (λ files. HasLongFile files names) (λ files. HasLongFile files (first ++ names)) same (λ files. long_later files first names) (two.long e);
        short = λ e. both_short (p.files a) (p.files b) first names same (one.short refl) (two.short e);
        ends = two.ends;
      }

  -- no file was read
  pub none_read : (a : P) → ReadsFiles p a a [] None
  none_read a = record {
    leaves = leaves_reading p a a [] [] [] None refl (sym (append-nil _)) (λ e. refl) refl refl refl (λ e. cc) (λ e. refl);
    first = λ e. cc;
    long = λ e. cc;
    short = λ e. told_any (p.files a) (λ files. AreFilesShort files []) (λ files. All-nil (λ n. length (file_or_empty files n) ≤ input_limit));
    ends = (λ e. cc, λ e. cc);
  }

  -- of all names, those up to a place and the one there
  module _ (a b c : P) (all : List (List ℕ)) (i : ℕ) (name : List ℕ) (at : take (i + 1) all ≡ take i all ++ name ∷ []) (one : ReadsFiles p a b (take i all) None) where
    files_more : (stop : Option Stop) → ReadsFiles p b c (name ∷ []) stop → ReadsFiles p a c (take (i + 1) all) stop
    files_more stop two = subst (λ (names : List (List ℕ)). ReadsFiles p a c names stop) (sym at) (both_read a b c (take i all) (name ∷ []) stop one two)

    pub all_more : ReadsFiles p b c (name ∷ []) None → ReadsFiles p a c (take (i + 1) all) None
    all_more two = files_more None two

    -- a fault of the one there
    pub replies_ended : (fault : FileFault) (result : SharesFault) → ((k line : ℕ) (w : WrongReply) → result ≡ shares.Wrong k line w → (k ≡ i) × (fault ≡ file.Wrong line w)) → ((stop : Stop) → result ≡ shares.Stopped stop → fault ≡ file.Stopped stop)
        → ReadsFiles p b c (name ∷ []) (stop_of_file fault) → ReadsReplies p a c [] all (Err result)
    replies_ended fault (shares.Stopped stop) wrong stopped two = (i + 1, files_more (Some stop) (subst (λ (f : FileFault). ReadsFiles p b c (name ∷ []) (stop_of_file f)) (stopped stop refl) two))
    replies_ended fault (shares.Wrong k line w) wrong stopped two =
        let is = wrong k line w refl in
        subst (λ (n : ℕ). ReadsFiles p a c (take (n + 1) all) None) (sym is.0) (files_more None (subst (λ (f : FileFault). ReadsFiles p b c (name ∷ []) (stop_of_file f)) is.1 two))

  -- after the script, the replies
  pub replies_then : (a b c : P) (script : List ℕ) (names : List (List ℕ)) (result : Result (List (Option Summed)) SharesFault) → ReadsFiles p a b (script ∷ []) None → ReadsReplies p b c [] names result → ReadsReplies p a c (script ∷ []) names result
  replies_then a b c script names (Ok sums) one two = both_read a b c (script ∷ []) names None one two
  replies_then a b c script names (Err (shares.Stopped stop)) one (k, two) = (suc k, both_read a b c (script ∷ []) (take k names) (Some stop) one two)
  replies_then a b c script names (Err (shares.Wrong k line w)) one two = both_read a b c (script ∷ []) (take (k + 1) names) None one two

  -- the script alone
  pub front_one : (a b : P) (script : List ℕ) (names : List (List ℕ)) (stop : Stop) → ReadsFiles p a b (script ∷ []) (Some stop) → ReadsFront p a b (script ∷ names) stop
  front_one a b script names stop one = (1, one)

-- the names up to a place and the one there
pub names_at : {A : Type 0} (g : A → List ℕ) (xs : List A) (i : ℕ) (x : A) (name : List ℕ) → x ≡ get_or xs i x → i < length xs → name ≡ g x → take (i + 1) (map g xs) ≡ take i (map g xs) ++ name ∷ []
names_at g xs i x name item lt is =
    take-map g (i + 1) xs
    ∙ (ap (map g) (take_at_item xs i x item lt)
    ∙ (map-append g (take i xs) (x ∷ []) ∙ ((λ j. sym (take-map g i xs) j ++ sym is j ∷ []))))

-- of bytes that are a plan nothing more need be said
plan_good : (told : Option Files) (name : List ℕ) (plan : Plan) (Q : Type 0) → Told (file_of told name) (λ bytes. plan_meaning bytes ≡ Ok (draft_of plan)) → Told told (λ files. (fault : PlanFault) → plan_meaning (file_or_empty files name) ≡ Err fault → Q)
plan_good None name plan Q meaning = tt
plan_good (Some files) name plan Q meaning = λ fault bad. absurd (no_fault (file_or_empty files name) fault (ap is_ok meaning) bad)

-- an end of reading the plan
ended_plan : (stop : Stop) → (stop ≢ WriteFault) × (stop ≢ FeedRefused) → EndsAtPlan (Err stop)
ended_plan NoMemory ends = inr (inr refl)
ended_plan PlanRefused ends = inl refl
ended_plan ReadFault ends = inr (inl refl)
ended_plan WriteFault ends = absurd (ends.0 refl)
ended_plan FeedRefused ends = absurd (ends.1 refl)

of_files : (told : Option Files) (name : List ℕ) (Q : Type 0) → Q → Told told (λ files. (fault : PlanFault) → plan_meaning (file_or_empty files name) ≡ Err fault → Q)
of_files None name Q q = tt
of_files (Some files) name Q q = λ fault bad. q

-- an end that is not this one
other_end : {T : Type 0} (stop other : Stop) → stop ≢ other → stopped T stop ≢ Err other
other_end stop other apart e = apart (err_is stop other e)

-- an end that is this one is none that this one is not
apart_from : (stop one other : Stop) → stop ≡ one → one ≢ other → stop ≢ other
apart_from stop one other is apart e = apart (sym is ∙ e)

-- What adding the replies of shares leaves of a place and a sink, by how it ended
pub record SharesLeft {P O : Type 0} (p : PlaceSeen P) (s : SinkSeen O) (names : FileNames) (a c : P) (out out' : O) (result : Result Outcome Stop) : Type 0 where
  pub says : IfOk result (SaysShares s out out' (p.files a) names)
  pub opens : OpensShares p a c names result
  pub causes : EndsByFiles (p.files a) names result
  pub sink : LeavesSink s out out' (p.files a) names result

module _ {P O : Type 0} (p : PlaceSeen P) (s : SinkSeen O) (names : FileNames) where
  abbrev Texts : List (List ℕ)
  Texts = names.script ∷ names.replies

  -- a plan and texts that are short are no cause of an end
  complete_by : (out out' : O) (told : Option Files) (result : Result Outcome Stop) → (result ≡ Err PlanRefused → RefusesPlan s out out' (file_of told names.plan)) → (result ≡ Err FeedRefused → Told told (λ files. HasLongFile files Texts))
      → Told told (λ files. IsOk (plan_meaning (file_or_empty files names.plan)) → AreFilesShort files Texts → IfErr result IsOutsideEnd)
  complete_by out out' None result plan text = tt
  complete_by out out' (Some files) (Ok outcome) plan text = λ good short. tt
  complete_by out out' (Some files) (Err NoMemory) plan text = λ good short. tt
  complete_by out out' (Some files) (Err PlanRefused) plan text = λ good short. let refuses = plan refl in absurd (no_fault (file_or_empty files names.plan) refuses.fault good refuses.meaning)
  complete_by out out' (Some files) (Err ReadFault) plan text = λ good short. tt
  complete_by out out' (Some files) (Err WriteFault) plan text = λ good short. tt
  complete_by out out' (Some files) (Err FeedRefused) plan text = λ good short. absurd (not_short files Texts short (text refl))

  -- the plan was refused, or was not read
  pub ended_by_plan : (a b : P) (out out' : O) (stop : Stop) → LeavesPlace p a b (names.plan ∷ []) [] (Some stop) → (stop ≡ ReadFault → p.opened b ≡ p.opened a ++ names.plan ∷ []) → ReadsPlan s out out' (file_of (p.files a) names.plan) (Err stop) → SharesLeft p s names a b out out' (Err stop)
  ended_by_plan a b out out' stop leaves opened reads =
      let not_write : stop ≢ WriteFault = reads.ends.0 in
      let not_feed : stop ≢ FeedRefused = reads.ends.1 in
      record {
        says = tt;
        opens = record {
          count = 1;
          leaves = leaves;
          first = λ e. fails_one p a b names.plan (Some stop) leaves (opened (err_is stop ReadFault e));
          refused_plan = λ e. omega arith;
          no_plan = of_files (p.files a) names.plan (1 ≤ 1) (omega arith);
        };
        causes = record {
          no_plan = of_files (p.files a) names.plan (EndsAtPlan (Err stop)) (ended_plan stop reads.ends);
          refused = λ e. absurd (not_feed (err_is stop FeedRefused e));
          complete = complete_by out out' (p.files a) (Err stop) refused_so (λ e. absurd (not_feed (err_is stop FeedRefused e)));
        };
        sink = record {
          refused_plan = refused_so;
          unsaid = λ e. absurd (not_write (err_is stop WriteFault e));
          lacks = λ e. inl (silent_so (apart_from stop NoMemory PlanRefused (err_is stop NoMemory e) (λ e. cc)));
          silent = λ either. elim either [ inl e ↦ silent_so (apart_from stop ReadFault PlanRefused (err_is stop ReadFault e) (λ e. cc)) | inr e ↦ absurd (not_feed (err_is stop FeedRefused e)) ];
        };
      }
    where
      refused_so : stopped Outcome stop ≡ Err PlanRefused → RefusesPlan s out out' (file_of (p.files a) names.plan)
      refused_so e = reads.refused (ap (λ k. Err k) (err_is stop PlanRefused e))

      silent_so : stop ≢ PlanRefused → Silent s out out'
      silent_so apart = reads.silent (other_end stop PlanRefused apart)

  module _ (a b c : P) (out mid out' : O) (plan : Plan) (opened : LeavesPlace p a b (names.plan ∷ []) [] None) (reads : ReadsPlan s out mid (file_of (p.files a) names.plan) (Ok plan)) where
    quiet : Silent s out mid
    quiet = reads.silent (λ e. ok_not_err plan PlanRefused e)

    same : p.files b ≡ p.files a
    same = same_files p a b (names.plan ∷ []) None opened

    -- what was opened after the plan
    opens_with : (result : Result Outcome Stop) (count : ℕ) (more : LeavesPlace p b c (take count Texts) [] (result_err result)) → (result ≡ Err ReadFault → FailsAtLast p b more.opens) → result ≢ Err PlanRefused → OpensShares p a c names result
    unfolding leaves_then
    opens_with result count more first not_plan = record {
      count = suc count;
      leaves = leaves_then p a b c (names.plan ∷ []) (take count Texts) [] (result_err result) opened more;
      first = λ e. fails_on p a b opened.opens more.opens opened.opened (opened.read_quiet (λ e. cc)) (first e);
      refused_plan = λ e. absurd (not_plan e);
      no_plan = plan_good (p.files a) names.plan plan (suc count ≤ 1) reads.plan.meaning;
    }

    causes_with : (result : Result Outcome Stop) → result ≢ Err PlanRefused → (result ≡ Err FeedRefused → Told (p.files a) (λ files. HasLongFile files Texts)) → EndsByFiles (p.files a) names result
    causes_with result not_plan long = record {
      no_plan = plan_good (p.files a) names.plan plan (EndsAtPlan result) reads.plan.meaning;
      refused = long;
      complete = complete_by out out' (p.files a) result (λ e. absurd (not_plan e)) long;
    }

    -- reading ended it
    ended_by_texts : (stop : Stop) (count : ℕ) → ReadsFiles p b c (take count Texts) (Some stop) → Silent s mid out' → SharesLeft p s names a c out out' (Err stop)
    ended_by_texts stop count front silent =
        let not_plan : stop ≢ PlanRefused = λ e. front.ends.0 (ap (λ k. Some k) e) in
        let not_write : stop ≢ WriteFault = λ e. front.ends.1 (ap (λ k. Some k) e) in
        let nothing : Silent s out out' = silent_after s out mid out' quiet silent in
        record {
          says = tt;
          opens = opens_with (Err stop) count front.leaves (λ e. front.first (ap (λ k. Some k) (err_is stop ReadFault e))) (other_end stop PlanRefused not_plan);
          causes = causes_with (Err stop) (other_end stop PlanRefused not_plan)
              (λ e. told_same (p.files a) (p.files b) (λ files. HasLongFile files (take count Texts)) (λ files. HasLongFile files Texts) same (λ files. long_front files count Texts) (front.long (ap (λ k. Some k) (err_is stop FeedRefused e))));
          sink = record {
            refused_plan = λ e. absurd (not_plan (err_is stop PlanRefused e));
            unsaid = λ e. absurd (not_write (err_is stop WriteFault e));
            lacks = λ e. inl nothing;
            silent = λ e. nothing;
          };
        }

    -- so many files were read, and something was said, or not all of it
    ended_by_putting : (result : Result Outcome Stop) (count : ℕ) → ReadsFiles p b c (take count Texts) None → (result ≢ Err PlanRefused) × (result ≢ Err ReadFault) × (result ≢ Err FeedRefused)
        → IfOk result (SaysShares s out out' (p.files a) names) → (result ≡ Err WriteFault → FailsToSayShares s out out' (p.files a) names) → (result ≡ Err NoMemory → Silent s out out' ⊎ TakesShares (p.files a) names (PutsFirst s out out')) → SharesLeft p s names a c out out' result
    ended_by_putting result count read ends says fails lacks = record {
      says = says;
      opens = opens_with result count (leaves_so result ends.1) (λ e. absurd (ends.1 e)) ends.0;
      causes = causes_with result ends.0 (λ e. absurd (ends.2 e));
      sink = record {
        refused_plan = λ e. absurd (ends.0 e);
        unsaid = fails;
        lacks = lacks;
        silent = λ either. elim either [ inl e ↦ absurd (ends.1 e) | inr e ↦ absurd (ends.2 e) ];
      };
    }
      where
        leaves_so : (result : Result Outcome Stop) → result ≢ Err ReadFault → LeavesPlace p b c (take count Texts) [] (result_err result)
        leaves_so (Ok outcome) apart = read.leaves
        leaves_so (Err stop) apart = leaves_ended p b c (take count Texts) (Some stop) (λ e. apart (ap (λ k. Err k) (same_stop stop ReadFault e))) read.leaves

    -- the sums were put, or not all of them
    ended_by_sums : (last : List (Option Summed)) (result : Result Outcome Stop) → ReadsFiles p b c Texts None → DecidesScript plan.schema (p.files b) names.script names.replies (Ok last) → SaysSums s mid out' names.replies (Ok last) result → SharesLeft p s names a c out out' result
    ended_by_sums last result read decides says =
        ended_by_putting result (length Texts) (subst (λ (ns : List (List ℕ)). ReadsFiles p b c ns None) (sym (take_all (length Texts) Texts (omega arith))) read) says.0.ends (said result says)
        (λ e. inl (takes (λ totals. FailsToPut s out out' (totals_text totals)) (fails_after s out mid out' quiet (totals_text (totals_of last)) (says.0.fails e))))
        (λ e. let some = says.0.first e in inr (takes (PutsFirst s out out') (some.0, puts_after s out mid out' quiet (totals_text (take some.0 (totals_of last))) some.1)))
      where
        takes : (Says : List (Option Reply) → Type 0) → Says (totals_of last) → TakesShares (p.files a) names Says
        takes = shares_taken (p.files a) (p.files b) names plan same reads.plan last decides (read.short refl)

        said : (result : Result Outcome Stop) → SaysSums s mid out' names.replies (Ok last) result → IfOk result (SaysShares s out out' (p.files a) names)
        said (Err stop) says = tt
        said (Ok o) says = subst (SaysShares s out out' (p.files a) names) (sym says.1) (takes (λ totals. Puts s out out' (totals_text totals)) (puts_after s out mid out' quiet (totals_text (totals_of last)) says.0.puts))

    -- the first wrong line was named, or not all of that was put
    ended_by_wrong : (k line : ℕ) (w : WrongReply) (result : Result Outcome Stop) → ReadsFiles p b c (names.script ∷ take (k + 1) names.replies) None → DecidesScript plan.schema (p.files b) names.script names.replies (Err (shares.Wrong k line w))
        → SaysWrong s mid out' names.replies (shares.Wrong k line w) result → SharesLeft p s names a c out out' result
    ended_by_wrong k line w result read decides says =
        ended_by_putting result (suc (k + 1)) read says.0.ends (said result says) (λ e. inr (w, refuses (FailsToPut s out out') (fails_after s out mid out' quiet text (says.0.fails e)))) (λ e. inl (silent_after s out mid out' quiet (says.0.silent e)))
      where
        text : List ℕ
        text = wrong_line (get_or names.replies k []) line w

        refuses : (Says : List ℕ → Type 0) → Says (wrong_line (get_or names.replies k []) line w) → RefusesShare (p.files a) names w Says
        refuses = share_refused (p.files a) (p.files b) names plan same reads.plan k line w decides (read.short refl)

        said : (result : Result Outcome Stop) → SaysWrong s mid out' names.replies (shares.Wrong k line w) result → IfOk result (SaysShares s out out' (p.files a) names)
        said (Err stop) says = tt
        said (Ok o) says = subst (SaysShares s out out' (p.files a) names) (sym says.1) (refuses (Puts s out out') (puts_after s out mid out' quiet (wrong_line (get_or names.replies k []) line w) says.0.puts))

    -- what the shares gave, and what was said of it
    pub ended_after : (sums : Result (List (Option Summed)) SharesFault) (result : Result Outcome Stop) → ReadsReplies p b c (names.script ∷ []) names.replies sums → DecidesScript plan.schema (p.files b) names.script names.replies sums → SaysSums s mid out' names.replies sums result
        → SharesLeft p s names a c out out' result
    ended_after (Ok last) result read decides says = ended_by_sums last result read decides says
    ended_after (Err (shares.Stopped stop)) result (count, front) decides says = subst (SharesLeft p s names a c out out') (sym says.0) (ended_by_texts stop count front says.1)
    ended_after (Err (shares.Wrong k line w)) result read decides says = ended_by_wrong k line w result read decides says
