-- Nothing is missing where neither memory was wanted nor a read failed.
use Rattle.std.proofs.Common.{◌≡◌, ◌≢◌, inl, inr, ℕ, Bool, true, false, List, [], ◌∷◌, length, map, take, Result, Ok, Err, refl, sym, subst, ◌∙◌, arith}
use Rattle.std.specs.List.{AllZip}
use Rattle.std.proofs.lemmas.List.{take_all}
use Rattle.cube_crew.proofs.Zips.{AllZip-map}
use Rattle.cube_schema.specs.declared.plan.Plan.{Plan}
use Rattle.cube_store.specs.Numbers.{OwnsAllButRoot}
use Rattle.cube_view.specs.Points.{Point}
use Rattle.feed_reader.specs.Feeds.{accepted, points_in}
use Rattle.feed_reader.specs.RowCounts.{FeedRows}
use Rattle.outer_io.specs.Files.{Files, file_or_empty}
use Rattle.outer_io.specs.Lines.{lines}
use Rattle.reply_json.specs.declared.reply.Reply.{Reply}
use Rattle.run_files.specs.Stops.{is_lacking}
use Rattle.run_files.specs.declared.counts.ScriptCounts.{ScriptCounts}
use Rattle.run_files.specs.declared.stop.Stop.{Stop}
use Rattle.run_files.specs.declared.stop.Stop.TheVariants.{NoMemory, PlanRefused, ReadFault, WriteFault, FeedRefused}
use Rattle.session_core.specs.Asked.{asked}
use Rattle.session_core.specs.Transcript.{IsTranscript}
use Rattle.world_core.specs.Interleaving.{IsInterleaving, entry_points, list_of}
use Rattle.plan_run.proofs.WellEnds.{End}
use Rattle.plan_run.proofs.FeedOutcomes.{points_all}
use Rattle.plan_run.specs.Completed.{HasTranscript}
use Rattle.plan_run.specs.Interrupted.{Account, AnswersInFile, HoldsAll, IsReadOrLacking, StopsScript, ReportsFeed, accepted_lists}

wants_none : (e : End) → e ≢ Err NoMemory → is_lacking e ≡ false
wants_none (Ok x) found = refl
wants_none (Err NoMemory) found = absurd (found refl)
wants_none (Err PlanRefused) found = refl
wants_none (Err ReadFault) found = refl
wants_none (Err WriteFault) found = refl
wants_none (Err FeedRefused) found = refl

module _ (plan : Plan) (end : Result (Unit {0}) Stop) (files files' : Files) (found : end ≢ Err NoMemory) (unread : end ≢ Err ReadFault) where
  neither : ¬ IsReadOrLacking end
  neither (inl read) = unread read
  neither (inr lacking) = found lacking

  module _ (final : Bool) (account : Account) (shut : account.closed ≡ true) where
    abbrev journal : List Point
    journal = entry_points account.entries

    script_held : (name : List ℕ) (script : ScriptCounts) → AnswersInFile plan.schema final end account files files' name script → StopsScript plan.schema account.closed end files name script → (replies : List Reply) × HasTranscript plan.schema final journal files files' name replies
    script_held name script answers stops =
        let asks = asked plan.schema (lines (file_or_empty files name)) in
        let count : length answers.replies ≡ length asks = sym answers.counted.0 ∙ answers.all shut (λ is. neither (stops.read is)) (λ is. found (stops.no_memory is)) in
        let whole : take (length answers.replies) asks ≡ asks = take_all (length answers.replies) asks (omega (arith, count)) in
        let over = subst (λ (l : List Point). IsTranscript plan.schema OwnsAllButRoot final l (length l) (is_lacking end) (take (length answers.replies) asks) answers.replies) (answers.over shut) answers.transcript in
        let none = subst (λ b. IsTranscript plan.schema OwnsAllButRoot final journal (length journal) b (take (length answers.replies) asks) answers.replies) (wants_none end found) over in (
          answers.replies,
          record {
            transcript = subst (λ ps. IsTranscript plan.schema OwnsAllButRoot final journal (length journal) false ps answers.replies) whole none;
            text = elim answers.text [ inl has ↦ has | inr lost ↦ absurd (found lost.0) ];
          },
        )

    pub scripts_held : (names : List (List ℕ)) (scripts : List ScriptCounts) → AllZip (AnswersInFile plan.schema final end account files files') names scripts → AllZip (StopsScript plan.schema account.closed end files) names scripts
        → (replies : List (List Reply)) × AllZip (HasTranscript plan.schema final journal files files') names replies
    scripts_held [] [] answers stops = ([], tt)
    scripts_held [] (c ∷ scripts) answers stops = absurd answers
    scripts_held (n ∷ names) [] answers stops = absurd answers
    scripts_held (n ∷ names) (c ∷ scripts) answers stops =
        let one = script_held n c answers.0 stops.0 in
        let later = scripts_held names scripts answers.1 stops.1 in
        (one.0 ∷ later.0, (one.1, later.1))

  pub all_held : (account : Account) → account.closed ≡ true → AllZip (ReportsFeed plan.schema end files) plan.feeds account.feeds
      → IsInterleaving (length plan.feeds) (list_of (map (λ (feed : FeedRows). points_in feed.rows) account.feeds)) account.entries
      → AllZip (AnswersInFile plan.schema false end account files files') plan.asks account.asks → AllZip (StopsScript plan.schema account.closed end files) plan.asks account.asks
      → AllZip (AnswersInFile plan.schema true end account files files') plan.finals account.finals → AllZip (StopsScript plan.schema account.closed end files) plan.finals account.finals
      → HoldsAll plan account.entries files files'
  all_held account shut takes order asked stopped ended stopped' =
      let to_asks = scripts_held false account shut plan.asks account.asks asked stopped in
      let to_finals = scripts_held true account shut plan.finals account.finals ended stopped' in
      let lists : map (λ (feed : FeedRows). points_in feed.rows) account.feeds ≡ accepted_lists plan files =
      AllZip-map (ReportsFeed plan.schema end files) (λ name. accepted plan.schema (file_or_empty files name)) (λ (feed : FeedRows). points_in feed.rows) plan.feeds account.feeds
      (λ name feed takes. points_all plan.schema end files name feed (takes.whole (λ is. neither (takes.read is)) (λ is. found (takes.no_memory is)))) takes in
      record {
        order = subst (λ ls. IsInterleaving (length plan.feeds) (list_of ls) account.entries) lists order;
        ask_replies = to_asks.0;
        asks = to_asks.1;
        final_replies = to_finals.0;
        finals = to_finals.1;
      }
