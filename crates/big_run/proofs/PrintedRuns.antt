-- What is printed of a run of the built-in jobs where memory was found, and that it has its shape in any case.
use Rattle.std.proofs.Common.{◌≡◌, ◌≢◌, ℕ, Bool, true, false, List, [], ◌∷◌, ◌++◌, All, length, Some, refl, ap, ◌∙◌, subst, lit<}
use Rattle.std.specs.Prelude.{codes}
use Rattle.std.specs.List.{AllZip}
use Rattle.std.proofs.lemmas.List.{append-nil}
use Rattle.crew_feeder.specs.declared.done.FeedDone.{FeedDone}
use Rattle.live_session.specs.declared.done.SessionDone.{SessionDone}
use Rattle.cube_crew.specs.Crewed.{FeedsLeave, IsCrewed, LeavesTranscript, answered_over, closing, closing_of}
use Rattle.cube_crew.specs.declared.jobs.Crewed.{Crewed}
use Rattle.cube_crew.specs.declared.jobs.Jobs.{Jobs}
use Rattle.cube_view.specs.Points.{Point}
use Rattle.cube_view.specs.declared.stat.Stat.{Stat}
use Rattle.outer_io.specs.Memory.{StillOutput}
use Rattle.outer_io.specs.declared.cutter.CutFault.TheVariants as cut
use Rattle.query_syntax.specs.Tables.{table}
use Rattle.world_core.specs.Interleaving.{IsInterleaving, entry_points, list_of, lists_joined}
use Rattle.world_core.specs.InterleavingLaws.{TablesInterleave}
use Rattle.big_run.proofs.FinalReplies.{SameTables, final_put}
use Rattle.big_run.proofs.TwoFeeds.{FeedsEach, counts_line-given, sent-given, two_feeds}
use Rattle.big_run.specs.BuiltIn.{ask_script, big_schema, final_script}
use Rattle.big_run.specs.Parts.{HasJobs, script_session}
use Rattle.big_run.specs.Printed.{CameBackWhole, printed, printed_parts}
use Rattle.big_run.specs.Sources.{left_in, no_faults, still_ends}
use Rattle.big_run.specs.Text.{big_points, big_text}
use Rattle.big_run.specs.declared.source.RunSource.{RunSource}

-- one item goes with one item
one_zip : {A B : Type 0} (R : A → B → Type 0) (x : A) (ys : List B) → AllZip R (x ∷ []) ys → (y : B) × (ys ≡ y ∷ []) × R x y
one_zip R x [] all = absurd all
one_zip R x (y ∷ []) all = (y, refl, all.0)
one_zip R x (y ∷ z ∷ ys) all = absurd all.1

-- two lists, one after the other
joined_two : (first second : List Point) → lists_joined 2 (list_of (first ∷ second ∷ [])) ≡ first ++ second
joined_two first second = ap (λ (rest : List Point). first ++ rest) (append-nil second)

module _ (is_stat : Stat → Type 0) (count : ℕ) (jobs : Jobs RunSource StillOutput) (c : Crewed RunSource StillOutput) (has : HasJobs count jobs) (crewed : IsCrewed still_ends is_stat big_schema jobs c) where
  feeds_each : FeedsEach has.feeds.first has.feeds.second crewed.sent c.feeds
  feeds_each = two_feeds has.feeds.first has.feeds.second crewed.sent c.feeds (subst (λ feeds. FeedsLeave left_in no_faults feeds crewed.sent c.feeds) has.feeds.both crewed.feeds)

  ask_done : (done : SessionDone RunSource StillOutput) × (c.asks ≡ done ∷ []) × LeavesTranscript still_ends is_stat big_schema false (closing_of c) (script_session ask_script) done
  ask_done = one_zip (LeavesTranscript still_ends is_stat big_schema false (closing_of c)) (script_session ask_script) c.asks (subst (λ sessions. AllZip (LeavesTranscript still_ends is_stat big_schema false (closing_of c)) sessions c.asks) has.asks crewed.asks)

  final_done : (done : SessionDone RunSource StillOutput) × (c.finals ≡ done ∷ []) × LeavesTranscript still_ends is_stat big_schema true (closing_of c) (script_session final_script) done
  final_done = one_zip (LeavesTranscript still_ends is_stat big_schema true (closing_of c)) (script_session final_script) c.finals (subst (λ sessions. AllZip (LeavesTranscript still_ends is_stat big_schema true (closing_of c)) sessions c.finals) has.finals crewed.finals)

  -- two feeds, an ask and a final came back
  pub came_back : CameBackWhole c
  came_back = (ap length feeds_each.dones_are, ap length ask_done.1, ap length final_done.1)

  -- the points that were sent, one after the other, have the tables of the journal
  same_tables : TablesInterleave → c.starved ≡ false → SameTables (entry_points c.journal) (feeds_each.sent ++ feeds_each.sent_too)
  same_tables interleave found q =
      let drawn : IsInterleaving 2 (list_of (feeds_each.sent ∷ feeds_each.sent_too ∷ [])) c.drawn =
      subst (λ sents. IsInterleaving 2 (list_of sents) c.drawn) feeds_each.sents_are (subst (λ (n : ℕ). IsInterleaving n (list_of crewed.sent) c.drawn) (ap length has.feeds.both) crewed.drawn) in
      ap (λ entries. table big_schema q (entry_points entries)) (crewed.found found).journal
      ∙ interleave 2 (list_of (feeds_each.sent ∷ feeds_each.sent_too ∷ [])) c.drawn drawn big_schema q
      ∙ ap (table big_schema q) (joined_two feeds_each.sent feeds_each.sent_too)

  -- and the text is that of the run
  pub printed-found : TablesInterleave → c.starved ≡ false → printed c ≡ big_text count
  unfolding big_text big_points
  printed-found interleave found =
      let each = feeds_each in
      let all = crewed.found found in
      let fed : All (λ (done : FeedDone RunSource). done.counts.fault ≢ Some cut.NoMemory) (each.done ∷ each.done_too ∷ []) = subst (All (λ (done : FeedDone RunSource). done.counts.fault ≢ Some cut.NoMemory)) each.dones_are all.feeds in
      let first_found : each.done.counts.fault ≢ Some cut.NoMemory = fed 0 each.done (lit< tt) in
      let second_found : each.done_too.counts.fault ≢ Some cut.NoMemory = fed 1 each.done (lit< tt) in
      let sent = sent-given 1 count has.feeds.first each.sent each.done has.feeds.first_is each.first_leaves first_found in
      let sent_too = sent-given 2 count has.feeds.second each.sent_too each.done_too has.feeds.second_is each.second_leaves second_found in
      let line = counts_line-given (codes "gen1") 1 count has.feeds.first each.sent each.done has.feeds.first_is each.first_leaves first_found in
      let line_too = counts_line-given (codes "gen2") 2 count has.feeds.second each.sent_too each.done_too has.feeds.second_is each.second_leaves second_found in
      let last = final_done in
      let leaves = subst (λ (closed : Bool). LeavesTranscript still_ends is_stat big_schema true (closing closed c.starved (answered_over closed c.journal c.drawn)) (script_session final_script) last.0) all.closed last.2 in
      let replies = final_put is_stat c.starved (entry_points c.journal) (each.sent ++ each.sent_too) last.0 (same_tables interleave found) found leaves in
      ap (λ feeds. printed_parts feeds c.finals) each.dones_are
      ∙ ap (printed_parts (each.done ∷ each.done_too ∷ [])) last.1
      ∙ rw (line, line_too, replies, sent, sent_too) refl
