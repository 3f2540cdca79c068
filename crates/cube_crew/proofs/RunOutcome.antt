-- What a whole run leaves, from what its parts leave.
use Rattle.std.proofs.Common.{◌≡◌, ◌≢◌, ℕ, Bool, true, false, List, All, length, map, Some, sym, ap, ◌∙◌, subst}
use Rattle.std.specs.List.{AllZip}
use Rattle.std.proofs.lemmas.List.Elements.{All-map}
use Rattle.atomic_table.specs.Seated.{TableId}
use Rattle.builder_core.specs.Built.{IsBuilt}
use Rattle.builder_core.specs.Telling.{told_lengths}
use Rattle.builder_core.specs.Work.{BuilderWorkState as Building}
use Rattle.crew_feeder.specs.Leaving.{HasFed}
use Rattle.crew_feeder.specs.declared.done.FeedDone.{FeedDone}
use Rattle.crew_feeder.specs.declared.work.FeedWork.{FeedWork}
use Rattle.live_session.specs.Leaves.{LeavesSession}
use Rattle.live_session.specs.Work.{WorkState}
use Rattle.cube_view.specs.Points.{Point}
use Rattle.cube_view.specs.declared.schema.Schema.{Schema}
use Rattle.cube_view.specs.declared.stat.Stat.{Stat}
use Rattle.feed_queue.proofs.InTurn.{length-new_feeds}
use Rattle.feed_queue.specs.Ends.{DrawState, FeedState, sent_lists}
use Rattle.live_session.specs.State.{SessionEnds}
use Rattle.live_session.specs.TranscriptLaws.{StaysTranscript}
use Rattle.mailbox.specs.Ends.{InEnd, OutEnd}
use Rattle.outer_io.specs.declared.cutter.CutFault.TheVariants as cut
use Rattle.published_pair.specs.Rules.{Known}
use Rattle.world_core.specs.Interleaving.{IsInterleaving, list_of}
use Rattle.cube_crew.specs.Crewed.{FeedsLeave, FoundAll, IsCrewed, answered_over}
use Rattle.cube_crew.specs.Ending.{EndsRun, IsWithin}
use Rattle.cube_crew.specs.Opened.{IsMail}
use Rattle.cube_crew.specs.Works.{end_of, fed_of, session_works_of, works_of}
use Rattle.cube_crew.specs.declared.jobs.Crewed.{Crewed}
use Rattle.cube_crew.specs.declared.jobs.Jobs.{Jobs}
use Rattle.cube_crew.proofs.SessionOutcomes.{ask_mails, asks_give, asks_leave, finals_leave, work_mails}
use Rattle.cube_crew.proofs.FeederOutcomes.{IsNewEnd, feeds_leave, new_ends}
use Rattle.cube_crew.proofs.RunSeats.{Seats}
use Rattle.cube_crew.proofs.Zips.{AllZip-map, AllZip-right}

abbrev in_name : InEnd → TableId
in_name mail = mail.mailbox

abbrev out_name : OutEnd → TableId
out_name mail = mail.mailbox

module _ {I O : Type 0} (these : SessionEnds I O) (is_stat : Stat → Type 0) (schema : Schema) (jobs : Jobs I O) where
  found_all : (works : List (FeedWork I)) (before building : Building) (asks finals : List (WorkState I O)) (c : Crewed I O) → before.builder.batch ≡ schema.batch → IsBuilt before building
      → EndsRun these is_stat works building asks finals c → c.starved ≡ false → FoundAll schema c
  found_all works before building asks finals c batch built ends enough =
      let open_ = (ends.found enough).1 in
      let all = ends.journal.1 open_ in
      let published : building.builder.journal ≡ c.journal = built.whole open_ ∙ sym ends.drawn.0 ∙ sym all in
      let told = built.lengths open_ in
      let at_batch : All (λ (mail : InEnd). mail.lengths ≡ told_lengths schema.batch (length building.builder.journal)) building.mails =
      subst (λ (k : ℕ). All (λ (mail : InEnd). mail.lengths ≡ told_lengths k (length building.builder.journal)) building.mails) (built.run.batch ∙ batch) told in
      let at_journal : All (λ (mail : InEnd). mail.lengths ≡ told_lengths schema.batch (length c.journal)) building.mails =
      subst (λ l. All (λ (mail : InEnd). mail.lengths ≡ told_lengths schema.batch (length l)) building.mails) published at_batch in
      record {
        journal = all;
        closed = (ends.found enough).0;
        told = subst (All (λ (mail : InEnd). mail.lengths ≡ told_lengths schema.batch (length c.journal))) (sym ends.mails) at_journal;
        feeds = subst (All (λ (done : FeedDone I). done.counts.fault ≢ Some cut.NoMemory)) (sym ends.feeds) (All-map (λ (done : FeedDone I). done.counts.fault ≢ Some cut.NoMemory) fed_of works (ends.fed enough).0);
      }

  pub crewed : StaysTranscript is_stat → (draws : DrawState) (front : Known) (ends : List FeedState) (puts : List InEnd) (takes final_takes : List OutEnd) (works : List (FeedWork I)) (before building : Building) (asks : List (WorkState I O)) (c : Crewed I O)
      → Seats schema jobs draws front ends puts takes final_takes before → AllZip (HasFed these.left these.faults true) (works_of jobs.feeds ends) works
      → AllZip (LeavesSession these is_stat) (session_works_of schema front jobs.asks takes) asks → IsBuilt before building
      → EndsRun these is_stat works building asks (session_works_of schema front jobs.finals final_takes) c
      → IsCrewed these is_stat schema jobs c
  crewed stays draws front ends puts takes final_takes works before building asks c seats fed ran built over =
      let new : All (IsNewEnd draws.lane schema) ends = subst (All (IsNewEnd draws.lane schema)) (sym seats.ends_are) (new_ends draws.lane schema (length jobs.feeds)) in
      let count : length ends ≡ length jobs.feeds = ap length seats.ends_are ∙ length-new_feeds draws.lane schema (length jobs.feeds) in
      let list = answered_over c.closed c.journal c.drawn in
      let over_journal = λ (e : c.closed ≡ true). ap (λ (closed : Bool). answered_over closed c.journal c.drawn) (sym e) in
      let over_drawn = λ (e : c.closed ≡ false). ap (λ (closed : Bool). answered_over closed c.journal c.drawn) (sym e) in
      let unasked : All (λ (mail : OutEnd). mail.takes ≡ 0) takes = AllZip-right (IsMail front.book) (λ (mail : OutEnd). mail.takes ≡ 0) puts takes (λ put take is. ap (λ (mail : OutEnd). mail.takes) is.1) seats.mails in
      let names : map out_name takes ≡ map in_name puts = AllZip-map (IsMail front.book) in_name out_name puts takes (λ put take is. sym (ap in_name is.0)) seats.mails in
      let gives = asks_give these is_stat schema c.closed c.starved list asks c.asks (λ e. let all = over.closed e in (all.0, all.1 ∙ over_journal e, all.2)) (λ e. ((over.unclosed e).0, subst (λ (l : List Point). All (IsWithin l) asks) (over_drawn e) (over.within e))) (λ e. (over.fed e).1) in
      record {
        sent = sent_lists (map end_of works);
        feeds = subst (FeedsLeave these.left these.faults jobs.feeds (sent_lists (map end_of works))) (sym over.feeds) (feeds_leave these.left these.faults draws.lane schema jobs.feeds ends works count new fed);
        drawn = subst (λ (k : ℕ). IsInterleaving k (list_of (sent_lists (map end_of works))) c.drawn) (built.end.feeders ∙ seats.feeders) over.drawn.1;
        journal = over.journal.0;
        asks = asks_leave these is_stat schema stays c.closed c.starved list front jobs.asks takes asks c.asks seats.takes_count unasked ran gives;
        finals = finals_leave these is_stat schema c.closed c.starved list front jobs.finals final_takes c.finals seats.finals_count seats.unasked (λ e. let all = over.closed e in (all.0, all.1 ∙ over_journal e, all.3)) (λ e. (over.unclosed e).1) (λ e. (over.found e).0);
        mails = ap (map in_name) over.mails
            ∙ built.mails.names
            ∙ ap (map in_name) seats.before_mails
            ∙ sym names
            ∙ sym (work_mails these is_stat schema front jobs.asks takes seats.takes_count)
            ∙ sym (ask_mails these is_stat schema c.closed c.starved list (session_works_of schema front jobs.asks takes) asks c.asks ran gives);
        found = λ enough. found_all works before building asks (session_works_of schema front jobs.finals final_takes) c seats.batch built over enough;
      }
