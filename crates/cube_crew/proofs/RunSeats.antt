-- What a run begins with once its works are made, and what it is once they have run.
use Rattle.std.proofs.Common.{◌≡◌, ℕ, ◌+◌, ◌≤◌, ◌&&◌, true, false, nat_le, List, [], All, length, map, refl, sym, ap, ◌∙◌, subst, arith}
use Rattle.std.specs.List.{AllZip}
use Rattle.std.proofs.lemmas.Bool.{and_parts, leb-true}
use Rattle.std.proofs.lemmas.List.Elements.{All-weaker}
use Rattle.builder_core.specs.Builder.{BuilderState, KeepsJournal, builder_state, pair_state}
use Rattle.builder_core.specs.Built.{IsBuilt, IsNewWork}
use Rattle.builder_core.specs.Work.{BuilderWorkState as Building, work_state}
use Rattle.crew_feeder.specs.Leaving.{HasFed}
use Rattle.crew_feeder.specs.declared.work.FeedWork.{FeedWork}
use Rattle.live_session.specs.Leaves.{LeavesSession}
use Rattle.live_session.specs.Work.{HadNoTurn, WorkState}
use Rattle.cube_crew.specs.Begins.{MayRun}
use Rattle.cube_crew.specs.Ending.{IsRun}
use Rattle.cube_crew.specs.Opened.{AreMails, IsMail, lane_room}
use Rattle.cube_crew.specs.Works.{end_of, session_works_of, works_of}
use Rattle.cube_crew.specs.declared.jobs.Jobs.{Jobs}
use Rattle.cube_view.specs.Limits.{categories_in_range, is_between, numbers_in_range, parts_in_range, texts_distinct, weight_in_range}
use Rattle.cube_view.specs.declared.schema.Schema.{Schema}
use Rattle.cube_view.specs.declared.stat.Stat.{Stat}
use Rattle.feed_queue.specs.Ends.{AreInTurn, DrawState, FeedState, draw_state, new_feeds}
use Rattle.feed_queue.proofs.InTurn.{length-new_feeds, new_feeds_in_turn}
use Rattle.live_session.specs.State.{SessionEnds}
use Rattle.mailbox.specs.Ends.{InEnd, OutEnd}
use Rattle.published_pair.specs.Rules.{Known}
use Rattle.cube_crew.proofs.SessionOutcomes.{all_works, ran_pairs}
use Rattle.cube_crew.proofs.FeederOutcomes.{IsNewEnd, fed_ended, fed_in_turn, fed_lanes, new_ends, works_ends, works_lanes}
use Rattle.cube_crew.proofs.Zips.{AllZip-left}

-- a schema's batch is 1 to 65,536
pub batch_bounds : (z : Schema) → (1 ≤ z.batch) × (z.batch ≤ 65536)
batch_bounds z =
    let limits = and_parts (parts_in_range z.depth z.categories z.width z.batch z.weight) (texts_distinct z.categories z.weight) z.limits in
    let parts = and_parts (numbers_in_range z.depth z.width z.batch && categories_in_range z.categories) (weight_in_range z.weight) limits.0 in
    let numbers = and_parts (is_between 1 20 z.depth && nat_le 1 z.width) (is_between 1 65536 z.batch) (and_parts _ _ parts.0).0 in
    let batch = and_parts (nat_le 1 z.batch) (nat_le z.batch 65536) numbers.1 in
    (leb-true 1 z.batch batch.0, leb-true z.batch 65536 batch.1)

-- What a run begins with, once the works are made
pub record Seats {I O : Type 0} (schema : Schema) (jobs : Jobs I O) (draws : DrawState) (front : Known) (ends : List FeedState) (puts : List InEnd) (takes final_takes : List OutEnd) (before : Building) : Type 0 where
  pub may : MayRun schema jobs
  pub ends_are : ends ≡ new_feeds draws.lane schema (length jobs.feeds)
  pub mails : AreMails front.book puts takes
  pub takes_count : length takes ≡ length jobs.asks
  pub finals_count : length final_takes ≡ length jobs.finals
  pub unasked : All (λ (mail : OutEnd). mail.takes ≡ 0) final_takes
  pub before_mails : before.mails ≡ puts
  pub lane : before.draws.lane ≡ draws.lane
  pub feeders : before.draws.feeders ≡ length jobs.feeds
  pub batch : before.builder.batch ≡ schema.batch
  pub book : before.builder.published.book ≡ front.book
  pub viewers : before.builder.viewers ≡ length jobs.asks + length jobs.finals
  pub new : IsNewWork before

pub seats_of : {I O : Type 0} (schema : Schema) (jobs : Jobs I O) (draws : DrawState) (front : Known) (ends : List FeedState) (puts : List InEnd) (takes final_takes : List OutEnd) (builder : BuilderState) (feeders viewers : ℕ) (pair_schema : Schema)
    → MayRun schema jobs → ends ≡ new_feeds draws.lane schema (length jobs.feeds) → draws ≡ draw_state draws.lane schema (length jobs.feeds) lane_room []
    → AreMails front.book puts takes → length takes ≡ length jobs.asks → All (λ (out : OutEnd). (out.pair ≡ front.book) × (out.takes ≡ 0)) final_takes → length final_takes ≡ length jobs.finals
    → feeders ≡ length jobs.feeds → viewers ≡ length jobs.asks + length jobs.finals → pair_schema ≡ schema
    → builder ≡ builder_state feeders schema.batch [] [] 0 false (pair_state front [] pair_schema viewers) → KeepsJournal builder
    → Seats schema jobs draws front ends puts takes final_takes (work_state draws builder puts)
seats_of schema jobs draws front ends puts takes final_takes builder feeders viewers pair_schema may ends_are draws_are mails takes_count new_finals finals_count feeders_are viewers_are same made keeps =
    let drawn = ap (λ (d : DrawState). d.drawn) draws_are in
    let fed = ap (λ (b : BuilderState). b.feeders) made ∙ feeders_are in
    let lists = ap (λ (b : BuilderState). b.published) made in
    record {
      may = may;
      ends_are = ends_are;
      mails = mails;
      takes_count = takes_count;
      finals_count = finals_count;
      unasked = All-weaker (λ (out : OutEnd). (out.pair ≡ front.book) × (out.takes ≡ 0)) (λ (out : OutEnd). out.takes ≡ 0) (λ out both. both.1) final_takes new_finals;
      before_mails = refl;
      lane = refl;
      feeders = ap (λ (d : DrawState). d.feeders) draws_are;
      batch = ap (λ (b : BuilderState). b.batch) made;
      book = ap (λ (k : Known). k.book) lists;
      viewers = ap (λ (b : BuilderState). b.viewers) made ∙ viewers_are;
      new = record {
        drawn = drawn;
        draws = record {
          taken = ap (λ (b : BuilderState). b.taken) made ∙ sym drawn;
          feeders = fed ∙ sym (ap (λ (d : DrawState). d.feeders) draws_are);
          schema = ap (λ (b : BuilderState). b.schema) made ∙ same ∙ sym (ap (λ (d : DrawState). d.schema) draws_are);
        };
        spent = ap (λ (b : BuilderState). b.spent) made;
        keeps = keeps;
        pair = AllZip-left (IsMail front.book) (λ (m : InEnd). m.pair ≡ builder.published.book) puts takes (λ put take is. ap (λ (m : InEnd). m.pair) is.0 ∙ sym (ap (λ (k : Known). k.book) lists)) mails;
        empty = AllZip-left (IsMail front.book) (λ (m : InEnd). m.lengths ≡ []) puts takes (λ put take is. ap (λ (m : InEnd). m.lengths) is.0) mails;
      };
    }

module _ {I O : Type 0} (these : SessionEnds I O) (is_stat : Stat → Type 0) (schema : Schema) (jobs : Jobs I O) where
  pub is_run : (draws : DrawState) (front : Known) (ends : List FeedState) (puts : List InEnd) (takes final_takes : List OutEnd) (works : List (FeedWork I)) (before building : Building) (asks : List (WorkState I O))
      → Seats schema jobs draws front ends puts takes final_takes before → AllZip (HasFed these.left these.faults true) (works_of jobs.feeds ends) works
      → AllZip (LeavesSession these is_stat) (session_works_of schema front jobs.asks takes) asks → IsBuilt before building
      → length asks ≡ length jobs.asks → length (session_works_of schema front jobs.finals final_takes) ≡ length jobs.finals
      → IsRun works building asks (session_works_of schema front jobs.finals final_takes)
  is_run draws front ends puts takes final_takes works before building asks seats fed ran built asks_count finals_count =
      let befores = works_of jobs.feeds ends in
      let n = length jobs.feeds in
      let new : All (IsNewEnd draws.lane schema) ends = subst (All (IsNewEnd draws.lane schema)) (sym seats.ends_are) (new_ends draws.lane schema n) in
      let count : length ends ≡ n = ap length seats.ends_are ∙ length-new_feeds draws.lane schema n in
      let lane : building.draws.lane ≡ draws.lane = built.end.lane ∙ seats.lane in
      let lanes : All (λ (work : FeedWork I). work.end.lane ≡ draws.lane) works = fed_lanes these.left these.faults draws.lane befores works (works_lanes draws.lane schema jobs.feeds ends new) fed in
      let turn : AreInTurn ends n = subst (λ (l : List FeedState). AreInTurn l n) (sym seats.ends_are) (new_feeds_in_turn draws.lane schema n) in
      let turned : AreInTurn (map end_of works) n = fed_in_turn these.left these.faults befores works ends n (works_ends jobs.feeds ends count) turn fed in
      let book : building.builder.published.book ≡ front.book = built.run.book ∙ seats.book in
      let shown = all_works these is_stat schema (λ (work : WorkState I O). work.shown.book ≡ front.book) front in
      let to_pair = λ (work : WorkState I O) (is : work.shown.book ≡ front.book). is ∙ sym book in
      record {
        ended = fed_ended these.left these.faults befores works fed;
        lane = All-weaker (λ (work : FeedWork I). work.end.lane ≡ draws.lane) (λ (work : FeedWork I). work.end.lane ≡ building.draws.lane) (λ work is. is ∙ sym lane) works lanes;
        turn = subst (AreInTurn (map end_of works)) (sym (built.end.feeders ∙ seats.feeders)) turned;
        drawn = built.ended;
        draws = built.draws;
        pair = (
          All-weaker (λ (work : WorkState I O). work.shown.book ≡ front.book) (λ (work : WorkState I O). work.shown.book ≡ building.builder.published.book) to_pair asks
              (ran_pairs these is_stat schema front (session_works_of schema front jobs.asks takes) asks (shown jobs.asks takes (λ session mail none. refl) seats.may.asks) ran),
          All-weaker (λ (work : WorkState I O). work.shown.book ≡ front.book) (λ (work : WorkState I O). work.shown.book ≡ building.builder.published.book) to_pair (session_works_of schema front jobs.finals final_takes)
              (shown jobs.finals final_takes (λ session mail none. refl) seats.may.finals),
        );
        viewers = omega (arith, built.run.viewers, seats.viewers, asks_count, finals_count);
        no_turn = all_works these is_stat schema (λ (work : WorkState I O). HadNoTurn work.session) front jobs.finals final_takes (λ session mail none. none) seats.may.finals;
      }
