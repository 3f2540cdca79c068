use Rattle.std.proofs.Common.{arith, ◌≡◌, true, All, length, sym, ap, subst, ◌∙◌}
use Rattle.std.specs.List.{AllZip}
use Rattle.std.proofs.lemmas.List.Elements.{All-same}
use Rattle.builder_core.specs.Built.{IsBuilt}
use Rattle.builder_core.specs.Work.{BuilderWorkState as Building, work_state}
use Rattle.crew_feeder.specs.Leaving.{HasFed}
use Rattle.crew_feeder.specs.Taking.{IsReady}
use Rattle.live_session.specs.Leaves.{LeavesSession}
use Rattle.live_session.specs.Work.{HadNoTurn}
use Rattle.cube_crew.specs.Ending.{EndsRun, IsRun}
use Rattle.cube_crew.specs.Opened.{IsMail}
use Rattle.cube_crew.specs.Works.{session_works_of, works_of}
use Rattle.live_session.specs.State.{ends_of}
use Rattle.mailbox.specs.Ends.{OutEnd}
use Rattle.cube_crew.proofs.SessionOutcomes.{all_works}
use Rattle.cube_crew.proofs.RunOutcome.{crewed}
use Rattle.feed_queue.proofs.InTurn.{length-new_feeds}
use Rattle.cube_crew.proofs.FeederOutcomes.{IsNewEnd, new_ends, works_ready}
use Rattle.cube_crew.proofs.RunSeats.{Seats, batch_bounds, is_run, seats_of}
use Rattle.cube_crew.proofs.Zips.{AllZip-length, AllZip-right}
use Rattle.cube_crew.proofs.run.run_opened.Given.{Over}
use Rattle.cube_crew.proofs.run.run_opened.Goals.{After-new-builder, After-run_together, After-seat_feeds-works, After-seat_sessions-asks, After-seat_sessions-finals}
use Rattle.cube_crew.proofs.run.run_opened.Goals as goal

-- what the run begins with
seats_at : (g : Over) (c : After-new-builder g) → Seats c.args.opened.schema c.args.jobs c.args.opened.draws c.args.opened.publisher.published c.args.opened.ends.items c.args.opened.mails.ins c.args.opened.mails.outs.items c.args.opened.mails.final_outs.items (work_state c.args.opened.draws c.new-builder.result c.args.opened.mails.ins)
seats_at g c =
    let r = c.requires in
    seats_of c.args.opened.schema c.args.jobs c.args.opened.draws c.args.opened.publisher.published c.args.opened.ends.items c.args.opened.mails.ins c.args.opened.mails.outs.items c.args.opened.mails.final_outs.items c.new-builder.result c.len-feeders.result c.args.opened.publisher.viewers c.args.opened.publisher.schema
    r.jobs r.feeds.0.0 r.feeds.0.1 r.mails.0 (omega (arith, c.args.opened.mails.outs.ok.0, r.mails.1)) r.mails.2 (omega (arith, c.args.opened.mails.final_outs.ok.0, r.mails.3)) c.len-feeders.ensures r.publisher.3 r.publisher.2 c.new-builder.ensures.new c.new-builder.ensures.keeps

-- the feeders' works that are seated
seated_feeds : (g : Over) (c : After-seat_feeds-works g) → c.seat_feeds-works.result.items ≡ works_of c.args.jobs.feeds c.args.opened.ends.items
seated_feeds g c = c.seat_feeds-works.ensures.works ∙ ap (λ l. works_of l c.args.opened.ends.items) c.into_vec.ensures

-- the finals'
seated_finals : (g : Over) (c : After-seat_sessions-finals g) → c.seat_sessions-finals.result.items ≡ session_works_of c.args.opened.schema c.args.opened.publisher.published c.args.jobs.finals c.args.opened.mails.final_outs.items
seated_finals g c = c.seat_sessions-finals.ensures.works ∙ (λ i. session_works_of (c.requires.publisher.2 i) c.args.opened.publisher.published (c.into_vec-final_jobs.ensures i) c.args.opened.mails.final_outs.items)

-- and the asks'
seated_asks : (g : Over) (c : After-seat_sessions-asks g) → c.seat_sessions-asks.result.items ≡ session_works_of c.args.opened.schema c.args.opened.publisher.published c.args.jobs.asks c.args.opened.mails.outs.items
seated_asks g c = c.seat_sessions-asks.ensures.works ∙ (λ i. session_works_of (c.requires.publisher.2 i) c.args.opened.publisher.published (c.into_vec-ask_jobs.ensures i) c.args.opened.mails.outs.items)

-- the feeders have fed
have_fed : (g : Over) (c : After-run_together g) → c.seat_feeds-works.result.items ≡ works_of c.args.jobs.feeds c.args.opened.ends.items → AllZip (HasFed g.I.Source.left g.I.Source.faults true) (works_of c.args.jobs.feeds c.args.opened.ends.items) c.run_together.new.feeds.items
have_fed g c seated = subst (λ l. AllZip (HasFed g.I.Source.left g.I.Source.faults true) l c.run_together.new.feeds.items) seated c.run_together.ensures.feeds

-- the asks have left
have_asked : (g : Over) (c : After-run_together g) → c.seat_sessions-asks.result.items ≡ session_works_of c.args.opened.schema c.args.opened.publisher.published c.args.jobs.asks c.args.opened.mails.outs.items
    → AllZip (LeavesSession (ends_of g.I.Source g.O.Sink) g.V.CubeView.is_stat) (session_works_of c.args.opened.schema c.args.opened.publisher.published c.args.jobs.asks c.args.opened.mails.outs.items) c.run_together.new.later.asks.items
have_asked g c seated = subst (λ l. AllZip (LeavesSession (ends_of g.I.Source g.O.Sink) g.V.CubeView.is_stat) l c.run_together.new.later.asks.items) seated c.run_together.ensures.later.asks

-- and the builder has built
has_built : (g : Over) (c : After-run_together g) → IsBuilt (work_state c.args.opened.draws c.new-builder.result c.args.opened.mails.ins) c.run_together.new.later.building
has_built g c = subst (λ (w : Building). IsBuilt w c.run_together.new.later.building) c.new.ensures.parts c.run_together.ensures.later.built

-- there are as many works as were seated
same_many : (g : Over) (c : After-run_together g) → (c.run_together.new.feeds.len ≡ c.seat_feeds-works.result.len) × (c.run_together.new.later.asks.len ≡ c.seat_sessions-asks.result.len)
same_many g c = (
  omega (arith, c.run_together.new.feeds.ok.0, c.seat_feeds-works.result.ok.0, AllZip-length (HasFed g.I.Source.left g.I.Source.faults true) c.seat_feeds-works.result.items c.run_together.new.feeds.items c.run_together.ensures.feeds),
  omega (arith, c.run_together.new.later.asks.ok.0, c.seat_sessions-asks.result.ok.0, AllZip-length (LeavesSession (ends_of g.I.Source g.O.Sink) g.V.CubeView.is_stat) c.seat_sessions-asks.result.items c.run_together.new.later.asks.items c.run_together.ensures.later.asks),
)

pub seat_feeds-works-requires-clause-len : goal.seat_feeds-works-requires-clause-len
seat_feeds-works-requires-clause-len g c =
    let n = ap length c.into_vec.ensures in
    let ends = ap length c.requires.feeds.0.0 in
    let new = length-new_feeds c.args.opened.draws.lane c.args.opened.schema (length c.args.jobs.feeds) in
    (omega (arith, c.args.opened.ends.ok.0, ends, new, c.into_vec.result.ok.0, n), omega (arith, c.into_vec.result.ok.0, n, c.requires.feeds.1))

pub seat_sessions-finals-requires-clause-sessions : goal.seat_sessions-finals-requires-clause-sessions
seat_sessions-finals-requires-clause-sessions g c κs within =
    let n = ap length c.into_vec-final_jobs.ensures in
    (omega (arith, c.into_vec-final_jobs.result.ok.0, n, c.requires.views.0), All-same HadNoTurn c.into_vec-final_jobs.result.items c.args.jobs.finals c.into_vec-final_jobs.ensures c.requires.jobs.finals)

pub seat_sessions-finals-requires-clause-mails : goal.seat_sessions-finals-requires-clause-mails
seat_sessions-finals-requires-clause-mails g c κs within =
    let n = ap length c.into_vec-final_jobs.ensures in
    (omega (arith, c.into_vec-final_jobs.result.ok.0, n, c.requires.mails.3), λ k d below. (c.requires.mails.2 k d below).0)

pub seat_sessions-finals-requires-clause-room : goal.seat_sessions-finals-requires-clause-room
seat_sessions-finals-requires-clause-room g c κs within =
    let n = ap length c.into_vec-final_jobs.ensures in
    (c.args.rooms.finals_empty, omega (arith, c.into_vec-final_jobs.result.ok.0, n, c.requires.answered.2))

pub seat_sessions-asks-requires-clause-sessions : goal.seat_sessions-asks-requires-clause-sessions
seat_sessions-asks-requires-clause-sessions g c κs within =
    let n = ap length c.into_vec-ask_jobs.ensures in
    let m = ap length c.into_vec-final_jobs.ensures in (
      omega (arith, c.into_vec-ask_jobs.result.ok.0, n, c.into_vec-final_jobs.result.ok.0, m, c.requires.views.0, c.seat_sessions-finals.ensures.len.1),
      All-same HadNoTurn c.into_vec-ask_jobs.result.items c.args.jobs.asks c.into_vec-ask_jobs.ensures c.requires.jobs.asks,
    )

pub seat_sessions-asks-requires-clause-mails : goal.seat_sessions-asks-requires-clause-mails
seat_sessions-asks-requires-clause-mails g c κs within =
    let n = ap length c.into_vec-ask_jobs.ensures in
    let book = c.args.opened.publisher.published.book in (
      omega (arith, c.into_vec-ask_jobs.result.ok.0, n, c.requires.mails.1),
      AllZip-right (IsMail book) (λ (out : OutEnd). out.pair ≡ book) c.args.opened.mails.ins c.args.opened.mails.outs.items (λ put take is. ap (λ (out : OutEnd). out.pair) is.1) c.requires.mails.0,
    )

pub seat_sessions-asks-requires-clause-room : goal.seat_sessions-asks-requires-clause-room
seat_sessions-asks-requires-clause-room g c κs within =
    let n = ap length c.into_vec-ask_jobs.ensures in
    (c.args.rooms.asks_empty, omega (arith, c.into_vec-ask_jobs.result.ok.0, n, c.requires.answered.0))

pub new-builder-requires-clause-feeders : goal.new-builder-requires-clause-feeders
new-builder-requires-clause-feeders g c κs within = (omega (arith, c.len-feeders.ensures, c.requires.jobs.feeds.0), omega (arith, c.len-feeders.ensures, c.requires.jobs.feeds.1))

pub new-builder-requires-clause-batch : goal.new-builder-requires-clause-batch
new-builder-requires-clause-batch g c κs within = batch_bounds c.args.opened.schema

pub new-requires-after_bounds : goal.new-requires-after_bounds
new-requires-after_bounds g c κs within = (seats_at g (goal.at.new-requires-after_bounds g c).After-new-builder).new

pub run_together-requires-clause-feeds : goal.run_together-requires-clause-feeds
run_together-requires-clause-feeds g c κs within =
    let opened = c.args.opened in
    let lane = opened.draws.lane in
    let jobs = c.args.jobs.feeds in
    let new = subst (All (IsNewEnd lane opened.schema)) (sym c.requires.feeds.0.0) (new_ends lane opened.schema (length jobs)) in
    All-same (IsReady opened.schema) c.seat_feeds-works.result.items (works_of jobs opened.ends.items) (seated_feeds g (goal.at.run_together-requires-clause-feeds g c).After-seat_feeds-works)
    (works_ready lane opened.schema jobs opened.ends.items c.requires.jobs.headers c.requires.jobs.going new)

pub run_together-requires-clause-later : goal.run_together-requires-clause-later
run_together-requires-clause-later g c κs within =
    let opened = c.args.opened in
    let takes = opened.mails.outs.items in (
      c.new.ensures.new,
      All-same (λ w. HadNoTurn w.session) c.seat_sessions-asks.result.items (session_works_of opened.schema opened.publisher.published c.args.jobs.asks takes) (seated_asks g (goal.at.run_together-requires-clause-later g c).After-seat_sessions-asks)
          (all_works (ends_of g.I.Source g.O.Sink) g.V.CubeView.is_stat opened.schema (λ w. HadNoTurn w.session) opened.publisher.published c.args.jobs.asks takes (λ session mail none. none) c.requires.jobs.asks),
    )

pub end_run-requires-clause-run : goal.end_run-requires-clause-run
end_run-requires-clause-run g c κs within =
    let at = goal.at.end_run-requires-clause-run g c in
    let opened = c.args.opened in
    let final = seated_finals g at.After-seat_sessions-finals in
    let asks_count : length c.run_together.new.later.asks.items ≡ length c.args.jobs.asks =
    omega (arith, c.run_together.new.later.asks.ok.0, (same_many g at.After-run_together).1, c.seat_sessions-asks.ensures.len.0, c.into_vec-ask_jobs.result.ok.0, ap length c.into_vec-ask_jobs.ensures) in
    let finals_count : length (session_works_of opened.schema opened.publisher.published c.args.jobs.finals opened.mails.final_outs.items) ≡ length c.args.jobs.finals =
    omega (arith, ap length final, c.seat_sessions-finals.result.ok.0, c.seat_sessions-finals.ensures.len.0, c.into_vec-final_jobs.result.ok.0, ap length c.into_vec-final_jobs.ensures) in
    subst (IsRun c.run_together.new.feeds.items c.run_together.new.later.building c.run_together.new.later.asks.items) (sym final)
    (is_run (ends_of g.I.Source g.O.Sink) g.V.CubeView.is_stat opened.schema c.args.jobs opened.draws opened.publisher.published opened.ends.items opened.mails.ins opened.mails.outs.items opened.mails.final_outs.items
    c.run_together.new.feeds.items (work_state opened.draws c.new-builder.result opened.mails.ins) c.run_together.new.later.building c.run_together.new.later.asks.items
    (seats_at g at.After-new-builder) (have_fed g at.After-run_together (seated_feeds g at.After-seat_feeds-works)) (have_asked g at.After-run_together (seated_asks g at.After-seat_sessions-asks)) (has_built g at.After-run_together) asks_count finals_count)

pub end_run-requires-clause-fed : goal.end_run-requires-clause-fed
end_run-requires-clause-fed g c κs within =
    let n = ap length c.into_vec.ensures in
    let same = (same_many g (goal.at.end_run-requires-clause-fed g c).After-run_together).0 in
    (omega (arith, c.into_vec.result.ok.0, n, same, c.seat_feeds-works.ensures.len, c.requires.fed.1), omega (arith, c.into_vec.result.ok.0, n, same, c.seat_feeds-works.ensures.len, c.requires.fed.2))

pub end_run-requires-clause-answered : goal.end_run-requires-clause-answered
end_run-requires-clause-answered g c κs within =
    let n = ap length c.into_vec-ask_jobs.ensures in
    let m = ap length c.into_vec-final_jobs.ensures in
    let same = (same_many g (goal.at.end_run-requires-clause-answered g c).After-run_together).1 in
    (omega (arith, c.into_vec-ask_jobs.result.ok.0, n, same, c.seat_sessions-asks.ensures.len.0, c.requires.answered.1), omega (arith, c.into_vec-final_jobs.result.ok.0, m, c.seat_sessions-finals.ensures.len.0, c.requires.answered.3))

pub returns : goal.returns
returns g c =
    let at = goal.at.returns g c in
    let opened = c.args.opened in
    let works = c.run_together.new.feeds.items in
    let building = c.run_together.new.later.building in
    let asks = c.run_together.new.later.asks.items in
    let over = subst (λ l. EndsRun (ends_of g.I.Source g.O.Sink) g.V.CubeView.is_stat works building asks l c.end_run.result) (seated_finals g at.After-seat_sessions-finals) c.end_run.ensures in
    crewed (ends_of g.I.Source g.O.Sink) g.V.CubeView.is_stat opened.schema c.args.jobs c.transcript_laws.ensures.stays opened.draws opened.publisher.published opened.ends.items opened.mails.ins opened.mails.outs.items opened.mails.final_outs.items
    works (work_state opened.draws c.new-builder.result opened.mails.ins) building asks c.end_run.result
    (seats_at g at.After-new-builder) (have_fed g at.After-run_together (seated_feeds g at.After-seat_feeds-works)) (have_asked g at.After-run_together (seated_asks g at.After-seat_sessions-asks)) (has_built g at.After-run_together) over
