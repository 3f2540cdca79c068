use Rattle.std.proofs.Common.{rules, ◌≡◌, ◌≤◌, ℕ, Bool, true, false, List, All, map, IfErr, IfOk, refl, sym, ap, subst, ◌∙◌}
use Rattle.std.specs.List.{AllZip}
use Rattle.std.proofs.lemmas.Bool.{false≢true}
use Rattle.std.proofs.lemmas.List.Elements.{All-map, All-same}
use Rattle.builder_core.specs.Work.{BuilderWorkState as Building}
use Rattle.live_session.specs.Work.{done_of}
use Rattle.live_session.specs.declared.done.SessionDone.{SessionDone}
use Rattle.cube_crew.specs.Ending.{EndsAsk, EndsFinal, EndsRun, IsRun, IsWithin}
use Rattle.cube_crew.specs.Starving.{FoundMemory, FoundRoom}
use Rattle.cube_crew.specs.Works.{end_of}
use Rattle.cube_crew.specs.declared.jobs.Crewed.{Crewed}
use Rattle.feed_queue.specs.Ends.{AreInTurn, FeedState, is_among, sent_lists}
use Rattle.feed_queue.specs.Items.{entries_in, has_end}
use Rattle.live_session.specs.State.{ends_of}
use Rattle.feed_queue.proofs.InTurn.{ends_in_turn}
use Rattle.published_pair.specs.Rules.{Known}
use Rattle.world_core.specs.Interleaving.{IsInterleaving, entry_points, list_of}
use Rattle.cube_crew.proofs.SessionOutcomes.{or_false}
use Rattle.world_core.specs.PairFact.{IsPrefix}
use Rattle.cube_crew.proofs.RunEnd.{all_within, ends_run, finals_starve}
use Rattle.cube_crew.proofs.run.end_run.Given.{Over}
use Rattle.cube_crew.proofs.run.end_run.Goals.{After-into_journal-journal, In-Err}
use Rattle.cube_crew.proofs.run.end_run.Goals as goal

pub settle-drawn-requires-clause-lane : goal.settle-drawn-requires-clause-lane
settle-drawn-requires-clause-lane g c =
    let lane = c.into_parts-draws.result.0.lane in
    All-same (λ (e : FeedState). e.lane ≡ lane) c.from_vec.result (map end_of c.args.works.items) (c.from_vec.ensures ∙ c.end_feeds-feeds.ensures.ended)
    (All-map (λ (e : FeedState). e.lane ≡ lane) end_of c.args.works.items (λ j w below. c.requires.run.lane j w below ∙ sym (ap (λ (w : Building). w.draws.lane) c.into_parts-draws.ensures)))

pub settle-drawn-requires-clause-each : goal.settle-drawn-requires-clause-each
settle-drawn-requires-clause-each g c f low high =
    ap (λ l. is_among l f) (c.from_vec.ensures ∙ c.end_feeds-feeds.ensures.ended)
    ∙ ends_in_turn (map end_of c.args.works.items) c.args.later.building.draws.feeders c.requires.run.turn f low (subst (λ (w : Building). f ≤ w.draws.feeders) c.into_parts-draws.ensures high)

pub settle-drawn-requires-clause-ends : goal.settle-drawn-requires-clause-ends
settle-drawn-requires-clause-ends g c f low high =
    subst (λ (w : Building). has_end f w.draws.drawn ≡ true) (sym c.into_parts-draws.ensures)
    (c.requires.run.drawn f low (subst (λ (w : Building). f ≤ w.draws.feeders) c.into_parts-draws.ensures high))

pub into_journal-journal-requires-after_bounds : goal.into_journal-journal-requires-after_bounds
into_journal-journal-requires-after_bounds g c κs within f low high =
    let building = c.args.later.building in
    let few : f ≤ building.builder.feeders = subst (λ (w : Building). f ≤ w.builder.feeders) c.into_parts-draws.ensures high in
    let ended : has_end f building.draws.drawn ≡ true = c.requires.run.drawn f low (subst (λ (n : ℕ). f ≤ n) c.requires.run.draws.feeders few) in
    ap (has_end f) (ap (λ (w : Building). w.builder.taken) c.into_parts-draws.ensures ∙ c.requires.run.draws.taken) ∙ ended

pub end_sessions-answered-requires-clause-pair : goal.end_sessions-answered-requires-clause-pair
end_sessions-answered-requires-clause-pair g c κs within =
    let builder = c.into_parts-draws.result.1 in
    let rested : (c.in-Ok.pair.0.ended.points ≡ entry_points c.into_journal-journal.result.0) × (c.in-Ok.pair.0.ended.book ≡ builder.published.book) × (c.in-Ok.pair.0.schema ≡ builder.schema) =
    subst (λ r. IfOk r (λ t. (t.0.ended.points ≡ entry_points c.into_journal-journal.result.0) × (t.0.ended.book ≡ builder.published.book) × (t.0.schema ≡ builder.schema))) c.in-Ok.is c.into_journal-journal.ensures.rested in
    let to : c.args.later.building.builder.published.book ≡ c.in-Ok.pair.0.ended.book = sym (ap (λ (w : Building). w.builder.published.book) c.into_parts-draws.ensures) ∙ sym rested.1 in
    (λ k d below. c.requires.run.pair.0 k d below ∙ to, λ k d below. c.requires.run.pair.1 k d below ∙ to)

-- what is given back, by what the sessions leave
abbrev given : (g : Over) (c : After-into_journal-journal g) (asks finals : List (SessionDone g.row.I.Denot g.row.O.Denot)) (starved closed : Bool) → Crewed g.row.I.Denot g.row.O.Denot
given g c asks finals starved closed = record { feeds = c.from_vec-feeds.result; asks = asks; finals = finals; journal = c.into_journal-journal.result.0; drawn = c.settle-drawn.result; mails = c.into_parts-draws.result.2; starved = starved; closed = closed }

-- the end of the run, by what the sessions leave
ends_by : (g : Over) (c : After-into_journal-journal g) (asks finals : List (SessionDone g.row.I.Denot g.row.O.Denot)) (starved closed : Bool)
    → (closed ≡ true → (whole : Known) × (whole.points ≡ entry_points c.into_journal-journal.result.0) × AllZip (EndsAsk whole) c.args.later.asks.items asks × AllZip (EndsFinal (ends_of g.I.Source g.O.Sink) g.V.CubeView.is_stat whole starved) c.args.finals.items finals)
    → (closed ≡ false → (asks ≡ map done_of c.args.later.asks.items) × (finals ≡ map done_of c.args.finals.items))
    → (closed ≡ false → All (IsWithin (entry_points (entries_in c.into_parts-draws.result.1.taken))) c.args.later.asks.items)
    → (starved ≡ false → (closed ≡ true) × (c.into_parts-draws.result.1.spent ≡ false)) → (starved ≡ false → All FoundRoom c.args.works.items × All FoundMemory c.args.later.asks.items)
    → EndsRun (ends_of g.I.Source g.O.Sink) g.V.CubeView.is_stat c.args.works.items c.args.later.building c.args.later.asks.items c.args.finals.items (given g c asks finals starved closed)
ends_by g c asks finals starved closed whole left within enough found =
    let parts = c.into_parts-draws.result in
    let works = c.args.works.items in
    let run = subst (λ (b : Building). IsRun works b c.args.later.asks.items c.args.finals.items) (sym c.into_parts-draws.ensures) c.requires.run in
    let ended : c.from_vec.result ≡ map end_of works = c.from_vec.ensures ∙ c.end_feeds-feeds.ensures.ended in
    let turn = subst (λ (l : List FeedState). AreInTurn l parts.0.feeders → IsInterleaving parts.0.feeders (list_of (sent_lists l)) c.settle-drawn.result) ended c.settle-drawn.ensures.in_turn in
    subst (λ (b : Building). EndsRun (ends_of g.I.Source g.O.Sink) g.V.CubeView.is_stat works b c.args.later.asks.items c.args.finals.items (given g c asks finals starved closed)) c.into_parts-draws.ensures
    (ends_run (ends_of g.I.Source g.O.Sink) g.V.CubeView.is_stat works parts.0 parts.1 parts.2 c.args.later.asks.items c.args.finals.items (given g c asks finals starved closed)
    run (c.from_vec-feeds.ensures ∙ c.end_feeds-feeds.ensures.dones) refl c.settle-drawn.ensures.drawn turn c.into_journal-journal.ensures.prefix c.into_journal-journal.ensures.whole whole left within enough found)

pub returns-in-Ok : goal.returns-in-Ok
returns-in-Ok g c =
    let builder = c.into_parts-draws.result.1 in
    let whole = c.in-Ok.pair.0.ended in
    let rested : (whole.points ≡ entry_points c.into_journal-journal.result.0) × (whole.book ≡ builder.published.book) × (c.in-Ok.pair.0.schema ≡ builder.schema) =
    subst (λ r. IfOk r (λ t. (t.0.ended.points ≡ entry_points c.into_journal-journal.result.0) × (t.0.ended.book ≡ builder.published.book) × (t.0.schema ≡ builder.schema))) c.in-Ok.is c.into_journal-journal.ensures.rested in
    let none = λ (enough : c.either.result ≡ false). or_false c.has_starved-starved.result c.end_sessions-answered.result.starved (sym c.either.ensures ∙ enough) in
    ends_by g (goal.at.returns-in-Ok g c).After-into_journal-journal c.from_vec-in-Ok.result c.from_vec-in-Ok-2.result c.either.result true
    (λ is. (
      whole,
      rested.0,
      subst (AllZip (EndsAsk whole) c.args.later.asks.items) (sym c.from_vec-in-Ok.ensures) c.end_sessions-answered.ensures.asks,
      subst (AllZip (EndsFinal (ends_of g.I.Source g.O.Sink) g.V.CubeView.is_stat whole c.either.result) c.args.finals.items) (sym c.from_vec-in-Ok-2.ensures)
          (finals_starve (ends_of g.I.Source g.O.Sink) g.V.CubeView.is_stat whole c.either.result c.has_starved-starved.result c.end_sessions-answered.result.starved c.args.finals.items c.end_sessions-answered.result.finals.items c.either.ensures c.end_sessions-answered.ensures.finals),
    ))
    (λ is. absurd (false≢true (sym is)))
    (λ is. absurd (false≢true (sym is)))
    (λ enough. (refl, sym c.spent.ensures ∙ (c.has_starved-starved.ensures (none enough).0).2))
    (λ enough. let found = c.has_starved-starved.ensures (none enough).0 in (All-same FoundRoom c.args.works.items _ (search rules) found.0, All-same FoundMemory c.args.later.asks.items _ (search rules) found.1))

-- what a pair that was given up tells: it is the builder's, and its list is the first of what was taken
given_up_is : (g : Over) (c : In-Err g)
    → (c.in-Err.given_up.whole.book ≡ c.args.later.building.builder.published.book) × IsPrefix c.in-Err.given_up.whole.points (entry_points (entries_in c.into_parts-draws.result.1.taken))
given_up_is g c =
    let builder = c.into_parts-draws.result.1 in
    let is : (c.in-Err.given_up.whole.book ≡ builder.published.book) × IsPrefix c.in-Err.given_up.whole.points (entry_points (entries_in builder.taken)) =
    subst (λ r. IfErr r (λ u. (u.whole.book ≡ builder.published.book) × IsPrefix u.whole.points (entry_points (entries_in builder.taken)))) c.in-Err.is c.into_journal-journal.ensures.given_up in
    (is.0 ∙ ap (λ (w : Building). w.builder.published.book) c.into_parts-draws.ensures, is.1)

pub leave_sessions-requires-clause-pair : goal.leave_sessions-requires-clause-pair
leave_sessions-requires-clause-pair g c κs within k d below = c.requires.run.pair.0 k d below ∙ sym (given_up_is g (goal.at.leave_sessions-requires-clause-pair g c).In-Err).0

pub leave_sessions-requires-in-Err-clause-pair : goal.leave_sessions-requires-in-Err-clause-pair
leave_sessions-requires-in-Err-clause-pair g c κs within k d below = c.requires.run.pair.1 k d below ∙ sym (given_up_is g (goal.at.leave_sessions-requires-in-Err-clause-pair g c).In-Err).0

pub returns-in-Err : goal.returns-in-Err
returns-in-Err g c =
    ends_by g (goal.at.returns-in-Err g c).After-into_journal-journal c.from_vec-in-Err.result c.from_vec-in-Err-2.result true false
    (λ is. absurd (false≢true is))
    (λ is. (c.from_vec-in-Err.ensures ∙ c.leave_sessions.ensures.dones, c.from_vec-in-Err-2.ensures ∙ c.leave_sessions-in-Err.ensures.dones))
    (λ is. all_within _ _ c.args.later.asks.items (given_up_is g (goal.at.returns-in-Err g c).In-Err).1 c.leave_sessions.ensures.within)
    (λ enough. absurd (false≢true (sym enough)))
    (λ enough. absurd (false≢true (sym enough)))
