use Rattle.std.proofs.Common.{◌≡◌, ◌≤◌, List, length, None, Result, Some, subst, sym, ℕ}
use Rattle.std.specs.List.{AllZip}
use Rattle.std.specs.List.Sorted.{IsPermutation}
use Rattle.cube_view.specs.Bag.{most_points}
use Rattle.cube_view.specs.Points.{Point}
use Rattle.cube_view.specs.declared.schema.Schema.{Schema}
use Rattle.flat_view.specs.Kept.{flat_points}
use Rattle.run_files.proofs.Apart.{residual_is}
use Rattle.run_files.specs.Headed.{IsHeaded, OpensFeeds}
use Rattle.run_files.specs.Outside.{at, file_of, of_place, of_sink, of_source, PlaceSeen, SinkSeen}
use Rattle.run_files.specs.declared.stop.Stop.{Stop}
use Rattle.save_run.proofs.FeedRows.{all_unread, few_feeds}
use Rattle.flat_run.specs.Answering.{AnswersNamed}
use Rattle.flat_session.specs.Answers.{flat_basis}
use Rattle.flat_run.specs.Ends.{FlatEnd, FlatEnds}
use Rattle.flat_run.specs.Names.{flat_names}
use Rattle.flat_run.specs.Reading.{AreSound}
use Rattle.flat_run.proofs.FlatEnds.{ended_answering, ended_by_header, ended_by_plan, ended_reading, given_points, read_sound}
use Rattle.flat_run.proofs.files.flat_files.Given.{Over}
use Rattle.flat_run.proofs.files.flat_files.Goals.{After-read_points}
use Rattle.flat_run.proofs.files.flat_files.Goals as goal

-- what is seen of the place
abbrev place_seen : (g : Over) → PlaceSeen g.row.P.Denot
place_seen g = of_place g.P.Place

-- and of the sink
abbrev sink_seen : (g : Over) → SinkSeen g.row.O.Denot
sink_seen g = of_sink g.O.Sink

-- the feeds of the plan are opened
opened_feeds : (g : Over) (c : After-read_points g) → OpensFeeds (place_seen g) (sink_seen g) c.in_ok-plan.plan.schema (at c.load_plan.new.place c.load_plan.new.out) (at c.open_feeds.new.place c.open_feeds.new.out) c.in_ok-plan.plan.feeds None
opened_feeds g c = subst (λ (names : List (List ℕ)). OpensFeeds (place_seen g) (sink_seen g) c.in_ok-plan.plan.schema (at c.load_plan.new.place c.load_plan.new.out) (at c.open_feeds.new.place c.open_feeds.new.out) names None) c.as_slice.ensures c.in_ok-feeds.ensures.opens

-- and their headers read
headed_jobs : (g : Over) (c : After-read_points g) → AllZip (λ name. IsHeaded g.P.In.Source.left g.P.In.Source.faults c.in_ok-plan.plan.schema (file_of (g.P.Place.files c.load_plan.new.place) name)) c.in_ok-plan.plan.feeds c.in_ok-feeds.feeds
headed_jobs g c = subst (λ (names : List (List ℕ)). AllZip (λ name. IsHeaded g.P.In.Source.left g.P.In.Source.faults c.in_ok-plan.plan.schema (file_of (g.P.Place.files c.load_plan.new.place) name)) names c.in_ok-feeds.feeds) c.as_slice.ensures c.in_ok-feeds.ensures.feeds

pub returns-in_err-plan : goal.returns-in_err-plan
returns-in_err-plan g c =
    let a = c.args in
    let k = c.in_err-plan.field-0.0 in
    subst (λ (r : FlatEnd). FlatEnds (place_seen g) (sink_seen g) (at a.place.now a.out.now) (at c.load_plan.new.place c.load_plan.new.out) (flat_names a.names.now) r) (sym (residual_is c.from_residual.result k c.from_residual.ensures.1))
    (ended_by_plan (place_seen g) (sink_seen g) a.names.now.plan.now a.names.now.script.now a.place.now c.load_plan.new.place a.out.now c.load_plan.new.out k c.in_err-plan.ensures.leaves c.in_err-plan.ensures.read c.in_err-plan.ensures.plan)

pub returns-in_err-feeds : goal.returns-in_err-feeds
returns-in_err-feeds g c =
    let k = c.in_err-feeds.field-0.0 in
    let plan = c.in_ok-plan.plan in
    let a = c.args in
    let opens = subst (λ (names : List (List ℕ)). OpensFeeds (place_seen g) (sink_seen g) plan.schema (at c.load_plan.new.place c.load_plan.new.out) (at c.open_feeds.new.place c.open_feeds.new.out) names (Some k)) c.as_slice.ensures c.in_err-feeds.ensures.opens in
    subst (λ (r : FlatEnd). FlatEnds (place_seen g) (sink_seen g) (at a.place.now a.out.now) (at c.open_feeds.new.place c.open_feeds.new.out) (flat_names a.names.now) r) (sym (residual_is c.from_residual-in_err-feeds.result k c.from_residual-in_err-feeds.ensures.1))
    (ended_by_header (place_seen g) (sink_seen g) a.names.now.plan.now a.names.now.script.now a.place.now c.load_plan.new.place a.out.now c.load_plan.new.out plan c.in_ok-plan.ensures.leaves c.in_ok-plan.ensures.plan c.open_feeds.new.place c.open_feeds.new.out k opens)

pub read_points-requires-clause-few : goal.read_points-requires-clause-few
read_points-requires-clause-few g c κs within =
    few_feeds g.P.In.Source.left g.P.In.Source.faults c.in_ok-plan.plan.schema (file_of (g.P.Place.files c.load_plan.new.place)) c.as_slice.result.now c.in_ok-feeds.feeds c.in_ok-feeds.ensures.feeds
    (subst (λ (names : List (List ℕ)). length names ≤ 8) (sym c.as_slice.ensures) c.in_ok-plan.ensures.plan.plan.files.feeds.1)

pub read_points-requires-clause-unread : goal.read_points-requires-clause-unread
read_points-requires-clause-unread g c κs within =
    all_unread g.P.In.Source.left g.P.In.Source.faults c.in_ok-plan.plan.schema (file_of (g.P.Place.files c.load_plan.new.place)) c.as_slice.result.now c.in_ok-feeds.feeds c.in_ok-feeds.ensures.feeds c.in_ok-feeds.ensures.quiet

pub returns-in_err-points : goal.returns-in_err-points
returns-in_err-points g c =
    let a = c.args in
    let k = c.in_err-points.field-0.0 in
    let plan = c.in_ok-plan.plan in
    let over = (goal.at.returns-in_err-points g c).After-read_points in
    subst (λ (r : FlatEnd). FlatEnds (place_seen g) (sink_seen g) (at a.place.now a.out.now) (at c.read_points.new.place c.open_feeds.new.out) (flat_names a.names.now) r) (sym (residual_is c.from_residual-in_err-points.result k c.from_residual-in_err-points.ensures.1))
    (ended_reading (place_seen g) (sink_seen g) a.names.now.plan.now a.names.now.script.now a.place.now c.load_plan.new.place a.out.now c.load_plan.new.out plan c.in_ok-plan.ensures.leaves c.in_ok-plan.ensures.plan
    (of_source g.P.In.Source) c.open_feeds.new.place c.read_points.new.place c.open_feeds.new.out (opened_feeds g over) c.in_ok-feeds.feeds (headed_jobs g over) k c.in_err-points.ensures)

pub new-view-requires-clause-sound : goal.new-view-requires-clause-sound
new-view-requires-clause-sound g c =
    subst (AreSound c.in_ok-plan.plan.schema) (sym c.into_vec.ensures) (read_sound (place_seen g) (of_source g.P.In.Source) c.in_ok-plan.plan.schema c.open_feeds.new.place c.read_points.new.place c.in_ok-feeds.feeds c.in_ok-points.points c.in_ok-points.ensures).0

pub new-view-requires-clause-few : goal.new-view-requires-clause-few
new-view-requires-clause-few g c =
    subst (λ (l : List Point). length l ≤ most_points) (sym c.into_vec.ensures) (read_sound (place_seen g) (of_source g.P.In.Source) c.in_ok-plan.plan.schema c.open_feeds.new.place c.read_points.new.place c.in_ok-feeds.feeds c.in_ok-points.points c.in_ok-points.ensures).1

pub returns : goal.returns
returns g c =
    let a = c.args in
    let plan = c.in_ok-plan.plan in
    let points = c.in_ok-points.points in
    let over = (goal.at.returns g c).After-read_points in
    let given = given_points (place_seen g) (sink_seen g) a.names.now.plan.now a.names.now.script.now a.place.now c.load_plan.new.place a.out.now c.load_plan.new.out plan c.in_ok-plan.ensures.leaves c.in_ok-plan.ensures.plan
    (of_source g.P.In.Source) c.open_feeds.new.place c.read_points.new.place c.open_feeds.new.out (opened_feeds g over) c.in_ok-feeds.feeds (headed_jobs g over) points c.in_ok-points.ensures in
    let view = c.new-view.result in
    let order = subst (λ (l : List Point). IsPermutation l (flat_points view)) c.into_vec.ensures c.new-view.ensures.points in
    let answers = subst (λ (z : Schema). AnswersNamed (place_seen g) (sink_seen g) (at c.read_points.new.place c.open_feeds.new.out) (at c.answer_named-answered.new.place c.answer_named-answered.new.out) (flat_basis z (flat_points view)) a.names.now.script.now c.answer_named-answered.result) c.new-view.ensures.schema c.answer_named-answered.ensures.script in
    ended_answering (place_seen g) (sink_seen g) a.names.now.plan.now a.names.now.script.now a.place.now c.load_plan.new.place a.out.now c.load_plan.new.out plan c.in_ok-plan.ensures.leaves c.in_ok-plan.ensures.plan
    (of_source g.P.In.Source) c.open_feeds.new.place c.read_points.new.place c.open_feeds.new.out (opened_feeds g over) c.in_ok-feeds.feeds (headed_jobs g over) c.in_ok-points.ensures.read c.in_ok-points.ensures.given_back
    points (flat_points view) given order c.answer_named-answered.new.place c.answer_named-answered.new.out c.answer_named-answered.result answers c.answer_named-answered.ensures.faults
