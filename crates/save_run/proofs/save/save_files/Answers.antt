use Rattle.std.proofs.Common.{◌≤◌, List, length, None, Result, Some, subst, sym, ℕ}
use Rattle.std.specs.List.{AllZip}
use Rattle.feed_reader.specs.declared.counts.FeedCounts.{FeedCounts}
use Rattle.image_run.specs.declared.end.ImageEnd.{ImageEnd}
use Rattle.run_files.proofs.Apart.{residual_is}
use Rattle.run_files.specs.Headed.{IsHeaded, OpensFeeds}
use Rattle.run_files.specs.Outside.{at, file_of, of_place, of_sink, of_source, PlaceSeen, SinkSeen}
use Rattle.run_files.specs.declared.stop.Stop.{Stop}
use Rattle.save_run.proofs.SaveEnds.{ended_by_header, ended_by_plan, ended_reading, stood_reading}
use Rattle.save_run.proofs.FeedRows.{all_unread, few_feeds}
use Rattle.save_run.proofs.EndsAfterFeeds.{ended_by_cube}
use Rattle.save_run.specs.Ends.{SaveEnds}
use Rattle.save_run.specs.Names.{saving}
use Rattle.save_run.specs.Writing.{SavesCube}
use Rattle.save_run.proofs.save.save_files.Given.{Over}
use Rattle.save_run.proofs.save.save_files.Goals.{After-read_feeds}
use Rattle.save_run.proofs.save.save_files.Goals as goal

-- what is seen of the place
abbrev place_of : (g : Over) → PlaceSeen g.row.P.Denot
place_of g = of_place g.P.Place

-- and of the sink
abbrev sink_of : (g : Over) → SinkSeen g.row.O.Denot
sink_of g = of_sink g.O.Sink

-- the feeds of the plan are opened
feeds_open : (g : Over) (c : After-read_feeds g) → OpensFeeds (place_of g) (sink_of g) c.in_ok-plan.plan.schema (at c.load_plan.new.place c.load_plan.new.out) (at c.open_feeds.new.place c.open_feeds.new.out) c.in_ok-plan.plan.feeds None
feeds_open g c = subst (λ (names : List (List ℕ)). OpensFeeds (place_of g) (sink_of g) c.in_ok-plan.plan.schema (at c.load_plan.new.place c.load_plan.new.out) (at c.open_feeds.new.place c.open_feeds.new.out) names None) c.as_slice.ensures c.in_ok-feeds.ensures.opens

-- and their headers read
feeds_headed : (g : Over) (c : After-read_feeds g) → AllZip (λ name. IsHeaded g.P.In.Source.left g.P.In.Source.faults c.in_ok-plan.plan.schema (file_of (g.P.Place.files c.load_plan.new.place) name)) c.in_ok-plan.plan.feeds c.in_ok-feeds.feeds
feeds_headed g c = subst (λ (names : List (List ℕ)). AllZip (λ name. IsHeaded g.P.In.Source.left g.P.In.Source.faults c.in_ok-plan.plan.schema (file_of (g.P.Place.files c.load_plan.new.place) name)) names c.in_ok-feeds.feeds) c.as_slice.ensures c.in_ok-feeds.ensures.feeds

pub returns-in_err-plan : goal.returns-in_err-plan
returns-in_err-plan g c =
    let a = c.args in
    let k = c.in_err-plan.field-0.0 in
    subst (λ (r : Result ImageEnd Stop). SaveEnds (place_of g) (sink_of g) (at a.place.now a.out.now) (at c.load_plan.new.place c.load_plan.new.out) (saving a.plan.now a.image.now) r) (sym (residual_is c.from_residual.result k c.from_residual.ensures.1))
    (ended_by_plan (place_of g) (sink_of g) a.place.now c.load_plan.new.place a.out.now c.load_plan.new.out a.plan.now a.image.now k c.in_err-plan.ensures.leaves c.in_err-plan.ensures.read c.in_err-plan.ensures.plan)

pub returns-in_err-feeds : goal.returns-in_err-feeds
returns-in_err-feeds g c =
    let a = c.args in
    let k = c.in_err-feeds.field-0.0 in
    let plan = c.in_ok-plan.plan in
    let opens = subst (λ (names : List (List ℕ)). OpensFeeds (place_of g) (sink_of g) plan.schema (at c.load_plan.new.place c.load_plan.new.out) (at c.open_feeds.new.place c.open_feeds.new.out) names (Some k)) c.as_slice.ensures c.in_err-feeds.ensures.opens in
    subst (λ (r : Result ImageEnd Stop). SaveEnds (place_of g) (sink_of g) (at a.place.now a.out.now) (at c.open_feeds.new.place c.open_feeds.new.out) (saving a.plan.now a.image.now) r) (sym (residual_is c.from_residual-in_err-feeds.result k c.from_residual-in_err-feeds.ensures.1))
    (ended_by_header (place_of g) (sink_of g) a.place.now c.load_plan.new.place a.out.now c.load_plan.new.out a.plan.now a.image.now plan c.in_ok-plan.ensures.leaves c.in_ok-plan.ensures.plan c.open_feeds.new.place c.open_feeds.new.out k opens)

pub read_feeds-requires-clause-few : goal.read_feeds-requires-clause-few
read_feeds-requires-clause-few g c κs within =
    few_feeds g.P.In.Source.left g.P.In.Source.faults c.in_ok-plan.plan.schema (file_of (g.P.Place.files c.load_plan.new.place)) c.as_slice.result.now c.in_ok-feeds.feeds c.in_ok-feeds.ensures.feeds
    (subst (λ (names : List (List ℕ)). length names ≤ 8) (sym c.as_slice.ensures) c.in_ok-plan.ensures.plan.plan.files.feeds.1)

pub read_feeds-requires-clause-unread : goal.read_feeds-requires-clause-unread
read_feeds-requires-clause-unread g c κs within =
    all_unread g.P.In.Source.left g.P.In.Source.faults c.in_ok-plan.plan.schema (file_of (g.P.Place.files c.load_plan.new.place)) c.as_slice.result.now c.in_ok-feeds.feeds c.in_ok-feeds.ensures.feeds c.in_ok-feeds.ensures.quiet

pub returns-in_err-cube : goal.returns-in_err-cube
returns-in_err-cube g c =
    let a = c.args in
    let k = c.in_err-cube.field-0.0 in
    let plan = c.in_ok-plan.plan in
    let over = (goal.at.returns-in_err-cube g c).After-read_feeds in
    subst (λ (r : Result ImageEnd Stop). SaveEnds (place_of g) (sink_of g) (at a.place.now a.out.now) (at c.read_feeds.new.place c.open_feeds.new.out) (saving a.plan.now a.image.now) r) (sym (residual_is c.from_residual-in_err-cube.result k c.from_residual-in_err-cube.ensures.1))
    (ended_reading (place_of g) (sink_of g) a.place.now c.load_plan.new.place a.out.now c.load_plan.new.out a.plan.now a.image.now plan c.in_ok-plan.ensures.leaves c.in_ok-plan.ensures.plan
    (of_source g.P.In.Source) c.open_feeds.new.place c.read_feeds.new.place c.open_feeds.new.out (feeds_open g over) c.in_ok-feeds.feeds (feeds_headed g over) k c.in_err-cube.ensures)

pub returns : goal.returns
returns g c =
    let a = c.args in
    let plan = c.in_ok-plan.plan in
    let cube = c.in_ok-cube.cube in
    let counts = c.in_ok-cube.counts in
    let over = (goal.at.returns g c).After-read_feeds in
    let stood =
    stood_reading (place_of g) (sink_of g) a.place.now c.load_plan.new.place a.out.now c.load_plan.new.out a.plan.now a.image.now plan c.in_ok-plan.ensures.leaves c.in_ok-plan.ensures.plan
    (of_source g.P.In.Source) c.open_feeds.new.place c.read_feeds.new.place c.open_feeds.new.out (feeds_open g over) c.in_ok-feeds.feeds (feeds_headed g over) c.accepted_laws.ensures.sound (cube, counts) c.in_ok-cube.ensures in
    let saves = subst (λ (k : List FeedCounts). SavesCube (place_of g) (sink_of g) (at c.read_feeds.new.place c.open_feeds.new.out) (at c.save_read-saved.new.place c.save_read-saved.new.out) plan (cube, k) a.image.now c.save_read-saved.result) c.as_slice-2.ensures c.save_read-saved.ensures in
    ended_by_cube (place_of g) (sink_of g) a.place.now c.read_feeds.new.place a.out.now c.open_feeds.new.out a.plan.now plan cube counts stood c.save_read-saved.new.place c.save_read-saved.new.out a.image.now c.save_read-saved.result saves
