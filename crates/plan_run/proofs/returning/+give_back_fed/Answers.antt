use Rattle.std.proofs.Common.{Vec, Global}
use Rattle.crew_feeder.specs.declared.done.FeedDone.{FeedDone}
use Rattle.feed_reader.specs.declared.counts.FeedCounts.{FeedCounts}
use Rattle.run_files.specs.Outside.{of_place}
use Rattle.plan_run.proofs.PartReturns.{counted_more, returned_more}
use Rattle.plan_run.proofs.returning.+give_back_fed.Goals as goal

pub returns-clause-back : goal.returns-clause-back
returns-clause-back g t c =
    returned_more (of_place g.P.Place) (λ (f : FeedDone g.row.P-In.Denot). g.P.In.Source.faults f.source)
    c.args.place.now c.give_back_fed-counts.new.place c.give_back_in.new.self c.args.feeds.items c.pop.new.self.items c.in-Some.last c.in-Some.ensures.items c.give_back_fed-counts.ensures.back
    c.give_back_in.ensures.rose c.give_back_in.ensures.quiet c.give_back_in.ensures.files c.give_back_in.ensures.opened c.give_back_in.ensures.writing

pub returns-clause-counts : goal.returns-clause-counts
returns-clause-counts g t c =
    counted_more (λ (v : Vec FeedCounts Global). v.items) (λ (f : FeedDone g.row.P-In.Denot). f.counts) c.give_back_fed-counts.result c.with_one_more.result c.args.feeds.items c.pop.new.self.items c.in-Some.last
    c.in-Some.ensures.items c.give_back_fed-counts.ensures.counts c.with_one_more.ensures
