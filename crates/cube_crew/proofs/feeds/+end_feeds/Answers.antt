use Rattle.std.proofs.Common.{rules, ◌≡◌, true}
use Rattle.cube_crew.specs.Works.{end_of, fed_of}
use Rattle.cube_crew.proofs.LastItem.{map-last}
use Rattle.cube_crew.proofs.Zips.{All-init, All-last}
use Rattle.cube_crew.proofs.feeds.+end_feeds.Goals as goal

pub end_feeds-dones-requires : goal.end_feeds-dones-requires
end_feeds-dones-requires g t c κs within = (search rules, (search rules, (All-init (λ w. w.end.ended ≡ true) c.args.works.items c.pop.new.self.items c.in-Some.work c.in-Some.ensures.items c.requires.ended, search rules)))

pub finish-done-requires : goal.finish-done-requires
finish-done-requires g t c = All-last (λ w. w.end.ended ≡ true) c.args.works.items c.pop.new.self.items c.in-Some.work c.in-Some.ensures.items c.requires.ended

pub returns-clause-dones : goal.returns-clause-dones
returns-clause-dones g t c =
    let is = c.finish-done.ensures in
    map-last fed_of c.args.works.items c.pop.new.self.items c.in-Some.work c.end_feeds-dones.result.0.items c.push_reserved.new.self.items c.finish-done.result.0 c.in-Some.ensures.items c.end_feeds-dones.ensures.dones
    (λ i. record { source = is.source i; counts = record { accepted = is.accepted i; blank = is.counts.0 i; refused = is.counts.1 i; fault = is.fault i; first = is.first i } }) c.push_reserved.ensures.items

pub returns-clause-ended : goal.returns-clause-ended
returns-clause-ended g t c =
    map-last end_of c.args.works.items c.pop.new.self.items c.in-Some.work c.end_feeds-dones.result.1.items c.push_reserved-2.new.self.items c.finish-done.result.1 c.in-Some.ensures.items c.end_feeds-dones.ensures.ended c.finish-done.ensures.ended c.push_reserved-2.ensures.items
