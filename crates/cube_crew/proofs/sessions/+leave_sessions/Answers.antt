use Rattle.std.proofs.Common.{rules, ◌≡◌, sym, subst}
use Rattle.live_session.specs.Work.{done_of}
use Rattle.cube_crew.specs.Ending.{IsWithin}
use Rattle.published_pair.specs.Pair.{Fresh}
use Rattle.published_pair.specs.Rules.{Known}
use Rattle.cube_crew.proofs.LastItem.{map-last}
use Rattle.cube_crew.proofs.Zips.{All-and, All-init, All-last}
use Rattle.cube_crew.proofs.sessions.+leave_sessions.Goals as goal

pub leave_sessions-dones-requires-clause-pair : goal.leave_sessions-dones-requires-clause-pair
leave_sessions-dones-requires-clause-pair g t c κs within = All-init (λ w. w.shown.book ≡ c.args.given_up.now.whole.book) c.args.works.items c.pop.new.self.items c.in-Some.work (search rules) c.requires.pair

pub covers-requires-after_bounds : goal.covers-requires-after_bounds
covers-requires-after_bounds g t c κs within =
    let book = c.args.given_up.now.whole.book in
    subst (λ (k : Known). k.book ≡ book) (sym c.finish-done.ensures.viewer.0) (All-last (λ w. w.shown.book ≡ book) c.args.works.items c.pop.new.self.items c.in-Some.work c.in-Some.ensures.items c.requires.pair)

pub returns-clause-within : goal.returns-clause-within
returns-clause-within g t c =
    let points = c.args.given_up.now.whole.points in
    let is = c.finish-done.ensures.viewer in
    let one : IsWithin points c.in-Some.work =
    subst (λ (k : Known). Fresh c.in-Some.work.shown.points k.points points) is.1 (subst (λ (k : Known). Fresh k.points c.finish-done.result.1.learned.points points) is.0 c.covers.ensures) in
    All-and (IsWithin points) c.args.works.items c.pop.new.self.items c.in-Some.work c.in-Some.ensures.items c.leave_sessions-dones.ensures.within one

pub returns-clause-dones : goal.returns-clause-dones
returns-clause-dones g t c =
    map-last done_of c.args.works.items c.pop.new.self.items c.in-Some.work c.leave_sessions-dones.result.items c.push_reserved.new.self.items c.finish-done.result.0 c.in-Some.ensures.items c.leave_sessions-dones.ensures.dones c.finish-done.ensures.done c.push_reserved.ensures.items
