use Rattle.std.proofs.Common.{rules, ◌≡◌, Option, IfSome, IsSome, sym, subst}
use Rattle.live_session.specs.Work.{done_of}
use Rattle.published_pair.specs.Rules.{Known}
use Rattle.cube_crew.proofs.LastItem.{map-last}
use Rattle.cube_crew.proofs.Zips.{All-and, All-init, All-last}
use Rattle.published_pair.specs.Pair.{Fresh}
use Rattle.cube_crew.proofs.sessions.+close_sessions.Goals as goal

pub close_sessions-dones-requires-clause-learned : goal.close_sessions-dones-requires-clause-learned
close_sessions-dones-requires-clause-learned g t c κs within = All-init (λ w. IsSome w.last) c.args.works.items c.pop.new.self.items c.in-Some.work (search rules) c.requires.learned

closed : (shown shown' learned learned' : Known) (last last' : Option Known) → shown ≡ shown' → learned ≡ learned' → last ≡ last' → IfSome last (λ l. Fresh shown.points learned.points l.points) → IfSome last' (λ l. Fresh shown'.points learned'.points l.points)
closed shown shown' learned learned' last last' a b e is =
    subst (λ (k : Option Known). IfSome k (λ l. Fresh shown'.points learned'.points l.points)) e
    (subst (λ (k : Known). IfSome last (λ l. Fresh shown'.points k.points l.points)) b
    (subst (λ (k : Known). IfSome last (λ l. Fresh k.points learned.points l.points)) a is))

pub close-requires-after_bounds : goal.close-requires-after_bounds
close-requires-after_bounds g t c κs within = subst IsSome (sym c.finish-done.ensures.viewer.2) (All-last (λ w. IsSome w.last) c.args.works.items c.pop.new.self.items c.in-Some.work c.in-Some.ensures.items c.requires.learned)

pub returns-clause-within : goal.returns-clause-within
returns-clause-within g t c =
    let viewer = c.finish-done.result.1 in
    let is = c.finish-done.ensures.viewer in
    let one : IfSome c.in-Some.work.last (λ l. Fresh c.in-Some.work.shown.points c.in-Some.work.learned.points l.points) =
    closed viewer.shown c.in-Some.work.shown viewer.learned c.in-Some.work.learned viewer.last c.in-Some.work.last is.0 is.1 is.2 c.close.ensures.within in
    All-and (λ w. IfSome w.last (λ l. Fresh w.shown.points w.learned.points l.points)) c.args.works.items c.pop.new.self.items c.in-Some.work c.in-Some.ensures.items c.close_sessions-dones.ensures.within one

pub returns-clause-dones : goal.returns-clause-dones
returns-clause-dones g t c =
    map-last done_of c.args.works.items c.pop.new.self.items c.in-Some.work c.close_sessions-dones.result.items c.push_reserved.new.self.items c.finish-done.result.0 c.in-Some.ensures.items c.close_sessions-dones.ensures.dones c.finish-done.ensures.done c.push_reserved.ensures.items
