use Rattle.std.proofs.Common.{true, sym, subst, arith}
use Rattle.std.specs.List.{AllZip}
use Rattle.crew_feeder.specs.Leaving.{HasFed}
use Rattle.live_session.specs.Leaves.{LeavesSession}
use Rattle.live_session.specs.State.{ends_of}
use Rattle.cube_crew.proofs.Zips.{AllZip-length, front_back}
use Rattle.cube_crew.proofs.together.run_on_one.Goals as goal

pub returns-clause-feeds : goal.returns-clause-feeds
returns-clause-feeds g c =
    let fed = HasFed g.I.Source.left g.I.Source.faults true in
    let ran = subst (λ ws. AllZip fed ws c.run_in_turn.new.works) c.as_mut_slice.ensures.value c.run_in_turn.ensures.feeds in
    let same = AllZip-length fed c.args.feeds.now.items c.run_in_turn.new.works ran in
    subst (AllZip fed c.args.feeds.now.items) (sym (front_back c.run_in_turn.new.works _ c.args.feeds.now.len (omega (arith, c.args.feeds.now.ok.0, same)))) ran

pub returns-clause-later : goal.returns-clause-later
returns-clause-later g c =
    let leaves = LeavesSession (ends_of g.I.Source g.O.Sink) g.V.CubeView.is_stat in
    let asks = c.args.later.now.asks in
    let ran = subst (λ ws. AllZip leaves ws c.run_sessions.new.works) c.as_mut_slice-2.ensures.value c.run_sessions.ensures in
    let same = AllZip-length leaves asks.items c.run_sessions.new.works ran in
    record {
      built = c.run_in_turn.ensures.building;
      asks = subst (AllZip leaves asks.items) (sym (front_back c.run_sessions.new.works _ asks.len (omega (arith, asks.ok.0, same)))) ran;
    }
