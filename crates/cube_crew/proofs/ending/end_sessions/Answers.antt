use Rattle.std.proofs.Common.{rules, arith, ◌≡◌, ◌∙◌, ◌++◌, IsSome, length, map, take, drop, sym, ap, subst}
use Rattle.std.specs.List.{AllZip}
use Rattle.std.proofs.lemmas.List.Elements.{All-same}
use Rattle.live_session.specs.Leaves.{LeavesSession}
use Rattle.live_session.specs.Work.{HadNoTurn, done_of}
use Rattle.cube_crew.specs.Ending.{EndsAsk, EndsFinal}
use Rattle.cube_crew.specs.Starving.{FoundMemory}
use Rattle.cube_crew.specs.Works.{HasLearned}
use Rattle.live_session.specs.State.{ends_of}
use Rattle.cube_crew.proofs.SessionWorkEnds.{MayClose, asks_end, finals_end, learned_last, learned_no_turn, ran_last}
use Rattle.cube_crew.proofs.Zips.{AllZip-length, front_back}
use Rattle.cube_crew.proofs.ending.end_sessions.Given.{Over}
use Rattle.cube_crew.proofs.ending.end_sessions.Goals.{After-teach, After-teach-2, After-run_sessions}
use Rattle.cube_crew.proofs.ending.end_sessions.Goals as goal

-- the asks' viewers learn the ended list
asks_learn : (g : Over) (c : After-teach g) → AllZip (HasLearned c.args.pair.0.ended) c.args.asks.0.items c.teach.new.works
asks_learn g c = subst (λ l. AllZip (HasLearned c.args.pair.0.ended) l c.teach.new.works) c.as_mut_slice.ensures.value c.teach.ensures.learned

-- and the finals'
finals_learn : (g : Over) (c : After-teach-2 g) → AllZip (HasLearned c.args.pair.0.ended) c.args.finals.0.items c.teach-2.new.works
finals_learn g c = subst (λ l. AllZip (HasLearned c.args.pair.0.ended) l c.teach-2.new.works) c.as_mut_slice-2.ensures.value c.teach-2.ensures.learned

-- the finals run over what they learned, and stand in their vec as they leave
finals_run : (g : Over) (c : After-run_sessions g) → AllZip (HasLearned c.args.pair.0.ended) c.args.finals.0.items c.teach-2.new.works
    → AllZip (LeavesSession (ends_of g.I.Source g.O.Sink) g.V.CubeView.is_stat) c.teach-2.new.works c.run_sessions.new.works
    × (take c.args.finals.0.len (c.run_sessions.new.works ++ drop (length c.run_sessions.new.works) (take c.args.finals.0.len (c.teach-2.new.works ++ drop (length c.teach-2.new.works) c.args.finals.0.items))) ≡ c.run_sessions.new.works)
finals_run g c learned =
    let same = AllZip-length (HasLearned c.args.pair.0.ended) c.args.finals.0.items c.teach-2.new.works learned in
    let back = c.as_mut_slice-3.ensures.value ∙ front_back c.teach-2.new.works _ c.args.finals.0.len (omega (arith, c.args.finals.0.ok.0, same)) in
    let ran = subst (λ l. AllZip (LeavesSession (ends_of g.I.Source g.O.Sink) g.V.CubeView.is_stat) l c.run_sessions.new.works) back c.run_sessions.ensures in (
      ran,
      front_back c.run_sessions.new.works _ c.args.finals.0.len (omega (arith, c.args.finals.0.ok.0, same, AllZip-length (LeavesSession (ends_of g.I.Source g.O.Sink) g.V.CubeView.is_stat) c.teach-2.new.works c.run_sessions.new.works ran)),
    )

pub run_sessions-requires-clause-no_turn : goal.run_sessions-requires-clause-no_turn
run_sessions-requires-clause-no_turn g c κs within =
    let learned = finals_learn g (goal.at.run_sessions-requires-clause-no_turn g c).After-teach-2 in
    let same = AllZip-length (HasLearned c.args.pair.0.ended) c.args.finals.0.items c.teach-2.new.works learned in
    All-same (λ w. HadNoTurn w.session) c.as_mut_slice-3.result.now c.teach-2.new.works
    (c.as_mut_slice-3.ensures.value ∙ front_back c.teach-2.new.works _ c.args.finals.0.len (omega (arith, c.args.finals.0.ok.0, same)))
    (learned_no_turn c.args.pair.0.ended c.args.finals.0.items c.teach-2.new.works learned c.requires.no_turn)

pub close_sessions-asks-requires-clause-learned : goal.close_sessions-asks-requires-clause-learned
close_sessions-asks-requires-clause-learned g c κs within =
    let learned = asks_learn g (goal.at.close_sessions-asks-requires-clause-learned g c).After-teach in
    let same = AllZip-length (HasLearned c.args.pair.0.ended) c.args.asks.0.items c.teach.new.works learned in
    All-same (λ w. IsSome w.last) _ c.teach.new.works (front_back c.teach.new.works _ c.args.asks.0.len (omega (arith, c.args.asks.0.ok.0, same)))
    (learned_last c.args.pair.0.ended c.args.asks.0.items c.teach.new.works learned)

pub close_sessions-finals-requires-clause-learned : goal.close_sessions-finals-requires-clause-learned
close_sessions-finals-requires-clause-learned g c κs within =
    let at = goal.at.close_sessions-finals-requires-clause-learned g c in
    let learned = finals_learn g at.After-teach-2 in
    let ran = finals_run g at.After-run_sessions learned in
    All-same (λ w. IsSome w.last) _ c.run_sessions.new.works ran.1
    (ran_last (ends_of g.I.Source g.O.Sink) g.V.CubeView.is_stat c.teach-2.new.works c.run_sessions.new.works ran.0 (learned_last c.args.pair.0.ended c.args.finals.0.items c.teach-2.new.works learned))

pub returns-clause-asks : goal.returns-clause-asks
returns-clause-asks g c =
    let learned = asks_learn g (goal.at.returns-clause-asks g c).After-teach in
    let same = AllZip-length (HasLearned c.args.pair.0.ended) c.args.asks.0.items c.teach.new.works learned in
    let back = front_back c.teach.new.works _ c.args.asks.0.len (omega (arith, c.args.asks.0.ok.0, same)) in
    subst (AllZip (EndsAsk c.args.pair.0.ended) c.args.asks.0.items) (sym (c.close_sessions-asks.ensures.dones ∙ ap (map done_of) back))
    (asks_end c.args.pair.0.ended c.args.asks.0.items c.teach.new.works learned (All-same MayClose c.teach.new.works _ (sym back) c.close_sessions-asks.ensures.within))

pub returns-clause-finals : goal.returns-clause-finals
returns-clause-finals g c =
    let learned = finals_learn g (goal.at.returns-clause-finals g c).After-teach-2 in
    let ran = finals_run g (goal.at.returns-clause-finals g c).After-run_sessions learned in
    let starved = c.has_starved_session-starved.result in
    subst (AllZip (EndsFinal (ends_of g.I.Source g.O.Sink) g.V.CubeView.is_stat c.args.pair.0.ended starved) c.args.finals.0.items) (sym (c.close_sessions-finals.ensures.dones ∙ ap (map done_of) ran.1))
    (finals_end (ends_of g.I.Source g.O.Sink) g.V.CubeView.is_stat c.args.pair.0.ended starved c.args.finals.0.items c.teach-2.new.works c.run_sessions.new.works learned ran.0
    (λ enough. All-same FoundMemory c.run_sessions.new.works _ (sym ran.1 ∙ search rules) (c.has_starved_session-starved.ensures enough)))
