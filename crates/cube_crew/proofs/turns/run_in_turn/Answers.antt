use Rattle.std.proofs.Common.{rules, arith, ◌+◌, ◌<◌, true, drop, length, take, sym, ap, subst, ◌∙◌}
use Rattle.std.specs.List.{AllZip}
use Rattle.std.proofs.lemmas.List.{drop-drop, drop-set-lt, length-set, take_more_set}
use Rattle.std.proofs.lemmas.List.Elements.{all_zip_more}
use Rattle.builder_core.specs.Built.{IsBuilt}
use Rattle.crew_feeder.specs.Leaving.{HasFed}
use Rattle.crew_feeder.specs.Taking.{IsReady}
use Rattle.cube_crew.proofs.Zips.{same-at}
use Rattle.cube_crew.proofs.turns.run_in_turn.Goals as goal

pub run_feeder-requires-clause-ready : goal.run_feeder-requires-clause-ready
run_feeder-requires-clause-ready g c κs within =
    let i = c.loop-work.work-index in
    let x = c.work-item.result in
    let at = same-at i c.loop-work.works c.args.works.now x c.loop-work.invariant.rest in
    subst (IsReady c.args.schema.now) (sym at) (c.requires.ready i x (search rules))

pub loop-work-preserved : goal.loop-work-preserved
loop-work-preserved g c =
    let i = c.loop-work.work-index in
    let xs = c.args.works.now in
    let ys = c.loop-work.works in
    let x = c.work-item.result in
    let new = c.run_feeder.new.work in
    let at = c.work-item.is ∙ same-at i ys xs x c.loop-work.invariant.rest in
    let below : i < length ys = subst (λ k. i < k) (sym c.loop-work.invariant.whole) c.loop-work-test.true in
    let fed = HasFed g.I.Source.left g.I.Source.faults true in
    record {
      fed = subst (AllZip fed (take (i + 1) xs)) (sym (take_more_set ys i new below)) (all_zip_more fed xs (take i ys) i x new c.loop-work-test.true at c.loop-work.invariant.fed (subst (λ w. fed w new) (sym c.work-item.is) c.run_feeder.ensures.fed));
      rest = drop-set-lt (i + 1) ys i new (omega arith) ∙ sym (drop-drop 1 i ys) ∙ ap (drop 1) c.loop-work.invariant.rest ∙ drop-drop 1 i xs;
      whole = length-set ys i new ∙ c.loop-work.invariant.whole;
      built = c.run_feeder.ensures.building;
    }

pub returns-clause-building : goal.returns-clause-building
returns-clause-building g c = subst (λ w. IsBuilt w c.run_rest.new.self) c.begun-start.ensures.value c.run_rest.ensures
