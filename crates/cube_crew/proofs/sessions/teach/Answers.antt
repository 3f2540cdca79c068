use Rattle.std.proofs.Common.{rules, arith, ◌≡◌, ◌+◌, ◌<◌, [], ◌∷◌, ◌++◌, Some, drop, length, slice_index_or, take, sym, ap, subst, ◌∙◌}
use Rattle.std.specs.List.{AllZip}
use Rattle.std.proofs.lemmas.List.{drop-drop, drop-set-lt, length-set, take_more_set}
use Rattle.std.proofs.lemmas.List.Elements.{all_zip_more}
use Rattle.cube_crew.specs.Works.{HasLearned}
use Rattle.published_pair.specs.Rules.{Known}
use Rattle.world_core.specs.PairFact.{IsPrefix}
use Rattle.cube_crew.proofs.Zips.{All-init, All-last, same-at}
use Rattle.cube_crew.proofs.sessions.teach.Goals as goal

pub learn_last-requires-after_bounds : goal.learn_last-requires-after_bounds
learn_last-requires-after_bounds g c κs within =
    let whole = c.args.rested.now.ended in
    let i = c.loop-work.work-index in
    let x = c.work-item.result in
    let is : c.in-Some.last.whole ≡ whole = All-last (λ last. last.whole ≡ whole) c.loop-work.lasts.items c.pop.new.self.items c.in-Some.last (search rules) c.loop-work.invariant.same in
    let at = same-at i c.loop-work.works c.args.works.now x c.loop-work.invariant.rest in
    ap (λ (k : Known). k.book) is ∙ sym (ap (λ w. w.shown.book) at ∙ c.requires.pair i x (search rules))

pub loop-work-preserved : goal.loop-work-preserved
loop-work-preserved g c =
    let whole = c.args.rested.now.ended in
    let i = c.loop-work.work-index in
    let xs = c.args.works.now in
    let ys = c.loop-work.works in
    let x = c.work-item.result in
    let new = c.learn_last.new.self in
    let says = c.learn_last.ensures in
    let popped : c.loop-work.lasts.items ≡ c.pop.new.self.items ++ c.in-Some.last ∷ [] = search rules in
    let is : c.in-Some.last.whole ≡ whole = All-last (λ last. last.whole ≡ whole) c.loop-work.lasts.items c.pop.new.self.items c.in-Some.last popped c.loop-work.invariant.same in
    let at = c.work-item.is ∙ same-at i ys xs x c.loop-work.invariant.rest in
    let learned : HasLearned whole (slice_index_or ys i x) new = record {
      same = says.same;
      shown = says.shown;
      learned = (says.learned.0 ∙ ap (λ (k : Known). k.points) is, says.learned.1 ∙ ap (λ (k : Known). Some k) is);
      grown = subst (λ (k : Known). IsPrefix (slice_index_or ys i x).learned.points k.points) is says.grown;
    } in
    let below : i < length ys = subst (λ k. i < k) (sym c.loop-work.invariant.whole) c.loop-work-test.true in
    record {
      learned = subst (AllZip (HasLearned whole) (take (i + 1) xs)) (sym (take_more_set ys i new below)) (all_zip_more (HasLearned whole) xs (take i ys) i x new c.loop-work-test.true at c.loop-work.invariant.learned (subst (λ w. HasLearned whole w new) (sym c.work-item.is) learned));
      rest = drop-set-lt (i + 1) ys i new (omega arith) ∙ sym (drop-drop 1 i ys) ∙ ap (drop 1) c.loop-work.invariant.rest ∙ drop-drop 1 i xs;
      whole = length-set ys i new ∙ c.loop-work.invariant.whole;
      same = All-init (λ last. last.whole ≡ whole) c.loop-work.lasts.items c.pop.new.self.items c.in-Some.last popped c.loop-work.invariant.same;
      left = search rules;
    }
