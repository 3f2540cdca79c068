use Rattle.std.proofs.Common.{◌≡◌, ◌+◌, ◌<◌, List, [], ◌∷◌, ◌++◌, length, take, get_or, sym, ap, ◌∙◌, subst, arith}
use Rattle.std.specs.List.Sorted.{IsPermutation}
use Rattle.std.proofs.lemmas.List.{take_all, take_more}
use Rattle.std.proofs.lemmas.List.Elements.{All-push}
use Rattle.std.proofs.lemmas.List.Sorted.{All-permutation}
use Rattle.node_arena.specs.Slots.{IsRising, children_of, slot_of}
use Rattle.shape_test.specs.Parts.{HaveRising, part_slot, parts_of, parts_under}
use Rattle.shape_test.specs.declared.parts.Part.{Part}
use Rattle.shape_test.proofs.PartLists.{parts_under_push, under_within}
use Rattle.shape_test.proofs.parts.parts_under.Goals as goal

pub loop-part-preserved : goal.loop-part-preserved
loop-part-preserved g c =
    let d : Part = record { label = 0; content = record { 0 = 0 } } in
    let here : take (c.loop-part.part-index + 1) c.args.parts.now ≡ take c.loop-part.part-index c.args.parts.now ++ get_or c.args.parts.now c.loop-part.part-index d ∷ [] = take_more c.args.parts.now c.loop-part.part-index d c.loop-part-test.true in
    record {
      added = c.in_ok-add_parts.ensures.added ∙ (ap (λ (ps : List Part). ps ++ parts_of c.args.arena.now (part_slot (get_or c.args.parts.now c.loop-part.part-index d))) c.loop-part.invariant.added ∙ (sym (parts_under_push c.args.arena.now (take c.loop-part.part-index c.args.parts.now) (get_or c.args.parts.now c.loop-part.part-index d)) ∙ ap (parts_under c.args.arena.now) (sym here)));
      rising = subst (HaveRising c.args.arena.now) (sym here) (All-push (λ (p : Part). IsRising (children_of (slot_of c.args.arena.now (part_slot p)))) (take c.loop-part.part-index c.args.parts.now) (get_or c.args.parts.now c.loop-part.part-index d) c.loop-part.invariant.rising c.in_ok-add_parts.ensures.rising);
    }

pub returns : goal.returns
returns g c =
    let all : take c.loop-part.part-index c.args.parts.now ≡ c.args.parts.now = take_all c.loop-part.part-index c.args.parts.now (let t = c.loop-part-test.false in omega (arith, t)) in
    let same : IsPermutation (parts_under c.args.arena.now c.args.parts.now) c.put_in_order.new.parts.items = subst (λ (ps : List Part). IsPermutation ps c.put_in_order.new.parts.items) (c.loop-part.invariant.added ∙ ap (parts_under c.args.arena.now) all) c.put_in_order.ensures.same in
    record {
      same = same;
      ordered = c.put_in_order.ensures.ordered;
      within = All-permutation (λ (p : Part). part_slot p < length c.args.arena.now) (parts_under c.args.arena.now c.args.parts.now) c.put_in_order.new.parts.items same (under_within c.args.arena.now c.requires.within c.args.parts.now);
      rising = subst (HaveRising c.args.arena.now) all c.loop-part.invariant.rising;
    }
