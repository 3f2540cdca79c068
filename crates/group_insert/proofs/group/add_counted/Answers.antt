use Rattle.std.proofs.Common.{◌≡◌, [], length, refl, sym, ap, ◌∙◌, subst, rules}
use Rattle.group_insert.specs.Visiting.{CanVisitPart, VisitsPart}
use Rattle.group_insert.proofs.Whole.{can_visit_root, root_visited, on_ok_both}
use Rattle.group_insert.proofs.group.add_counted.Goals as goal

pub visit-requires-clause-known : goal.visit-requires-clause-known
visit-requires-clause-known g c =
    let none : c.new-put_off.result.items ≡ [] = search rules in
    subst (λ k. ∥ CanVisitPart c.args.schema.now c.args.work.now.slots c.root_place-place.result c.in_ok-pile.pile.items k ∥₁) (sym none)
    (subst (λ p. ∥ CanVisitPart c.args.schema.now c.args.work.now.slots p c.in_ok-pile.pile.items [] ∥₁) (sym c.root_place-place.ensures)
    (can_visit_root c.args.schema.now c.args.points.now c.in_ok-pile.pile.items c.args.work.now.slots c.args.root (length c.args.points.now) c.requires.group.at_first refl c.in_ok-pile.ensures.items c.requires.group.some c.requires.group.known))

pub returns-clause-inserted : goal.returns-clause-inserted
returns-clause-inserted g c =
    let none : c.new-put_off.result.items ≡ [] = search rules in
    let space : c.root_place-place.result.dim ≡ 1 = ap (λ p. p.dim) c.root_place-place.ensures in
    on_ok_both c.visit.result
    (λ V S. root_visited c.args.schema.now c.args.points.now c.in_ok-pile.pile.items c.args.work.now.slots c.args.root (length c.args.points.now) c.requires.group.at_first refl c.in_ok-pile.ensures.items c.visit.new.work.slots c.visit.new.put_off.items c.requires.group.some (S space ∙ ap (λ k. length k) none)
    (subst (λ p. VisitsPart c.args.schema.now c.args.work.now.slots c.visit.new.work.slots p c.in_ok-pile.pile.items [] c.visit.new.put_off.items) c.root_place-place.ensures
    (subst (λ k. VisitsPart c.args.schema.now c.args.work.now.slots c.visit.new.work.slots c.root_place-place.result c.in_ok-pile.pile.items k c.visit.new.put_off.items) none V)))
    c.visit.ensures.visited c.visit.ensures.settled
