use Rattle.std.proofs.Common.{◌≡◌, ℕ, ◌+◌, List, [], ◌∷◌, ◌++◌, take, sym, ap, ◌∙◌, arith}
use Rattle.std.specs.Option.{option_to_list}
use Rattle.std.proofs.lemmas.List.{append_assoc, take_more}
use Rattle.node_arena.specs.declared.link.Link.{Link}
use Rattle.node_arena.specs.Slots.{Children, children_of, slot_of, target}
use Rattle.shape_test.specs.Parts.{content_part, parts_in}
use Rattle.shape_test.specs.declared.parts.Part.{Part}
use Rattle.shape_test.proofs.PartLists.{child_within, parts_in_push}
use Rattle.shape_test.proofs.parts.add_parts.Goals as goal

pub add_content-requires : goal.add_content-requires
add_content-requires g c = child_within c.args.arena.now c.args.id.0 c.loop-i.i c.child_at-label.result c.requires.within c.child_at-label.ensures.in_order (let n = c.child_count-i-end.ensures.count in let t = c.loop-i-test.true in omega (arith, n, t)) c.child_at-label.ensures.child

pub loop-i-preserved : goal.loop-i-preserved
loop-i-preserved g c =
    let cs : Children = children_of (slot_of c.args.arena.now c.args.id.0) in
    let k : ℕ × Link = c.child_at-label.result in
    let here : take (c.loop-i.i + 1) cs ≡ take c.loop-i.i cs ++ k ∷ [] = take_more cs c.loop-i.i k (let n = c.child_count-i-end.ensures.count in let t = c.loop-i-test.true in omega (arith, n, t)) ∙ ap (λ (x : ℕ × Link). take c.loop-i.i cs ++ x ∷ []) (sym c.child_at-label.ensures.child) in
    let more = ap (parts_in c.args.arena.now) here ∙ parts_in_push c.args.arena.now (take c.loop-i.i cs) k in
    let added = c.in_ok-add_content.ensures {u = tt} ∙ ap (λ (ps : List Part). ps ++ option_to_list (content_part c.args.arena.now k.0 (target k.1))) c.loop-i.invariant in
    added ∙ (append_assoc c.args.parts.now.items (parts_in c.args.arena.now (take c.loop-i.i cs)) (option_to_list (content_part c.args.arena.now k.0 (target k.1))) ∙ ap (λ (ps : List Part). c.args.parts.now.items ++ ps) (sym more))
