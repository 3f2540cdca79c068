use Rattle.std.proofs.Common.{refl, sym, ◌∙◌}
use Rattle.cube_view.specs.Walks.{across}
use Rattle.shape_test.proofs.OnlyChild.{shares_alone, child_within, no_content, no_own, shares_test, table_link}
use Rattle.node_arena.specs.Slots.{slot_of, target}
use Rattle.shape_test.proofs.sharing.shares_only.Goals as goal

pub returns-in_default : goal.returns-in_default
returns-in_default g c = (λ yes. shares_alone c.args.arena.now c.args.id.0 c.only_child.ensures.in_order (sym c.only_child.ensures.link ∙ c.in_default.is), λ S. refl)

pub is_table-requires : goal.is_table-requires
is_table-requires g c = child_within c.args.arena.now c.args.id.0 c.in-Some.child (sym c.only_child.ensures.link ∙ c.in-Some.is) c.requires.within

pub returns-then-is_table : goal.returns-then-is_table
returns-then-is_table g c =
    let one = sym c.only_child.ensures.link ∙ c.in-Some.is in
    (λ no. absurd cc, λ S. absurd (no_content c.args.arena.now c.args.id.0 c.in-Some.child one (table_link (slot_of c.args.arena.now (target c.in-Some.child)) across (sym c.is_table.ensures ∙ c.if-is_table.true)) S))

pub content-requires-clause-in_range : goal.content-requires-clause-in_range
content-requires-clause-in_range g c = child_within c.args.arena.now c.args.id.0 c.in-Some.child (sym c.only_child.ensures.link ∙ c.in-Some.is) c.requires.within

pub returns-in_default-content : goal.returns-in_default-content
returns-in_default-content g c =
    let one = sym c.only_child.ensures.link ∙ c.in-Some.is in
    (λ no. absurd cc, λ S. absurd (no_content c.args.arena.now c.args.id.0 c.in-Some.child one (sym c.content.ensures.link ∙ c.in_default-content.is) S))

pub returns-in-Some-content-2 : goal.returns-in-Some-content-2
returns-in-Some-content-2 g c =
    let one = sym c.only_child.ensures.link ∙ c.in-Some.is in
    shares_test c.args.arena.now c.args.id.0 c.in-Some.child one c.in-Some-content.below c.in-Some-content-2.own c.is_shared_with.result (sym c.content.ensures.link ∙ c.in-Some-content.is) (sym c.content-2.ensures.link ∙ c.in-Some-content-2.is) c.is_shared_with.ensures

pub returns-in-None : goal.returns-in-None
returns-in-None g c =
    let one = sym c.only_child.ensures.link ∙ c.in-Some.is in
    (λ no. absurd cc, λ S. absurd (no_own c.args.arena.now c.args.id.0 c.in-Some.child one (sym c.content-2.ensures.link ∙ c.in-None.is) S))
