use Rattle.std.proofs.Common.{sym, ap, ◌∙◌}
use Rattle.cube_view.specs.Walks.{across}
use Rattle.node_arena.specs.Slots.{link_of}
use Rattle.point_insert.specs.Visited.{had}
use Rattle.proper_path.proofs.Links.{proper_there}
use Rattle.group_insert.proofs.node.own_content.Goals as goal

pub returns-then-is_proper-clause-filled : goal.returns-then-is_proper-clause-filled
returns-then-is_proper-clause-filled g c =
    let kept = c.reserve.ensures.kept.0 in
    let there = proper_there c.reserve.new.self.slots c.args.at.0 across c.in-Some.link c.content.result c.in-Some.is c.content.ensures.link (sym c.is_proper.ensures ∙ c.if-is_proper.true) in
    had (ap (λ z. link_of z c.args.at.0 across) (sym kept) ∙ sym there) kept
