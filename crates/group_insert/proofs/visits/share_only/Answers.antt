use Rattle.std.proofs.Common.{sym, subst}
use Rattle.group_insert.specs.Visiting.{CanShare}
use Rattle.group_insert.proofs.Sharer.{share_in_range, share_is_node, share_child_in, share_child_node}
use Rattle.group_insert.proofs.visits.share_only.Goals as goal

pub only_child-requires-clause-in_range : goal.only_child-requires-clause-in_range
only_child-requires-clause-in_range g c = share_in_range c.reserve.new.self.slots c.args.at.0 (subst (λ x. ∥ CanShare x c.args.at.0 ∥₁) (sym c.reserve.ensures.kept.0) c.requires)

pub only_child-requires-clause-is_node : goal.only_child-requires-clause-is_node
only_child-requires-clause-is_node g c = share_is_node c.reserve.new.self.slots c.args.at.0 (subst (λ x. ∥ CanShare x c.args.at.0 ∥₁) (sym c.reserve.ensures.kept.0) c.requires)

pub share_content-requires-clause-child_in : goal.share_content-requires-clause-child_in
share_content-requires-clause-child_in g c = share_child_in c.reserve.new.self.slots c.args.at.0 c.in-Some.child c.in-Some.ensures (subst (λ x. ∥ CanShare x c.args.at.0 ∥₁) (sym c.reserve.ensures.kept.0) c.requires)

pub share_content-requires-clause-child_node : goal.share_content-requires-clause-child_node
share_content-requires-clause-child_node g c = share_child_node c.reserve.new.self.slots c.args.at.0 c.in-Some.child c.in-Some.ensures (subst (λ x. ∥ CanShare x c.args.at.0 ∥₁) (sym c.reserve.ensures.kept.0) c.requires)
