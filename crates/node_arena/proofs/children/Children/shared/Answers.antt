use Rattle.std.proofs.Common.{ℕ, ap₂, arith, length, ap, ◌∙◌, set, subst, ◌<◌, ◌≤◌}
use Rattle.node_arena.specs.declared.link.Link.{Link}
use Rattle.node_arena.specs.Slots.{IsRising, shared, target}
use Rattle.node_arena.proofs.SharedLinks.{share_more, shared_rises}
use Rattle.node_arena.proofs.children.Children.shared.Goals as goal

pub loop-i-preserved : goal.loop-i-preserved
loop-i-preserved c =
    let less : c.loop-i.i < length c.args.self.now = omega (arith, ap length c.self.view_is) in
    share_more _ _ _ _ c.item-child.result less c.loop-i.invariant c.item-child.ensures.item
    (c.set.ensures ∙ ap (λ (k : ℕ × Link). set c.loop-i.rows c.loop-i.i k) (c.new.ensures ∙ ap₂ (λ (l : ℕ) (k : Link). (l, k)) c.label.ensures (c.shared.ensures ∙ ap (λ (k : Link). shared (target k)) c.link.ensures)))

pub invariant_of-result : goal.invariant_of-result
invariant_of-result c =
    let past : length c.args.self.now ≤ c.loop-i.i = omega (arith, ap length c.self.view_is) in
    shared_rises c.args.self.now _ _ past c.loop-i.invariant (subst IsRising c.self.view_is c.self.invariant)
