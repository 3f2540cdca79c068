use Rattle.std.proofs.Common.{sym, ap₂, ◌∙◌, Some, ℕ}
use Rattle.node_arena.specs.declared.link.Link.{Link}
use Rattle.node_arena.proofs.Edits.{lies_at, child-found, child-missed, child-past}
use Rattle.node_arena.proofs.children.Children.child.Goals as goal

pub returns-in-Some-clause-link : goal.returns-in-Some-clause-link
returns-in-Some-clause-link g c = sym (child-found _ _ _ _ (lies_at _ _ _ c.place_of.ensures.place) (sym c.place_of.ensures.first ∙ (c.in-Some.is ∙ ap₂ (λ (l : ℕ) (k : Link). Some (l, k)) (sym c.label.ensures ∙ c.if-label.true) (sym c.link.ensures))))

pub returns-in_default-clause-link : goal.returns-in_default-clause-link
returns-in_default-clause-link g c = sym (child-missed _ _ _ _ c.place_of.ensures.in_order (lies_at _ _ _ c.place_of.ensures.place) (sym c.place_of.ensures.first ∙ c.in-Some.is) (λ e. c.if-label.false (c.label.ensures ∙ e)))

pub returns-in_default-2-clause-link : goal.returns-in_default-2-clause-link
returns-in_default-2-clause-link g c = sym (child-past _ _ _ (lies_at _ _ _ c.place_of.ensures.place) (sym c.place_of.ensures.first ∙ c.in_default.is))
