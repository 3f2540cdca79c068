use Rattle.std.proofs.Common.{sym, ap₂, ◌∙◌, Some, ℕ}
use Rattle.node_arena.specs.declared.link.Link.{Link}
use Rattle.node_arena.proofs.Edits.{lies_at, child_from-place}
use Rattle.node_arena.proofs.children.Children.child_from.Goals as goal

pub returns-in-Some-clause-child : goal.returns-in-Some-clause-child
returns-in-Some-clause-child g c =
    ap₂ (λ (l : ℕ) (k : Link). Some (l, k)) c.label.ensures c.link.ensures
    ∙ (sym c.in-Some.is ∙ (c.place_of.ensures.first ∙ sym (child_from-place _ _ _ (lies_at _ _ _ c.place_of.ensures.place))))

pub returns-in-None-clause-child : goal.returns-in-None-clause-child
returns-in-None-clause-child g c = sym c.in-None.is ∙ (c.place_of.ensures.first ∙ sym (child_from-place _ _ _ (lies_at _ _ _ c.place_of.ensures.place)))
