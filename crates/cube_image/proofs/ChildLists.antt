-- The children of a node, as its slot has them.
use Rattle.std.proofs.Common.{◌≡◌, ℕ, zero, suc, ◌<◌, List, [], ◌∷◌, length, get_or, Some, sym, ◌∙◌, subst, arith}
use Rattle.cube_view.specs.Walks.{down}
use Rattle.node_arena.specs.declared.link.Link.{Link}
use Rattle.node_arena.specs.Slots.{Children, Slot, IsRising, child, children_of, slot_of, link_of}
use Rattle.node_arena.proofs.Labels.{link_down, child_here, child_past, rising-tail}

-- the child at a place is that of its label
child-at : (children : Children) (i : ℕ) (c : ℕ × Link) → IsRising children → i < length children → c ≡ get_or children i c → child children c.0 ≡ Some c.1
child-at [] i c R lt is = absurd (omega (arith, lt))
child-at (x ∷ children) zero c R lt is = subst (λ (y : ℕ × Link). child (x ∷ children) y.0 ≡ Some y.1) (sym is) (child_here x children)
child-at (x ∷ children) (suc i) c R lt is =
    let up : x.0 < (get_or children i c).0 = R 0 (suc i) c (omega arith) lt in
    let low : x.0 < c.0 = subst (λ (y : ℕ × Link). x.0 < y.0) (sym is) up in
    child_past x children c.0 (λ e. omega (arith, e, low)) ∙ child-at children i c (rising-tail x children R) (omega (arith, lt)) is

-- and its link is that of the step down
pub linked_at : (slots : List Slot) (i k : ℕ) (c : ℕ × Link) → IsRising (children_of (slot_of slots i)) → k < length (children_of (slot_of slots i)) → c ≡ get_or (children_of (slot_of slots i)) k c → link_of slots i (down c.0) ≡ Some c.1
linked_at slots i k c R lt is = link_down (slot_of slots i) c.0 ∙ child-at (children_of (slot_of slots i)) k c R lt is
