-- The binary digits of the length of a short list of children.
use Rattle.std.proofs.Common.{◌≡◌, ℕ, length, sym, ap, ◌∙◌}
use Rattle.probe_core.specs.Bits.{bits}
use Rattle.node_arena.specs.declared.link.Link.{Link}
use Rattle.node_arena.specs.declared.short.Form.{Form}
use Rattle.node_arena.specs.declared.short.Form.TheVariants.{One, Two, Three}
use Rattle.node_arena.specs.Slots.{Children}
use Rattle.node_arena.specs.Short.{form_children}

pub bits-one : (form : Form) (children : Children) (a : ℕ × Link) → form ≡ One a → form_children form ≡ children → bits (length children) ≡ 1
unfolding bits
bits-one form children a is view = ap (λ (z : Children). bits (length z)) (sym view ∙ ap form_children is)

pub bits-two : (form : Form) (children : Children) (a b : ℕ × Link) → form ≡ Two a b → form_children form ≡ children → bits (length children) ≡ 2
unfolding bits
bits-two form children a b is view = ap (λ (z : Children). bits (length z)) (sym view ∙ ap form_children is)

pub bits-three : (form : Form) (children : Children) (a b c : ℕ × Link) → form ≡ Three a b c → form_children form ≡ children → bits (length children) ≡ 2
unfolding bits
bits-three form children a b c is view = ap (λ (z : Children). bits (length z)) (sym view ∙ ap form_children is)
