-- A list of children as it is stored: up to three in the list's own bytes, more as rows.
use Rattle.std.specs.Prelude.{[], ◌∷◌}
use Rattle.node_arena.specs.declared.short.Form.{Form}
use Rattle.node_arena.specs.declared.short.Form.TheVariants.{No, One, Two, Three, Many}
use Rattle.node_arena.specs.Slots.{Children}

-- the children of each form, in order
abbrev pub form_children : Form → Children
form_children No = []
form_children (One a) = a ∷ []
form_children (Two a b) = a ∷ b ∷ []
form_children (Three a b c) = a ∷ b ∷ c ∷ []
form_children (Many rows) = rows.value.items
