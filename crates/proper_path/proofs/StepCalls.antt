-- One step of a trail, from what its calls leave.
use Rattle.std.proofs.Common.{◌≡◌, ℕ, ◌<◌, List, [], ◌∷◌, ◌++◌, length, Some, None, refl, sym, ap, ◌∙◌, subst}
use Rattle.node_arena.specs.declared.link.SlotId.{SlotId}
use Rattle.proper_path.specs.Rooted.{places_of}
use Rattle.cube_view.specs.Walks.{down}
use Rattle.node_arena.specs.Slots.{proper, shared, Slot, empty_node, link_of, slot_of, IsNode}
use Rattle.node_arena.specs.Calls.{copied, add_node, copy_slot, put_child, set_child}
use Rattle.proper_path.specs.Changes.{IsGrown}
use Rattle.proper_path.proofs.Calls.{grow_put, grow_set}
use Rattle.proper_path.specs.Stepped.{IsStepped, copies, adds}

pub step_copied : (old mid new : List Slot) (at label from to : ℕ) → at < length old → Some (shared from) ≡ link_of old at (down label) → to ≡ length old → mid ≡ copy_slot old from → new ≡ set_child mid at label (proper to) → IsStepped old at (down label) to new
step_copied old mid new at label from to lt is t m n =
    copies from (sym is) t (subst (λ z. IsGrown old z at (down label) (copied (slot_of old from))) (sym (n ∙ (ap (λ z. set_child z at label (proper to)) m ∙ ap (λ z. set_child (copy_slot old from) at label (proper z)) t))) (grow_set old at label (copied (slot_of old from)) (shared from) lt (sym is)))

pub step_added : (old mid new : List Slot) (at label to : ℕ) → at < length old → IsNode (slot_of old at) → None ≡ link_of old at (down label) → to ≡ length old → mid ≡ add_node old → new ≡ put_child mid at label (proper to) → IsStepped old at (down label) to new
step_added old mid new at label to lt nd is t m n =
    adds (sym is) t (subst (λ z. IsGrown old z at (down label) empty_node) (sym (n ∙ (ap (λ z. put_child z at label (proper to)) m ∙ ap (λ z. put_child (add_node old) at label (proper z)) t))) (grow_put old at label empty_node lt nd (sym is)))

-- the places of a longer stack
pub places-push : (ids : List SlotId) (id : SlotId) → places_of (ids ++ id ∷ []) ≡ places_of ids ++ id.0 ∷ []
places-push [] id = refl
places-push (x ∷ ids) id = ap (λ z. x.0 ∷ z) (places-push ids id)
