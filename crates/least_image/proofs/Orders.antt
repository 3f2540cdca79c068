-- The order of slots that are led one by one, and what stands in it.
use Rattle.std.proofs.Common.{◌≡◌, ℕ, List, [], ◌∷◌, ◌++◌, map, refl, sym, ap, ap₂, ◌∙◌}
use Rattle.std.proofs.lemmas.List.{map-append}
use Rattle.std.proofs.lemmas.List.Concat.{flat_map-cons}
use Rattle.std.specs.List.{flat_map}
use Rattle.node_arena.specs.Slots.{Slot, slot_of}
use Rattle.cube_image.specs.Order.{owned_by, IsOrder, moved, in_order}

module _ (slots slots' : List Slot) (led : ℕ → ℕ) (owned : (i : ℕ) → owned_by (slot_of slots' (led i)) ≡ map led (owned_by (slot_of slots i))) where
  flat-led : (places : List ℕ) → map led (flat_map (λ i. owned_by (slot_of slots i)) places) ≡ flat_map (λ i. owned_by (slot_of slots' i)) (map led places)
  flat-led [] = refl
  flat-led (p ∷ places) =
      ap (map led) (flat_map-cons (λ i. owned_by (slot_of slots i)) p places)
      ∙ (map-append led (owned_by (slot_of slots p)) (flat_map (λ i. owned_by (slot_of slots i)) places)
      ∙ (ap₂ ◌++◌ (sym (owned p)) (flat-led places)
      ∙ sym (flat_map-cons (λ i. owned_by (slot_of slots' i)) (led p) (map led places))))

  pub order-led : (places : List ℕ) → led 0 ≡ 0 → IsOrder slots places → IsOrder slots' (map led places)
  order-led places top O = ap (map led) O ∙ ap₂ (λ (k : ℕ) (ks : List ℕ). k ∷ ks) top (flat-led places)

  pub in_order-led : (all places : List ℕ) → ((i : ℕ) → moved (map led all) (slot_of slots' (led i)) ≡ moved all (slot_of slots i)) → map (λ i. moved (map led all) (slot_of slots' i)) (map led places) ≡ map (λ i. moved all (slot_of slots i)) places
  in_order-led all [] same = refl
  in_order-led all (p ∷ places) same = ap₂ (λ (s : Slot) (ss : List Slot). s ∷ ss) (same p) (in_order-led all places same)
