-- Laws of the way from all of space down to a tile.
use Rattle.std.proofs.Common.{◌≡◌, ℕ, ◌+◌, ◌-◌, ◌*◌, ◌/◌, ◌%◌, ◌^◌, ◌<◌, ◌≤◌, true, [], ◌∷◌, None, refl, sym, ◌∙◌, ap, arith}
use Rattle.std.proofs.Math.Nat.{div-eq_of_lt}
use Rattle.std.proofs.lemmas.Bool.{and_parts, and_from, eqb-true, eq-eqb}
use Rattle.cube_view.specs.Places.{shifted, bit_at, is_under, is_below, longer, longer_tile, top_address, tile_label, tile_at, region_address}
use Rattle.cube_view.specs.declared.address.Tile.{Tile}
use Rattle.cube_view.specs.declared.schema.Schema.{Schema}
use Rattle.cube_view.specs.declared.spot.Spot.{Spot}
use Rattle.cube_view.proofs.LevelShifts.{bit_more, shifted_up, low_bit, high_bit, bits_of_label, by_one}

-- the tile of the next level is longer by its label
pub longer-tile_label : (t : Tile) (i : ℕ) → i < t.z → longer (region_address (tile_at t i)) (tile_label t (i + 1)) ≡ region_address (tile_at t (i + 1))
longer-tile_label t i lt =
    let a = bit_at t.z (i + 1) t.x in
    let b = bit_at t.z (i + 1) t.y in
    let small : a < 2 = omega arith in
    let x : 2 * shifted t.z i t.x + tile_label t (i + 1) % 2 ≡ shifted t.z (i + 1) t.x = ap (λ l. 2 * shifted t.z i t.x + l) (low_bit a b small) ∙ bit_more t.z i t.x lt in
    let y : 2 * shifted t.z i t.y + tile_label t (i + 1) / 2 ≡ shifted t.z (i + 1) t.y = ap (λ l. 2 * shifted t.z i t.y + l) (high_bit a b small) ∙ bit_more t.z i t.y lt in
    λ j. record { dim = 1; level = i + 1; tile = record { z = i + 1; x = x j; y = y j }; values = None ∷ None ∷ None ∷ None ∷ [] }

-- the way begins at all of space
pub tile_at-zero : (t : Tile) → t.x < 2 ^ t.z → t.y < 2 ^ t.z → top_address ≡ region_address (tile_at t 0)
tile_at-zero t x_lt y_lt =
    let n : t.z - 0 ≡ t.z = omega arith in
    let x : shifted t.z 0 t.x ≡ 0 = ap (λ k. t.x / 2 ^ k) n ∙ div-eq_of_lt x_lt in
    let y : shifted t.z 0 t.y ≡ 0 = ap (λ k. t.y / 2 ^ k) n ∙ div-eq_of_lt y_lt in
    sym (λ j. record { dim = 1; level = 0; tile = record { z = 0; x = x j; y = y j }; values = None ∷ None ∷ None ∷ None ∷ [] })

-- and ends at the tile itself
pub tile_at-own : (t : Tile) (i : ℕ) → i ≡ t.z → tile_at t i ≡ t
tile_at-own t i end =
    let n : t.z - i ≡ 0 = omega arith in
    let x : shifted t.z i t.x ≡ t.x = ap (λ k. t.x / 2 ^ k) n ∙ by_one t.x in
    let y : shifted t.z i t.y ≡ t.y = ap (λ k. t.y / 2 ^ k) n ∙ by_one t.y in
    λ j. record { z = end j; x = x j; y = y j }

-- a spot of the tile lies below each level above it
pub is_below-tile_label : (z : Schema) (t : Tile) (i : ℕ) (s : Spot) → i < t.z → t.z ≤ z.depth → is_under z (region_address t) s ≡ true → is_below z (region_address (tile_at t i)) (tile_label t (i + 1)) s ≡ true
is_below-tile_label z t i s lt deep under =
    let parts = and_parts _ _ under in
    let tile = and_parts _ _ parts.0 in
    let x : shifted z.depth t.z s.x ≡ t.x = eqb-true _ _ tile.0 in
    let y : shifted z.depth t.z s.y ≡ t.y = eqb-true _ _ tile.1 in
    let x_at : (k : ℕ) → k ≤ t.z → shifted z.depth k s.x ≡ shifted t.z k t.x = λ k le. shifted_up z.depth t.z k s.x t.x le deep x in
    let y_at : (k : ℕ) → k ≤ t.z → shifted z.depth k s.y ≡ shifted t.z k t.y = λ k le. shifted_up z.depth t.z k s.y t.y le deep y in
    let x_bit : bit_at z.depth (i + 1) s.x ≡ bit_at t.z (i + 1) t.x = ap (λ n. n % 2) (x_at (i + 1) (omega arith)) in
    let y_bit : bit_at z.depth (i + 1) s.y ≡ bit_at t.z (i + 1) t.y = ap (λ n. n % 2) (y_at (i + 1) (omega arith)) in
    and_from _ _ (and_from _ _ (and_from _ _ (eq-eqb _ _ (x_at i (omega arith))) (eq-eqb _ _ (y_at i (omega arith)))) parts.1) (eq-eqb _ _ (omega (arith, x_bit, y_bit)))

-- a spot that goes on by a label lies in that quadrant
pub is_under-quadrant : (z : Schema) (t : Tile) (l : ℕ) (s : Spot) → t.z < z.depth → is_below z (region_address t) l s ≡ true → is_under z (region_address (longer_tile 1 t l)) s ≡ true
is_under-quadrant z t l s deep below =
    let parts = and_parts _ _ below in
    let label : 2 * bit_at z.depth (t.z + 1) s.y + bit_at z.depth (t.z + 1) s.x ≡ l = eqb-true _ _ parts.1 in
    let tile = and_parts _ _ (and_parts _ _ parts.0).0 in
    let x : shifted z.depth t.z s.x ≡ t.x = eqb-true _ _ tile.0 in
    let y : shifted z.depth t.z s.y ≡ t.y = eqb-true _ _ tile.1 in
    let x_more = bit_more z.depth t.z s.x deep in
    let y_more = bit_more z.depth t.z s.y deep in
    let x_low : bit_at z.depth (t.z + 1) s.x < 2 = omega arith in
    let y_low : bit_at z.depth (t.z + 1) s.y < 2 = omega arith in
    let x_is = (bits_of_label l _ _ t.x x_low y_low label).0 in
    let y_is = (bits_of_label l _ _ t.y x_low y_low label).1 in
    let in_x : shifted z.depth (t.z + 1) s.x ≡ 2 * t.x + l % 2 = omega (arith, x, x_more, x_is) in
    let in_y : shifted z.depth (t.z + 1) s.y ≡ 2 * t.y + l / 2 = omega (arith, y, y_more, y_is) in
    and_from _ _ (and_from _ _ (eq-eqb _ _ in_x) (eq-eqb _ _ in_y)) refl
