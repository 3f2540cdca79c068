-- What a walk to an address of time costs in a cube is a number of the bag.
use Rattle.std.proofs.Common.{◌≡◌, ℕ, zero, suc, ◌+◌, ◌-◌, ◌*◌, ◌^◌, ◌<◌, ◌≤◌, cond, eqb, ltb, List, [], ◌∷◌, length, take, Option, Some, None, false, refl, sym, ◌∙◌, ap, ap₂, subst, arith}
use Rattle.std.proofs.Math.Nat.{div-lt_iff_lt-mul}
use Rattle.std.proofs.lemmas.Bool.{ne_eqb, lt-ltb}
use Rattle.std.proofs.lemmas.Nat.{pow-add, pow_pos}
use Rattle.std.proofs.lemmas.List.{length-take-le}
use Rattle.cube_view.specs.Bag.{amount, anywhere}
use Rattle.cube_view.specs.Costs.{ViewCosts, has_spot, is_found, cost_if, space_cost, categories_cost, address_cost}
use Rattle.cube_view.specs.Places.{shifted, time_dim, deepest, longer, longer_tile, next_dim, tile_at, region_address, IsAddress}
use Rattle.cube_view.specs.Points.{Point}
use Rattle.cube_view.specs.declared.address.Address.{Address}
use Rattle.cube_view.specs.declared.address.Tile.{Tile}
use Rattle.cube_view.specs.declared.schema.Schema.{Schema}
use Rattle.cube_view.proofs.SchemaBounds.{few_categories}
use Rattle.cube_view.proofs.TileWays.{tile_at-own}
use Rattle.cube_store.specs.BagCosts.{AreBagCosts, bag_costs}
use Rattle.cube_store.specs.Reading.{IsWalkAddress}
use Rattle.cube_store.proofs.AddressSteps.{open_at, walked-longer, walked-next}

module _ (z : Schema) (costs : ViewCosts) (h : List Point) (same : AreBagCosts z costs h) where
  -- space

  module _ (t : Tile) (deep : t.z ≤ z.depth) (tx : t.x < 2 ^ t.z) (ty : t.y < 2 ^ t.z) where
    within : (i n : ℕ) → i ≤ t.z → n < 2 ^ t.z → shifted t.z i n < 2 ^ i
    within i n le lt =
        let all : i + (t.z - i) ≡ t.z = omega (arith, le) in
        let whole : n < 2 ^ i * 2 ^ (t.z - i) = subst (λ (k : ℕ). n < k) (ap (λ (k : ℕ). 2 ^ k) (sym all) ∙ pow-add 2 i (t.z - i)) lt in
        (div-lt_iff_lt-mul (pow_pos (t.z - i))).1 whole

    walked-tile_at : (i : ℕ) → i ≤ t.z → IsWalkAddress z (region_address (tile_at t i))
    walked-tile_at i le = record {
      placed = record {
        dim = (omega arith, omega arith);
        level = omega (arith, le, deep);
        space = λ e. refl;
        depth = omega (arith, le, deep);
        tile = (within i t.x le tx, within i t.y le ty);
      };
      four = refl;
      beyond = record { past = λ k low. open_at k; later = λ k low. open_at k };
      fresh = λ two none. absurd (omega (arith, two));
    }

    space_cost-same : (i : ℕ) → i ≤ t.z → space_cost costs z h t i ≡ space_cost (bag_costs z h) z h t i
    space_cost-same zero le = refl
    space_cost-same (suc i) le =
        let down = same.down (region_address (tile_at t i)) (walked-tile_at i (omega (arith, le))) (omega (arith, le, deep)) in
        ap₂ (λ (m n : ℕ). m + n) (space_cost-same i (omega (arith, le))) (ap (cost_if (is_found z h (tile_at t i))) down)

  -- the categories

  one_deep : (a : Address) (k : ℕ) → a.dim ≡ k + 2 → k < length z.categories → deepest z a.dim ≡ 1
  one_deep a k e lt = rw (ne_eqb a.dim 1 (λ (x : a.dim ≡ 1). omega (arith, e, x)), lt-ltb a.dim (time_dim z) (omega (arith, e, lt))) refl

  placed-longer : (a : Address) (v k : ℕ) → IsAddress z a → a.dim ≡ k + 2 → a.level ≡ 0 → k < length z.categories → IsAddress z (longer a v)
  placed-longer a v k A e none lt =
      let other : eqb a.dim 1 ≡ false = ne_eqb a.dim 1 (λ (x : a.dim ≡ 1). omega (arith, e, x)) in
      let tile : longer_tile a.dim a.tile v ≡ a.tile = ap (λ b. cond b (longer_tile 1 a.tile v) a.tile) other in
      record {
        dim = A.dim;
        level = let one = one_deep a k e lt in omega (arith, none, one);
        space = λ x. absurd (omega (arith, e, x));
        depth = subst (λ (t : Tile). t.z ≤ z.depth) (sym tile) A.depth;
        tile = subst (λ (t : Tile). (t.x < 2 ^ t.z) × (t.y < 2 ^ t.z)) (sym tile) A.tile;
      }

  placed-next : (a : Address) → IsAddress z a → a.dim < time_dim z → IsAddress z (next_dim a)
  placed-next a A lt = record {
    dim = (omega arith, omega (arith, lt));
    level = omega arith;
    space = λ e. absurd (let low = A.dim.0 in omega (arith, e, low));
    depth = A.depth;
    tile = A.tile;
  }

  categories_cost-same : (values : List (Option ℕ)) (a : Address) → IsWalkAddress z a → 2 ≤ a.dim → a.level ≡ 0 → a.dim + length values ≡ time_dim z → categories_cost costs z h values a ≡ categories_cost (bag_costs z h) z h values a
  categories_cost-same [] a W two none all = ap (λ (n : ℕ). 2 * n) (same.before a W (omega (arith, all)))
  categories_cost-same (None ∷ values) a W two none all =
      let before : a.dim < time_dim z = omega (arith, all) in
      let next = walked-next z a W (λ e. omega (arith, e, before)) (placed-next a W.placed before) in
      ap (λ (n : ℕ). 1 + n) (categories_cost-same values (next_dim a) next (omega (arith, two)) refl (omega (arith, all)))
  categories_cost-same (Some v ∷ values) a W two none all =
      let k = a.dim - 2 in
      let e : a.dim ≡ k + 2 = omega (arith, two) in
      let lt : k < length z.categories = omega (arith, all, two) in
      let above : a.level < deepest z a.dim = let one = one_deep a k e lt in omega (arith, none, one) in
      let below = walked-longer z a W v above (λ x. absurd (omega (arith, x, two))) (placed-longer a v k W.placed e none lt) in
      let before : a.dim < time_dim z = omega (arith, all) in
      let next = walked-next z (longer a v) below (λ x. omega (arith, x, before)) (placed-next (longer a v) below.placed before) in
      ap₂ (λ (m n : ℕ). m + cost_if (has_spot z h (longer a v)) (1 + n)) (same.down a W above) (categories_cost-same values (next_dim (longer a v)) next (omega (arith, two)) refl (omega (arith, all)))

  -- a whole walk
  pub address_cost-same : (a : Address) → IsWalkAddress z a → address_cost costs z h a ≡ address_cost (bag_costs z h) z h a
  address_cost-same a W =
      let t = a.tile in
      let deep = W.placed.depth in
      let tx = W.placed.tile.0 in
      let ty = W.placed.tile.1 in
      let region : IsWalkAddress z (region_address t) = subst (λ (u : Tile). IsWalkAddress z (region_address u)) (tile_at-own t t.z refl) (walked-tile_at t deep tx ty t.z (omega arith)) in
      let next = walked-next z (region_address t) region (λ x. omega (arith, x)) (placed-next (region_address t) region.placed (omega arith)) in
      let few = few_categories z in
      let four = W.four in
      let size = length-take-le (length z.categories) a.values (omega (arith, few, four)) in
      let rest = categories_cost-same (take (length z.categories) a.values) (next_dim (region_address t)) next (omega arith) refl (omega (arith, size)) in
      ap₂ (λ (m n : ℕ). m + cost_if (is_found z h t) (1 + cost_if (ltb 0 (amount anywhere h)) n)) (space_cost-same t deep tx ty t.z (omega arith)) rest
