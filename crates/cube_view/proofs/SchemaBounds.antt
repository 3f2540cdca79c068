-- What the limits of a schema say of its numbers.
use Rattle.std.proofs.Common.{◌≡◌, ℕ, ◌<◌, ◌≤◌, ◌&&◌, true, nat_le, length, refl, arith}
use Rattle.std.specs.List.{list_all}
use Rattle.std.proofs.lemmas.Bool.{and_parts, leb-true, ne_eqb, lt-ltb}
use Rattle.cube_view.specs.declared.schema.Schema.{Schema}
use Rattle.cube_view.specs.Limits.{is_between, category_in_range, numbers_in_range, categories_in_range, weight_in_range, parts_in_range, texts_distinct}
use Rattle.cube_view.specs.Places.{deepest, time_dim}

-- a number between two bounds is from the first on
pub between_low : (low high n : ℕ) → is_between low high n ≡ true → low ≤ n
between_low low high n e = leb-true low n (and_parts (nat_le low n) (nat_le n high) e).0

-- a number between two bounds is at most the second
pub between_high : (low high n : ℕ) → is_between low high n ≡ true → n ≤ high
between_high low high n e = leb-true n high (and_parts (nat_le low n) (nat_le n high) e).1

-- the categories of a schema are within their limits
pub categories-limits : (z : Schema) → categories_in_range z.categories ≡ true
categories-limits z =
    let limits = and_parts (parts_in_range z.depth z.categories z.width z.batch z.weight) (texts_distinct z.categories z.weight) z.limits in
    let parts = and_parts (numbers_in_range z.depth z.width z.batch && categories_in_range z.categories) (weight_in_range z.weight) limits.0 in
    (and_parts _ _ parts.0).1

-- each of them is
pub each_in_range : (z : Schema) → list_all category_in_range z.categories ≡ true
each_in_range z = (and_parts (nat_le (length z.categories) 4) (list_all category_in_range z.categories) (categories-limits z)).1

-- space has 1 to 20 levels
pub depth_bounds : (z : Schema) → (1 ≤ z.depth) × (z.depth ≤ 20)
depth_bounds z =
    let limits = and_parts (parts_in_range z.depth z.categories z.width z.batch z.weight) (texts_distinct z.categories z.weight) z.limits in
    let parts = and_parts (numbers_in_range z.depth z.width z.batch && categories_in_range z.categories) (weight_in_range z.weight) limits.0 in
    let numbers = and_parts (is_between 1 20 z.depth && nat_le 1 z.width) (is_between 1 65536 z.batch) (and_parts _ _ parts.0).0 in
    let depth = (and_parts (is_between 1 20 z.depth) (nat_le 1 z.width) numbers.0).0 in
    (between_low 1 20 z.depth depth, between_high 1 20 z.depth depth)

-- there are at most 4 categories
pub few_categories : (z : Schema) → length z.categories ≤ 4
few_categories z = leb-true (length z.categories) 4 (and_parts (nat_le (length z.categories) 4) (list_all category_in_range z.categories) (categories-limits z)).0

-- a category has one level
pub deepest_category : (z : Schema) (dim : ℕ) → 2 ≤ dim → dim < time_dim z → deepest z dim ≡ 1
deepest_category z dim low high = rw (ne_eqb dim 1 (λ e. omega (arith, e, low)), lt-ltb dim (time_dim z) high) refl
