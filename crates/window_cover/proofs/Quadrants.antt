-- Tiles, their quadrants and rectangles.
use Rattle.std.proofs.Common.{◌≡◌, ℕ, ◌+◌, ◌-◌, ◌*◌, ◌/◌, ◌%◌, ◌^◌, ◌<◌, ◌≤◌, Bool, true, false, ◌&&◌, eqb, leb, ltb, refl, sym, ◌∙◌, ap, arith}
use Rattle.std.proofs.lemmas.Bool.{and_parts, and_from, eqb-true, eq-eqb, leb-true, le-leb, ltb-true, lt-ltb}
use Rattle.std.proofs.lemmas.Nat.{shr-shr}
use Rattle.cube_view.proofs.FinerWalks.{iff_same}
use Rattle.cube_view.specs.Places.{shifted, longer_tile, quadrant_at}
use Rattle.cube_view.specs.declared.address.Tile.{Tile}
use Rattle.query_syntax.specs.Tiles.{is_tile}
use Rattle.query_syntax.specs.declared.rect.Rect.{Rect}
use Rattle.window_cover.specs.Covers.{parent}
use Rattle.query_syntax.specs.Windows.{has_place}
use Rattle.window_cover.specs.Rects.{holds, tile_rect, contains, overlap, meets, is_inside}
use Rattle.window_cover.proofs.Sides.{ends_after, half_side, half_within, in_side}

-- a test that would make a failed one hold fails
pub fails : (a b : Bool) → (a ≡ true → b ≡ true) → b ≡ false → a ≡ false
fails true b there e = sym (there refl) ∙ e
fails false b there e = refl

-- What the tests tell of numbers

pub tile_numbers : (depth : ℕ) (t : Tile) → is_tile depth t ≡ true → (t.z ≤ depth) × (t.x < 2 ^ t.z) × (t.y < 2 ^ t.z)
tile_numbers depth t is =
    let parts = and_parts (leb t.z depth && ltb t.x (2 ^ t.z)) (ltb t.y (2 ^ t.z)) is in
    let first = and_parts (leb t.z depth) (ltb t.x (2 ^ t.z)) parts.0 in
    (leb-true _ _ first.0, ltb-true _ _ first.1, ltb-true _ _ parts.1)

pub tile_from : (depth : ℕ) (t : Tile) → t.z ≤ depth → t.x < 2 ^ t.z → t.y < 2 ^ t.z → is_tile depth t ≡ true
tile_from depth t deep x y = and_from _ _ (and_from _ _ (le-leb _ _ deep) (lt-ltb _ _ x)) (lt-ltb _ _ y)

pub holds_numbers : (depth : ℕ) (t : Tile) (x y : ℕ) → holds depth t x y ≡ true → (shifted depth t.z x ≡ t.x) × (shifted depth t.z y ≡ t.y)
holds_numbers depth t x y is =
    let parts = and_parts (eqb (shifted depth t.z x) t.x) (eqb (shifted depth t.z y) t.y) is in
    (eqb-true _ _ parts.0, eqb-true _ _ parts.1)

pub holds_from : (depth : ℕ) (t : Tile) (x y : ℕ) → shifted depth t.z x ≡ t.x → shifted depth t.z y ≡ t.y → holds depth t x y ≡ true
holds_from depth t x y ex ey = and_from _ _ (eq-eqb _ _ ex) (eq-eqb _ _ ey)

pub place_numbers : (r : Rect) (x y : ℕ) → has_place r x y ≡ true → (r.x0 ≤ x) × (x < r.x1) × (r.y0 ≤ y) × (y < r.y1)
place_numbers r x y is =
    let parts = and_parts (leb r.x0 x && ltb x r.x1) (leb r.y0 y && ltb y r.y1) is in
    let xs = and_parts (leb r.x0 x) (ltb x r.x1) parts.0 in
    let ys = and_parts (leb r.y0 y) (ltb y r.y1) parts.1 in
    (leb-true _ _ xs.0, ltb-true _ _ xs.1, leb-true _ _ ys.0, ltb-true _ _ ys.1)

pub place_from : (r : Rect) (x y : ℕ) → r.x0 ≤ x → x < r.x1 → r.y0 ≤ y → y < r.y1 → has_place r x y ≡ true
place_from r x y a b c d = and_from _ _ (and_from _ _ (le-leb _ _ a) (lt-ltb _ _ b)) (and_from _ _ (le-leb _ _ c) (lt-ltb _ _ d))

pub contains_numbers : (a b : Rect) → contains a b ≡ true → (a.x0 ≤ b.x0) × (b.x1 ≤ a.x1) × (a.y0 ≤ b.y0) × (b.y1 ≤ a.y1)
contains_numbers a b is =
    let parts = and_parts (leb a.x0 b.x0 && leb b.x1 a.x1) (leb a.y0 b.y0 && leb b.y1 a.y1) is in
    let xs = and_parts (leb a.x0 b.x0) (leb b.x1 a.x1) parts.0 in
    let ys = and_parts (leb a.y0 b.y0) (leb b.y1 a.y1) parts.1 in
    (leb-true _ _ xs.0, leb-true _ _ xs.1, leb-true _ _ ys.0, leb-true _ _ ys.1)

pub contains_from : (a b : Rect) → a.x0 ≤ b.x0 → b.x1 ≤ a.x1 → a.y0 ≤ b.y0 → b.y1 ≤ a.y1 → contains a b ≡ true
contains_from a b x0 x1 y0 y1 = and_from _ _ (and_from _ _ (le-leb _ _ x0) (le-leb _ _ x1)) (and_from _ _ (le-leb _ _ y0) (le-leb _ _ y1))

-- what each of two ranges has below the other's end
overlap_numbers : (a b c d : ℕ) → overlap a b c d ≡ true → (a < b) × (a < d) × (c < b) × (c < d)
overlap_numbers a b c d is =
    let parts = and_parts (ltb a b && ltb a d) (ltb c b && ltb c d) is in
    let first = and_parts (ltb a b) (ltb a d) parts.0 in
    let last = and_parts (ltb c b) (ltb c d) parts.1 in
    (ltb-true _ _ first.0, ltb-true _ _ first.1, ltb-true _ _ last.0, ltb-true _ _ last.1)

overlap_from : (a b c d : ℕ) → a < b → a < d → c < b → c < d → overlap a b c d ≡ true
overlap_from a b c d p q s u = and_from _ _ (and_from _ _ (lt-ltb _ _ p) (lt-ltb _ _ q)) (and_from _ _ (lt-ltb _ _ s) (lt-ltb _ _ u))

-- A quadrant of the tile holds what the tile holds and goes on by its label

module _ (depth : ℕ) (t : Tile) (l : ℕ) (deep : t.z < depth) (lt : l < 4) where
  half : (n : ℕ) → shifted depth t.z n ≡ shifted depth (t.z + 1) n / 2
  half n =
      let e : depth - t.z ≡ depth - (t.z + 1) + 1 = omega (arith, deep) in
      ap (λ k. n / 2 ^ k) e ∙ sym (shr-shr n (depth - (t.z + 1)) 1)

  pub holds_quadrant : (x y : ℕ) → holds depth (longer_tile 1 t l) x y ≡ (holds depth t x y && eqb (quadrant_at depth (t.z + 1) x y) l)
  holds_quadrant x y =
      let hx = half x in
      let hy = half y in
      iff_same (holds depth (longer_tile 1 t l) x y) (holds depth t x y && eqb (quadrant_at depth (t.z + 1) x y) l)
      (λ is.
      let e = holds_numbers depth (longer_tile 1 t l) x y is in
      let ex = e.0 in
      let ey = e.1 in
      and_from _ _ (holds_from depth t x y (omega (arith, hx, ex)) (omega (arith, hy, ey, lt))) (eq-eqb _ _ (omega (arith, ex, ey, lt))))
      (λ is.
      let parts = and_parts (holds depth t x y) (eqb (quadrant_at depth (t.z + 1) x y) l) is in
      let e = holds_numbers depth t x y parts.0 in
      let ex = e.0 in
      let ey = e.1 in
      let el : quadrant_at depth (t.z + 1) x y ≡ l = eqb-true _ _ parts.1 in
      holds_from depth (longer_tile 1 t l) x y (omega (arith, hx, ex, el)) (omega (arith, hy, ey, el)))

  -- the tile that has the quadrant is the tile
  pub parent_is : parent (longer_tile 1 t l) ≡ t
  parent_is =
      let z : t.z + 1 - 1 ≡ t.z = omega arith in
      let k : t.z + 1 - (t.z + 1 - 1) ≡ 1 = omega arith in
      let hx : (2 * t.x + l % 2) / 2 ^ 1 ≡ t.x = omega arith in
      let hy : (2 * t.y + l / 2) / 2 ^ 1 ≡ t.y = omega (arith, lt) in
      let x : (2 * t.x + l % 2) / 2 ^ (t.z + 1 - (t.z + 1 - 1)) ≡ t.x = ap (λ j. (2 * t.x + l % 2) / 2 ^ j) k ∙ hx in
      let y : (2 * t.y + l / 2) / 2 ^ (t.z + 1 - (t.z + 1 - 1)) ≡ t.y = ap (λ j. (2 * t.y + l / 2) / 2 ^ j) k ∙ hy in
      λ i. record { z = z i; x = x i; y = y i }

  abbrev quarter : Rect
  quarter = tile_rect depth (longer_tile 1 t l)

  abbrev area : Rect
  area = tile_rect depth t

  -- and its finest tiles are among the tile's
  quarter_x : (area.x0 ≤ quarter.x0) × (quarter.x1 ≤ area.x1)
  quarter_x =
      let s = half_side depth t.z deep in
      let w = half_within t.x (l % 2) (2 ^ (depth - (t.z + 1))) (omega arith) in
      let a = ap (λ p. t.x * p) s in
      let b = ap (λ p. (t.x + 1) * p) s in
      (omega (arith, w.0, a), omega (arith, w.1, b))

  quarter_y : (area.y0 ≤ quarter.y0) × (quarter.y1 ≤ area.y1)
  quarter_y =
      let s = half_side depth t.z deep in
      let w = half_within t.y (l / 2) (2 ^ (depth - (t.z + 1))) (omega (arith, lt)) in
      let a = ap (λ p. t.y * p) s in
      let b = ap (λ p. (t.y + 1) * p) s in
      (omega (arith, w.0, a), omega (arith, w.1, b))

  pub quadrant_inside : (r : Rect) → is_inside depth r t ≡ true → is_inside depth r (longer_tile 1 t l) ≡ true
  quadrant_inside r is =
      let n = contains_numbers r area is in
      let qx = quarter_x in
      let qy = quarter_y in
      contains_from r quarter (omega (arith, n.0, qx.0)) (omega (arith, n.1, qx.1)) (omega (arith, n.2, qy.0)) (omega (arith, n.3, qy.1))

  wider : (a b c d e f : ℕ) → e ≤ c → d ≤ f → e < f → overlap a b c d ≡ true → overlap a b e f ≡ true
  wider a b c d e f low high some is =
      let n = overlap_numbers a b c d is in
      overlap_from a b e f n.0 (omega (arith, n.1, high)) (omega (arith, n.2, low)) some

  pub quadrant_meets : (r : Rect) → meets r (tile_rect depth (longer_tile 1 t l)) ≡ true → meets r (tile_rect depth t) ≡ true
  quadrant_meets r is =
      let parts = and_parts (overlap r.x0 r.x1 quarter.x0 quarter.x1) (overlap r.y0 r.y1 quarter.y0 quarter.y1) is in
      let qx = quarter_x in
      let qy = quarter_y in
      and_from _ _
      (wider r.x0 r.x1 quarter.x0 quarter.x1 area.x0 area.x1 qx.0 qx.1 (ends_after t.x (depth - t.z)) parts.0)
      (wider r.y0 r.y1 quarter.y0 quarter.y1 area.y0 area.y1 qy.0 qy.1 (ends_after t.y (depth - t.z)) parts.1)

-- Finest tiles of a tile

module _ (depth : ℕ) (r : Rect) (t : Tile) where
  abbrev own : Rect
  own = tile_rect depth t

  -- the columns and rows of the finest tiles that a tile holds
  own_place : (x y : ℕ) → holds depth t x y ≡ true → has_place (tile_rect depth t) x y ≡ true
  own_place x y at =
      let e = holds_numbers depth t x y at in
      let px = in_side x t.x (depth - t.z) e.0 in
      let py = in_side y t.y (depth - t.z) e.1 in
      place_from own x y px.0 px.1 py.0 py.1

  pub place_inside : (x y : ℕ) → is_inside depth r t ≡ true → holds depth t x y ≡ true → has_place r x y ≡ true
  place_inside x y is at =
      let p = place_numbers own x y (own_place x y at) in
      let n = contains_numbers r own is in
      place_from r x y (omega (arith, n.0, p.0)) (omega (arith, n.1, p.1)) (omega (arith, n.2, p.2)) (omega (arith, n.3, p.3))

  -- a tile that holds one of the rectangle's finest tiles meets it
  pub place_meets : (x y : ℕ) → holds depth t x y ≡ true → has_place r x y ≡ true → meets r (tile_rect depth t) ≡ true
  place_meets x y at is =
      let p = place_numbers own x y (own_place x y at) in
      let n = place_numbers r x y is in
      and_from _ _
      (overlap_from r.x0 r.x1 own.x0 own.x1 (omega (arith, n.0, n.1)) (omega (arith, n.0, p.1)) (omega (arith, n.1, p.0)) (omega (arith, p.0, p.1)))
      (overlap_from r.y0 r.y1 own.y0 own.y1 (omega (arith, n.2, n.3)) (omega (arith, n.2, p.3)) (omega (arith, n.3, p.2)) (omega (arith, p.2, p.3)))

  -- and so does one inside it
  pub inside_meets : is_inside depth r t ≡ true → meets r (tile_rect depth t) ≡ true
  inside_meets is =
      let n = contains_numbers r own is in
      let ex = ends_after t.x (depth - t.z) in
      let ey = ends_after t.y (depth - t.z) in
      and_from _ _
      (overlap_from r.x0 r.x1 own.x0 own.x1 (omega (arith, n.0, n.1, ex)) (omega (arith, n.0, ex)) (omega (arith, n.1, ex)) ex)
      (overlap_from r.y0 r.y1 own.y0 own.y1 (omega (arith, n.2, n.3, ey)) (omega (arith, n.2, ey)) (omega (arith, n.3, ey)) ey)

  -- a finest tile that meets the rectangle is inside it
  pub finest_inside : t.z ≡ depth → meets r (tile_rect depth t) ≡ true → is_inside depth r t ≡ true
  finest_inside end is =
      let parts = and_parts (overlap r.x0 r.x1 own.x0 own.x1) (overlap r.y0 r.y1 own.y0 own.y1) is in
      let k : depth - t.z ≡ 0 = omega (arith, end) in
      let p : 2 ^ (depth - t.z) ≡ 1 = ap (λ j. 2 ^ j) k in
      let x = overlap_numbers r.x0 r.x1 own.x0 own.x1 parts.0 in
      let y = overlap_numbers r.y0 r.y1 own.y0 own.y1 parts.1 in
      let xa : t.x * 2 ^ (depth - t.z) ≡ t.x * 1 = ap (λ j. t.x * j) p in
      let xb : (t.x + 1) * 2 ^ (depth - t.z) ≡ (t.x + 1) * 1 = ap (λ j. (t.x + 1) * j) p in
      let ya : t.y * 2 ^ (depth - t.z) ≡ t.y * 1 = ap (λ j. t.y * j) p in
      let yb : (t.y + 1) * 2 ^ (depth - t.z) ≡ (t.y + 1) * 1 = ap (λ j. (t.y + 1) * j) p in
      contains_from r own (omega (arith, x.1, xa, xb)) (omega (arith, x.2, xa, xb)) (omega (arith, y.1, ya, yb)) (omega (arith, y.2, ya, yb))
