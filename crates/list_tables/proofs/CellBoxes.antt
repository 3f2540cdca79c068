-- The box of each row: which spots it has of those that the query counts, and that it has no others.
use Rattle.std.proofs.Common.{◌≡◌, ℕ, ◌+◌, ◌-◌, ◌*◌, ◌/◌, ◌%◌, ◌^◌, ◌<◌, ◌≤◌, Bool, true, false, ◌&&◌, eqb, leb, ltb, length, refl, sym, ◌∙◌, ap, arith}
use Rattle.std.specs.Prelude.{Option}
use Rattle.std.proofs.Math.Bool.{and-true}
use Rattle.std.proofs.lemmas.Bool.{false≢true, and_parts, and_from, and_right, eqb-true, eq-eqb, ne_eqb, leb-true, ltb-true, le-leb, lt-ltb}
use Rattle.std.proofs.lemmas.Nat.{div-add-mod', div-mul-add, mod-mul-add, mod_below, div_below, pow_pos}
use Rattle.cube_view.proofs.FinerWalks.{iff_same}
use Rattle.cube_view.proofs.LevelShifts.{shifted_up}
use Rattle.cube_view.specs.Places.{in_tile, shifted}
use Rattle.cube_view.specs.declared.schema.Schema.{Schema}
use Rattle.cube_view.specs.declared.spot.Spot.{Spot}
use Rattle.cross_table.proofs.Pairs.{box_wide, has_value, inside_value, value_at, value_wide}
use Rattle.list_tables.specs.Cells.{cell_box, has_both, is_at, is_in_bins, place_in_square, tile_at_place, IsRow, Shares}
use Rattle.list_tables.specs.declared.cells.Cells.{Cells}
use Rattle.list_tables.specs.declared.cells.Cells.TheVariants.{Values, Pairs, Bins, Tiles}
use Rattle.query_syntax.specs.Boxes.{Box, box, are_in_sets, inside}
use Rattle.query_syntax.specs.CrossTables.{with_pair}
use Rattle.query_syntax.specs.Narrowing.{with_bins, with_tile, with_value}
use Rattle.query_syntax.specs.declared.query.Query.{Query}

-- Tests of one spot

all_true : (a b c d : Bool) → b ≡ true → c ≡ true → d ≡ true → (((a && b) && c) && d) ≡ a
all_true a b c d eb ec ed = (λ i. ((a && eb i) && ec i) && ed i) ∙ (and-true ((a && true) && true) ∙ (and-true (a && true) ∙ and-true a))

-- Two numbers in one

pub pair_at : (a b w i : ℕ) → b < w → has_both a b w i ≡ eqb (a * w + b) i
pair_at a b w i lt = iff_same _ _
    (λ both.
    let parts = and_parts (eqb a (i / w)) (eqb b (i % w)) both in
    let high : a ≡ i / w = eqb-true _ _ parts.0 in
    let low : b ≡ i % w = eqb-true _ _ parts.1 in
    eq-eqb (a * w + b) i (ap (λ n. n * w + b) high ∙ (ap (λ n. i / w * w + n) low ∙ div-add-mod' i w)))
    (λ one.
    let e : a * w + b ≡ i = eqb-true _ _ one in
    and_from _ _
    (eq-eqb a (i / w) (sym (ap (λ n. n / w) (sym e) ∙ div-mul-add a w b lt)))
    (eq-eqb b (i % w) (sym (ap (λ n. n % w) (sym e) ∙ mod-mul-add a w b lt))))

pub pair_past : (a b w i : ℕ) → 1 ≤ w → w ≤ b → has_both a b w i ≡ false
pair_past a b w i some past = and_right (eqb a (i / w)) (eqb b (i % w)) (ne_eqb b (i % w) (λ (e : b ≡ i % w). let lt = mod_below i w some in omega (arith, e, lt, past)))

-- A bin of a row

pub bin_at : (bin from wide i : ℕ) → 1 ≤ wide → from ≤ bin → is_in_bins from wide i bin ≡ eqb ((bin - from) / wide) i
bin_at bin from wide i some low = iff_same _ _
    (λ both.
    let parts = and_parts (leb (from + i * wide) bin) (ltb bin (from + (i + 1) * wide)) both in
    let first = leb-true _ _ parts.0 in
    let last = ltb-true _ _ parts.1 in
    let rest : bin - from - i * wide < wide = omega (arith, first, last) in
    let whole : bin - from ≡ i * wide + (bin - from - i * wide) = omega (arith, first) in
    eq-eqb _ _ (ap (λ n. n / wide) whole ∙ div-mul-add i wide (bin - from - i * wide) rest))
    (λ one.
    let e : (bin - from) / wide ≡ i = eqb-true _ _ one in
    let parts : i * wide + (bin - from) % wide ≡ bin - from = ap (λ n. n * wide + (bin - from) % wide) (sym e) ∙ div-add-mod' (bin - from) wide in
    let rest = mod_below (bin - from) wide some in
    and_from _ _ (le-leb (from + i * wide) bin (omega (arith, parts, low))) (lt-ltb bin (from + (i + 1) * wide) (omega (arith, parts, rest, low))))

pub bin_before : (bin from wide i : ℕ) → bin < from → is_in_bins from wide i bin ≡ false
bin_before bin from wide i before = iff_same _ false
    (λ both.
    let parts = and_parts (leb (from + i * wide) bin) (ltb bin (from + (i + 1) * wide)) both in
    let first = leb-true _ _ parts.0 in
    absurd (omega (arith, first, before)))
    (λ e. absurd (false≢true e))

-- a coordinate of a level and those of the levels above
above_is : (depth z levels n m : ℕ) → z + levels ≤ depth → shifted depth (z + levels) n ≡ m → shifted depth z n ≡ m / 2 ^ levels
above_is depth z levels n m deep is =
    let e : z + levels - z ≡ levels = omega arith in
    shifted_up depth (z + levels) z n m (omega arith) deep is ∙ ap (λ k. m / 2 ^ k) e

module _ (w x y tx ty i : ℕ) (some : 0 < w) (few : i < w * w) (px : x / w ≡ tx) (py : y / w ≡ ty) where
  tile_at : (eqb x (tx * w + i % w) && eqb y (ty * w + i / w)) ≡ eqb (y % w * w + x % w) i
  tile_at = iff_same _ _
      (λ both.
      let parts = and_parts (eqb x (tx * w + i % w)) (eqb y (ty * w + i / w)) both in
      let ex : x ≡ tx * w + i % w = eqb-true _ _ parts.0 in
      let ey : y ≡ ty * w + i / w = eqb-true _ _ parts.1 in
      let lx : x % w ≡ i % w = ap (λ n. n % w) ex ∙ mod-mul-add tx w (i % w) (mod_below i w some) in
      let ly : y % w ≡ i / w = ap (λ n. n % w) ey ∙ mod-mul-add ty w (i / w) (div_below i w w some few) in
      eq-eqb _ _ ((λ j. ly j * w + lx j) ∙ div-add-mod' i w))
      (λ one.
      let e : y % w * w + x % w ≡ i = eqb-true _ _ one in
      let lx : i % w ≡ x % w = ap (λ n. n % w) (sym e) ∙ mod-mul-add (y % w) w (x % w) (mod_below x w some) in
      let ly : i / w ≡ y % w = ap (λ n. n / w) (sym e) ∙ div-mul-add (y % w) w (x % w) (mod_below x w some) in
      and_from _ _
      (eq-eqb x (tx * w + i % w) (sym (div-add-mod' x w) ∙ (λ j. px j * w + sym lx j)))
      (eq-eqb y (ty * w + i / w) (sym (div-add-mod' y w) ∙ (λ j. py j * w + sym ly j))))

-- The tests of a box, one by one

abbrev pub Tests : Schema → Box → Spot → Type 0
Tests z b s = (in_tile z.depth b.tile s ≡ true) × (are_in_sets b.sets s.values ≡ true) × (leb b.from s.bin ≡ true) × (ltb s.bin b.to ≡ true)

tests_of : (z : Schema) (b : Box) (s : Spot) → inside z b s ≡ true → Tests z b s
unfolding inside
tests_of z b s e =
    let last = and_parts ((in_tile z.depth b.tile s && are_in_sets b.sets s.values) && leb b.from s.bin) (ltb s.bin b.to) e in
    let middle = and_parts (in_tile z.depth b.tile s && are_in_sets b.sets s.values) (leb b.from s.bin) last.0 in
    let first = and_parts (in_tile z.depth b.tile s) (are_in_sets b.sets s.values) middle.0 in
    (first.0, first.1, middle.1, last.1)

from_tests : (z : Schema) (b : Box) (s : Spot) → Tests z b s → inside z b s ≡ true
unfolding inside
from_tests z b s (tile, sets, from, to) = and_from _ _ (and_from _ _ (and_from _ _ tile sets) from) to

-- what was found is the number of the spot's row
abbrev pub Finds : Schema → Query → Spot → Cells → Option ℕ → Type 0
Finds z q s cells found = (i : ℕ) → IsRow cells i → inside z (cell_box q cells i) s ≡ is_at found i

-- Where the query counts the spot

module _ (z : Schema) (q : Query) (s : Spot) (here : inside z (box q) s ≡ true) where
  module _ (four : length q.sets ≡ 4) where
    pub value_here : (k i : ℕ) → k < 4 → inside z (with_value (box q) k i) s ≡ eqb (value_at k s) i
    value_here k i lt =
        let wide = box_wide q four in
        inside_value z (box q) k i s (omega (arith, wide, lt)) ∙ ap (λ b. b && has_value k i s) here

    pub pair_here : (k l wide i : ℕ) → k < 4 → l < 4 → inside z (with_pair (box q) k l (i / wide) (i % wide)) s ≡ has_both (value_at k s) (value_at l s) wide i
    pair_here k l wide i kl ll =
        let four_wide = value_wide (box q) k (i / wide) (box_wide q four) in
        inside_value z (with_value (box q) k (i / wide)) l (i % wide) s (omega (arith, four_wide, ll)) ∙ ap (λ b. b && has_value l (i % wide) s) (value_here k (i / wide) kl)

  pub bins_here : (from wide i : ℕ) → inside z (with_bins (box q) (from + i * wide) (from + (i + 1) * wide)) s ≡ is_in_bins from wide i s.bin
  unfolding inside
  bins_here from wide i =
      let tests = tests_of z (box q) s here in
      ap (λ b. (b && leb (from + i * wide) s.bin) && ltb s.bin (from + (i + 1) * wide)) (and_from _ _ tests.0 tests.1)

  pub tile_here : (levels i : ℕ) → q.region.z + levels ≤ z.depth → i < 2 ^ levels * 2 ^ levels
      → inside z (with_tile (box q) (tile_at_place q.region levels i)) s ≡ eqb (place_in_square levels (shifted z.depth (q.region.z + levels) s.x) (shifted z.depth (q.region.z + levels) s.y)) i
  unfolding inside
  tile_here levels i deep few =
      let tests = tests_of z (box q) s here in
      let places = and_parts (eqb (shifted z.depth q.region.z s.x) q.region.x) (eqb (shifted z.depth q.region.z s.y) q.region.y) tests.0 in
      let x = shifted z.depth (q.region.z + levels) s.x in
      let y = shifted z.depth (q.region.z + levels) s.y in
      let px : x / 2 ^ levels ≡ q.region.x = sym (above_is z.depth q.region.z levels s.x x deep refl) ∙ eqb-true _ _ places.0 in
      let py : y / 2 ^ levels ≡ q.region.y = sym (above_is z.depth q.region.z levels s.y y deep refl) ∙ eqb-true _ _ places.1 in
      all_true _ _ _ _ tests.1 tests.2 tests.3 ∙ tile_at (2 ^ levels) x y q.region.x q.region.y i (pow_pos levels) few px py

-- Where it does not

module _ (z : Schema) (q : Query) (s : Spot) (small : s.bin < 2 ^ 32) (out : inside z (box q) s ≡ false) where
  no_value : (k v : ℕ) → length q.sets ≡ 4 → k < 4 → inside z (with_value (box q) k v) s ≡ false
  no_value k v four lt =
      let wide = box_wide q four in
      inside_value z (box q) k v s (omega (arith, wide, lt)) ∙ ap (λ b. b && has_value k v s) out

  -- no row has the spot
  pub none_outside : (cells : Cells) (i : ℕ) → Shares z q cells → IsRow cells i → inside z (cell_box q cells i) s ≡ false
  none_outside (Values k) i shares row = no_value k i shares.0 shares.1
  none_outside (Pairs k l w) i shares row =
      let wide = value_wide (box q) k (i / w) (box_wide q shares.0) in
      let ll = shares.2 in
      inside_value z (with_value (box q) k (i / w)) l (i % w) s (omega (arith, wide, ll)) ∙ ap (λ b. b && has_value l (i % w) s) (no_value k (i / w) shares.0 shares.1)
  none_outside (Bins from wide) i shares row = iff_same _ false
      (λ in_bins.
      let tests = tests_of z (with_bins (box q) (from + i * wide) (from + (i + 1) * wide)) s in_bins in
      let all = and_parts (eqb q.time.from 0) (eqb q.time.to (2 ^ 32)) shares.1 in
      let first : q.time.from ≡ 0 = eqb-true _ _ all.0 in
      let last : q.time.to ≡ 2 ^ 32 = eqb-true _ _ all.1 in
      sym out ∙ from_tests z (box q) s (tests.0, tests.1, le-leb q.time.from s.bin (omega (arith, first)), lt-ltb s.bin q.time.to (omega (arith, last, small))))
      (λ e. absurd (false≢true e))
  none_outside (Tiles levels) i shares row = iff_same _ false
      (λ in_tile_there.
      let tests = tests_of z (with_tile (box q) (tile_at_place q.region levels i)) s in_tile_there in
      let w = 2 ^ levels in
      let x = shifted z.depth (q.region.z + levels) s.x in
      let y = shifted z.depth (q.region.z + levels) s.y in
      let places = and_parts (eqb x (q.region.x * w + i % w)) (eqb y (q.region.y * w + i / w)) tests.0 in
      let px = above_is z.depth q.region.z levels s.x x shares.1 refl ∙ (ap (λ n. n / w) (eqb-true _ _ places.0) ∙ div-mul-add q.region.x w (i % w) (mod_below i w (pow_pos levels))) in
      let py = above_is z.depth q.region.z levels s.y y shares.1 refl ∙ (ap (λ n. n / w) (eqb-true _ _ places.1) ∙ div-mul-add q.region.y w (i / w) (div_below i w w (pow_pos levels) row)) in
      sym out ∙ from_tests z (box q) s (and_from _ _ (eq-eqb _ _ px) (eq-eqb _ _ py), tests.1, tests.2, tests.3))
      (λ e. absurd (false≢true e))
