-- What the rows of a series have under an address, in the words of the walk.
use Rattle.std.proofs.Common.{◌≡◌, ℕ, ◌+◌, ◌*◌, ◌<◌, ◌≤◌, ◌^◌, Bool, true, false, ◌&&◌, ltb, List, length, get_or, replicate, sym, ◌∙◌, ap, arith}
use Rattle.std.proofs.Math.Nat.{add-mul}
use Rattle.std.proofs.lemmas.List.{get_or-replicate, length-replicate}
use Rattle.std.proofs.lemmas.List.FromFn.{get_or-map-range_with_len}
use Rattle.cube_view.proofs.Amounts.{amount-less, amount-within}
use Rattle.cube_view.specs.Bag.{amount, anywhere}
use Rattle.cube_view.specs.Places.{is_before, is_under, next_dim, region_address}
use Rattle.cube_view.specs.Points.{Point}
use Rattle.cube_view.specs.declared.address.Address.{Address}
use Rattle.cube_view.specs.declared.schema.Schema.{Schema}
use Rattle.cube_view.specs.declared.spot.Spot.{Spot}
use Rattle.query_syntax.specs.Items.{HasNoneFrom}
use Rattle.query_syntax.specs.Parts.{with_span}
use Rattle.query_syntax.specs.declared.query.Choice.TheVariants.{All, Only}
use Rattle.query_syntax.specs.declared.query.Query.{Query}
use Rattle.query_walk.proofs.Sets.{any_value, below_all, below_no, below_none, below_yes, box_is, is_left_below, none_in_bag, none_in_region, set_left, time_left}
use Rattle.query_walk.proofs.Spans.{before_end}
use Rattle.query_walk.proofs.Valid.{asks_there, below_four, AsksFor}
use Rattle.query_walk.specs.Walks.{is_left_in_set, meets_from, AsksAtCategory, HasChoicesFrom}
use Rattle.cube_view.specs.Found.{totals_before}
use Rattle.tile_drill.specs.Series.{row_at_value, row_left, row_span, row_under, AreRowTotals, FitsEach, GainsEach}
use Rattle.tile_drill.specs.declared.sums.Series.{Series}
use Rattle.tile_drill.proofs.SumGains.{HasSame}

-- the bins of a row are in order
pub row_order : (s : Series) (i : ℕ) → (row_span s i).from ≤ (row_span s i).to
row_order s i = let a = add-mul i 1 s.wide in omega (arith, a)

-- the end of a row is where the next one begins, so it has what comes before it and what the row has
pub row_apart : (z : Schema) (a : Address) (s : Series) (h : List Point) (ends : List ℕ) (n i : ℕ) → ends ≡ totals_before z a s.first s.wide n h → i + 1 < n → get_or ends (i + 1) 0 ≡ get_or ends i 0 + amount (row_under z s a i) h
row_apart z a s h ends n i same lt =
    let f = λ (k : ℕ). amount (is_before z a (s.first + k * s.wide)) h in
    let low : get_or ends i 0 ≡ f i = ap (λ (xs : List ℕ). get_or xs i 0) same ∙ get_or-map-range_with_len f 0 n i i 0 (omega (arith, lt)) (omega arith) in
    let high : get_or ends (i + 1) 0 ≡ f (i + 1) = ap (λ (xs : List ℕ). get_or xs (i + 1) 0) same ∙ get_or-map-range_with_len f 0 n (i + 1) (i + 1) 0 lt (omega arith) in
    let split = before_end z a (row_span s i) h (row_order s i) in
    omega (arith, low, high, split)

-- of what is left of each row, the spots with a value of the set that is under v
abbrev pub row_below : Schema → Series → Address → ℕ → List Bool → ℕ → ℕ → Spot → Bool
row_below z s a k set v i = is_left_below z (with_span s.query (row_span s i)) a k set v

-- a member of a set that is under a bound is a member
without_bound : (u i j r : Bool) → u && ((i && j) && r) ≡ true → u && (i && r) ≡ true
without_bound true true true r e = e
without_bound true true false r e = absurd (cc)
without_bound true false j r e = e
without_bound false i j r e = e

module _ (z : Schema) (s : Series) (h : List Point) (a : Address) (k : ℕ) where
  -- under an address that is the same
  pub same_row : {b : Address} → b ≡ a → HasSame h (row_left z s b k) (row_left z s a k)
  same_row is = record { each = λ i. ap (λ (x : Address). amount (row_left z s x k i) h) is }

  abbrev row : ℕ → Query
  row i = with_span s.query (row_span s i)

  -- where no category is left
  pub time_row : HasChoicesFrom z s.query k → k ≡ length z.categories → HasSame h (row_under z s a) (row_left z s a k)
  time_row has end = record { each = λ i. time_left z (row i) a k h (record { few = has.few; wide = has.wide; choices = has.choices; order = row_order s i }) end }

  -- any value of category k
  pub any_row : {b : Address} → b ≡ next_dim a → AsksFor z s.query.sets k All → HasSame h (row_left z s b (k + 1)) (row_left z s a k)
  any_row {b = b} next all = record { each = λ i. any_value z (row i) a k h b next all }

  module _ (set : List Bool) (walk : AsksAtCategory z s.query a k) (is : get_or s.query.sets k All ≡ Only set) where
    all_left : (i : ℕ) → amount (is_left_in_set z (row i) a k set) h ≡ amount (row_left z s a k i) h
    all_left i = set_left z (row i) a k h set (asks_there z s.query k walk is)

    pub row_none : (i : ℕ) → 0 ≡ amount (row_below z s a k set 0 i) h
    row_none i = below_none z (row i) a k h set

    pub row_all : (v : ℕ) → HasNoneFrom set v → HasSame h (row_below z s a k set v) (row_left z s a k)
    row_all v none = record { each = λ i. below_all z (row i) a k h set v none ∙ all_left i }

    -- one value more, where it is not in the set
    pub row_no : (v : ℕ) → get_or set v false ≡ false → HasSame h (row_below z s a k set v) (row_below z s a k set (v + 1))
    row_no v is_out = record { each = λ i. sym (below_no z (row i) a k h set v is_out) }

    module _ (v : ℕ) (is_in : get_or set v false ≡ true) where
      -- and where it is
      pub row_yes : (i : ℕ) → amount (row_below z s a k set (v + 1) i) h ≡ amount (row_below z s a k set v i) h + amount (row_at_value z s a k v i) h
      row_yes i = below_yes z (row i) a k h set v (below_four z k walk.category) walk.here is_in

      -- which is within the whole set
      pub row_within : (i : ℕ) → amount (row_below z s a k set v i) h + amount (row_at_value z s a k v i) h ≤ amount (row_left z s a k i) h
      row_within i =
          let e = row_yes i in
          let all = all_left i in
          let less = amount-less (row_below z s a k set (v + 1) i) (is_left_in_set z (row i) a k set) (λ t passes. without_bound (is_under z a t) (get_or set (get_or t.values k 0) false) (ltb (get_or t.values k 0) (v + 1)) (meets_from (row i) (k + 1) t) passes) h in
          omega (arith, e, all, less)

-- Zeros, and what they have become

module _ (z : Schema) (s : Series) (h : List Point) (sums : List ℕ) (zeros : sums ≡ replicate (s.rows) 0) where
  zeros_long : length sums ≡ s.rows
  zeros_long = ap length zeros ∙ length-replicate (s.rows) 0

  zero_at : (i : ℕ) → i < s.rows → get_or sums i 0 ≡ 0
  zero_at i lt = ap (λ (xs : List ℕ). get_or xs i 0) zeros ∙ get_or-replicate s.rows i 0 0 lt

  abbrev row_query : ℕ → Query
  row_query i = with_span s.query (row_span s i)

  -- nothing under the region
  pub totals_none_in_region : amount (is_under z (region_address s.query.region)) h ≡ 0 → AreRowTotals z s sums h
  totals_none_in_region none = record { long = zeros_long; each = λ i lt. zero_at i lt ∙ none_in_region z (row_query i) h none }

  -- nothing in the bag
  pub totals_none_in_bag : amount anywhere h ≡ 0 → AreRowTotals z s sums h
  totals_none_in_bag none = record { long = zeros_long; each = λ i lt. zero_at i lt ∙ none_in_bag z (row_query i) h none }

  -- what a walk from the region on has added
  pub totals_of_walk : (a b : Address) (new : List ℕ) → b ≡ region_address s.query.region → a ≡ next_dim b → GainsEach (row_left z s a 0) sums new h → AreRowTotals z s new h
  totals_of_walk a b new region next gains = record {
    long = gains.long ∙ zeros_long;
    each = λ i lt.
        let long = zeros_long in
        let zero = zero_at i lt in
        let g = gains.sums i (omega (arith, long, lt)) in
        let whole = box_is z (row_query i) h a b region next in
        omega (arith, zero, g, whole);
  }

-- zeros have room for all that a bag has
pub fits_zeros : (h : List Point) (p : ℕ → Spot → Bool) (sums : List ℕ) (n : ℕ) → sums ≡ replicate n 0 → amount anywhere h < 2 ^ 63 → FitsEach p sums h
fits_zeros h p sums n zeros small i lt =
    let long = ap length zeros ∙ length-replicate n 0 in
    let zero = ap (λ (xs : List ℕ). get_or xs i 0) zeros ∙ get_or-replicate n i 0 0 (omega (arith, long, lt)) in
    let within = amount-within (p i) h in
    omega (arith, zero, within, small)
