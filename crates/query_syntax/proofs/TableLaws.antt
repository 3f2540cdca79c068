-- Laws of the rows of a table: what a box with one value, with another tile or with other bins counts.
use Rattle.std.proofs.Common.{◌≡◌, ℕ, zero, suc, ◌+◌, ◌-◌, ◌*◌, ◌/◌, ◌%◌, ◌^◌, ◌<◌, ◌≤◌, Bool, true, false, ◌&&◌, eqb, leb, ltb, List, [], ◌∷◌, ◌++◌, length, map, get_or, set, None, refl, sym, ◌∙◌, ap, arith, ⊎_elim}
use Rattle.std.specs.Prelude.{replicate, if◌then◌else◌, ◌==◌, Some}
use Rattle.std.specs.List.{cons_option, filter_map}
use Rattle.std.proofs.Math.Bool.{and-false}
use Rattle.std.proofs.lemmas.Bool.{and_parts, and_from, eqb-true, eq-eqb, ne_eqb, cases_eq}
use Rattle.std.proofs.lemmas.List.{get_or-set_same, get_or-set_other, length-replicate}
use Rattle.std.proofs.lemmas.List.Elements.{filter_map-append}
use Rattle.std.proofs.lemmas.Nat.{shr-shr}
use Rattle.cube_view.proofs.Amounts.{amount-same, amount-none, none-less}
use Rattle.cube_view.specs.Bag.{amount}
use Rattle.cube_view.specs.Places.{in_tile, longer_tile}
use Rattle.cube_view.specs.declared.spot.Point.{Point}
use Rattle.cube_view.specs.declared.address.Tile.{Tile}
use Rattle.cube_view.specs.declared.schema.Schema.{Schema}
use Rattle.cube_view.specs.declared.spot.Spot.{Spot}
use Rattle.query_syntax.specs.Boxes.{box, chosen, are_in_sets, inside, total}
use Rattle.query_syntax.specs.Narrowing.{any_value, with_value, with_tile}
use Rattle.query_syntax.specs.Tables.{area_row}
use Rattle.query_syntax.specs.TileOrder.{tiles_inside}
use Rattle.query_syntax.specs.declared.query.Choice.{Choice}
use Rattle.query_syntax.specs.declared.query.Choice.TheVariants.{All, Only}
use Rattle.query_syntax.specs.declared.query.Query.{Query}
use Rattle.query_syntax.specs.declared.table.RowOut.{RowOut}

-- One value of a category

none_of : (n w : ℕ) → get_or (replicate n false) w false ≡ false
none_of zero w = refl
none_of (suc n) zero = refl
none_of (suc n) (suc w) = none_of n w

-- a value of the choice that is v is one of the set that has v alone
only_one : (n v w : ℕ) (c : Choice) → v < n → chosen c v ≡ true → (chosen c w && eqb w v) ≡ get_or (set (replicate n false) v true) w false
only_one n v w c below is = ⊎_elim
    (λ (e : w ≡ v). and_from _ _ (ap (chosen c) e ∙ is) (eq-eqb w v e) ∙ sym (ap (λ j. get_or (set (replicate n false) v true) j false) e ∙ get_or-set_same (replicate n false) v true false (let l = length-replicate n false in omega (arith, l, below))))
    (λ (ne : w ≡ v → ⊥). ap (λ b. chosen c w && b) (ne_eqb w v ne) ∙ (and-false (chosen c w) ∙ sym (get_or-set_other (replicate n false) v w true false ne ∙ none_of n w)))
    (cases_eq w v)

-- no value of a choice without v is v
none_left : (v w : ℕ) (c : Choice) → chosen c v ≡ false → (chosen c w && eqb w v) ≡ false
none_left v w c is = ⊎_elim
    (λ (e : w ≡ v). ap (λ b. b && eqb w v) (ap (chosen c) e ∙ is))
    (λ (ne : w ≡ v → ⊥). ap (λ b. chosen c w && b) (ne_eqb w v ne) ∙ and-false (chosen c w))
    (cases_eq w v)

-- the sets of choices, of which one is met with v
abbrev met_at : List Choice → ℕ → ℕ → List (ℕ → Bool)
met_at choices k v = set (map chosen choices) k (λ w. get_or (map chosen choices) k any_value w && eqb w v)

sets_with_one : (n v : ℕ) (choices : List Choice) (values : List ℕ) (k : ℕ) → v < n → k < length choices → chosen (get_or choices k All) v ≡ true → are_in_sets (met_at choices k v) values ≡ are_in_sets (map chosen (set choices k (Only (set (replicate n false) v true)))) values
sets_with_one n v [] values k below lt is = absurd (omega (arith, lt))
sets_with_one n v (c ∷ choices) [] zero below lt is = ap (λ b. b && are_in_sets (map chosen choices) []) (only_one n v 0 c below is)
sets_with_one n v (c ∷ choices) (w ∷ values) zero below lt is = ap (λ b. b && are_in_sets (map chosen choices) values) (only_one n v w c below is)
sets_with_one n v (c ∷ choices) [] (suc k) below lt is = ap (λ b. chosen c 0 && b) (sets_with_one n v choices [] k below (omega (arith, lt)) is)
sets_with_one n v (c ∷ choices) (w ∷ values) (suc k) below lt is = ap (λ b. chosen c w && b) (sets_with_one n v choices values k below (omega (arith, lt)) is)

sets_with_none : (v : ℕ) (choices : List Choice) (values : List ℕ) (k : ℕ) → chosen (get_or choices k All) v ≡ false → are_in_sets (met_at choices k v) values ≡ false
sets_with_none v [] values k is = absurd (cc)
sets_with_none v (c ∷ choices) [] zero is = ap (λ b. b && are_in_sets (map chosen choices) []) (none_left v 0 c is)
sets_with_none v (c ∷ choices) (w ∷ values) zero is = ap (λ b. b && are_in_sets (map chosen choices) values) (none_left v w c is)
sets_with_none v (c ∷ choices) [] (suc k) is = ap (λ b. chosen c 0 && b) (sets_with_none v choices [] k is) ∙ and-false (chosen c 0)
sets_with_none v (c ∷ choices) (w ∷ values) (suc k) is = ap (λ b. chosen c w && b) (sets_with_none v choices values k is) ∙ and-false (chosen c w)

module _ (schema : Schema) (q : Query) (h : List Point) where
  -- a value that the query's set of its category has counts as much as the query with the set of this value alone
  pub box_value : (k v : ℕ) → k < length q.sets → v < 256 → chosen (get_or q.sets k All) v ≡ true → total schema (with_value (box q) k v) h ≡ total schema (box (record q { sets = set q.sets k (Only (set (replicate 256 false) v true)) })) h
  unfolding total inside
  box_value k v lt below is = amount-same _ _ (λ s. ap (λ b. ((in_tile schema.depth q.region s && b) && leb q.time.from s.bin) && ltb s.bin q.time.to) (sets_with_one 256 v q.sets s.values k below lt is)) h

  -- a value that it doesn't have counts nothing
  pub box_value_out : (k v : ℕ) → chosen (get_or q.sets k All) v ≡ false → total schema (with_value (box q) k v) h ≡ 0
  unfolding total inside
  box_value_out k v is = amount-none _ (λ s. ap (λ b. ((in_tile schema.depth q.region s && b) && leb q.time.from s.bin) && ltb s.bin q.time.to) (sets_with_none v q.sets s.values k is) ∙ ap (λ b. (b && leb q.time.from s.bin) && ltb s.bin q.time.to) (and-false (in_tile schema.depth q.region s))) h

-- the half of a coordinate one level deeper
half_of : (n depth z c b : ℕ) → z < depth → b < 2 → n / 2 ^ (depth - (z + 1)) ≡ 2 * c + b → n / 2 ^ (depth - z) ≡ c
half_of n depth z c b above bit at =
    let e : depth - z ≡ (depth - (z + 1)) + 1 = omega (arith, above) in
    let s : n / 2 ^ (depth - z) ≡ n / 2 ^ (depth - (z + 1)) / 2 = ap (λ k. n / 2 ^ k) e ∙ sym (shr-shr n (depth - (z + 1)) 1) in
    omega (arith, s, at, bit)

-- a spot in a quadrant of a tile is in the tile
pub quadrant_in_tile : (depth : ℕ) (t : Tile) (label : ℕ) (s : Spot) → t.z < depth → label < 4 → in_tile depth (longer_tile 1 t label) s ≡ true → in_tile depth t s ≡ true
quadrant_in_tile depth t label s above four is =
    let parts = and_parts _ _ is in
    let x = eqb-true _ _ parts.0 in
    let y = eqb-true _ _ parts.1 in
    and_from _ _
    (eq-eqb _ t.x (half_of s.x depth t.z t.x (label % 2) above (omega arith) x))
    (eq-eqb _ t.y (half_of s.y depth t.z t.y (label / 2) above (omega (arith, four)) y))

-- A tile without spots

module _ (schema : Schema) (q : Query) (h : List Point) where
  pub none_in_tile : (t : Tile) → amount (λ s. in_tile schema.depth t s) h ≡ 0 → total schema (with_tile (box q) t) h ≡ 0
  unfolding total inside
  none_in_tile t none = none-less _ (in_tile schema.depth t) (λ s e. (and_parts _ _ (and_parts (in_tile schema.depth t s && are_in_sets (map chosen q.sets) s.values) (leb q.time.from s.bin) (and_parts _ (ltb s.bin q.time.to) e).0).0).0) h none

  none_in_quadrant : (t : Tile) (label : ℕ) → t.z < schema.depth → label < 4 → amount (λ s. in_tile schema.depth t s) h ≡ 0 → amount (λ s. in_tile schema.depth (longer_tile 1 t label) s) h ≡ 0
  none_in_quadrant t label above four none = none-less _ (in_tile schema.depth t) (λ s e. quadrant_in_tile schema.depth t label s above four e) h none

  no_row : (t : Tile) → total schema (with_tile (box q) t) h ≡ 0 → filter_map (area_row schema q h) (t ∷ []) ≡ []
  no_row t e = ap (λ n. cons_option (if n == 0 then None else Some (RowOut.Area t n)) []) e

  no_rows : (xs ys : List Tile) → filter_map (area_row schema q h) xs ≡ [] → filter_map (area_row schema q h) ys ≡ [] → filter_map (area_row schema q h) (xs ++ ys) ≡ []
  no_rows xs ys a b = filter_map-append (area_row schema q h) xs ys ∙ (ap (λ rows. rows ++ filter_map (area_row schema q h) ys) a ∙ b)

  -- a map has no row in a tile without spots
  pub rows_inside : (levels : ℕ) (t : Tile) → t.z + levels ≤ schema.depth → amount (λ s. in_tile schema.depth t s) h ≡ 0 → filter_map (area_row schema q h) (tiles_inside levels t) ≡ []
  rows_inside zero t deep none = no_row t (none_in_tile t none)
  rows_inside (suc levels) t deep none =
      let at : (label : ℕ) → label < 4 → filter_map (area_row schema q h) (tiles_inside levels (longer_tile 1 t label)) ≡ [] = λ label four. rows_inside levels (longer_tile 1 t label) (omega (arith, deep)) (none_in_quadrant t label (omega (arith, deep)) four none) in
      no_rows _ _ (at 0 (omega arith)) (no_rows _ _ (at 1 (omega arith)) (no_rows _ _ (at 2 (omega arith)) (no_rows _ _ (at 3 (omega arith)) refl)))
