-- How the quadrants of a tile share the window's spots, and what they cost.
use Rattle.std.proofs.Common.{◌≡◌, ℕ, suc, ◌+◌, ◌-◌, ◌*◌, ◌^◌, ◌<◌, ◌≤◌, Bool, true, false, ◌&&◌, eqb, ltb, leb, List, [], ◌∷◌, ◌++◌, length, refl, sym, ◌∙◌, ap, subst, arith, ⊎_elim}
use Rattle.std.specs.List.{flat_map, sum_by}
use Rattle.std.proofs.Math.Bool.{and_assoc}
use Rattle.std.proofs.Math.Nat.{add-mul}
use Rattle.std.proofs.lemmas.Bool.{and_parts, and_from, and_right, both_ways, eq-eqb, ne_eqb, leb-true, le-leb, lt-ltb, le-ltb, cases_eq}
use Rattle.std.proofs.lemmas.List.Sums.{sum_by-cons}
use Rattle.cube_view.proofs.Amounts.{amount-nil, amount-none, amount-same, amount-split, none-less}
use Rattle.cube_view.proofs.StepCosts.{cost_if-true, has_spot-quadrant, is_found-spot}
use Rattle.cube_view.proofs.OneWeight.{one_if}
use Rattle.cube_view.specs.Bag.{amount, EachCounted}
use Rattle.cube_view.specs.Costs.{ViewCosts, is_found}
use Rattle.cube_view.specs.Places.{in_tile, is_below, longer, longer_tile, quadrant_at, region_address}
use Rattle.cube_view.specs.Points.{Point}
use Rattle.cube_view.specs.declared.address.Address.{Address}
use Rattle.cube_view.specs.declared.address.Tile.{Tile}
use Rattle.cube_view.specs.declared.schema.Schema.{Schema}
use Rattle.cube_view.specs.declared.spot.Spot.{Spot}
use Rattle.query_syntax.proofs.ValidParts.{valid_parts}
use Rattle.query_syntax.specs.Queries.{is_valid_query, rect_in_range, verb_in_range, whole_space}
use Rattle.query_syntax.specs.Tables.{rows_of_verb, table, table_rows}
use Rattle.query_syntax.specs.TileOrder.{quadrants}
use Rattle.query_syntax.specs.Verbs.{is_window}
use Rattle.query_syntax.specs.Windows.{has_place, is_asked, is_in_window, window_total}
use Rattle.query_syntax.specs.declared.query.Query.{Query}
use Rattle.query_syntax.specs.declared.query.Verb.{Verb}
use Rattle.query_syntax.specs.declared.query.Verb.TheVariants.{Count, Hist, Map, Series, Window, Cross, Best, Stat, Told, Quit}
use Rattle.query_syntax.specs.declared.table.RowOut.{RowOut}
use Rattle.query_syntax.specs.declared.table.Table.{Table}
use Rattle.query_walk.proofs.QueryBoxes.{valid_has_box}
use Rattle.query_walk.proofs.Sets.{below_same}
use Rattle.query_walk.proofs.Sums.{sum_upto-more}
use Rattle.query_walk.specs.Costs.{sum_upto}
use Rattle.window_cover.specs.Costs.{crossed_cost, tile_cost, window_cost}
use Rattle.window_cover.specs.Covers.{all_tiles, cover, tiles_from}
use Rattle.query_syntax.specs.declared.rect.Rect.{Rect}
use Rattle.window_cover.specs.Rects.{is_crossed, is_inside}
use Rattle.window_cover.specs.Ways.{HasComeTo, below_cost, cover_below, inside_cost, is_asked_in, is_window_in}
use Rattle.window_cover.specs.Windows.{rect_of_verb}
use Rattle.window_cover.proofs.TileHolders.{and_given, and_never, sum_four, whole_holds}
use Rattle.window_cover.proofs.LargestTiles.{cover_is_inside, inside_deeper, inside_whole, uncrossed_apart}
use Rattle.window_cover.proofs.Quadrants.{holds_quadrant, place_inside, place_meets, place_numbers}

-- Spots of a tile by their next label

abbrev label_of_spot : ℕ → Tile → Spot → ℕ
label_of_spot depth t s = quadrant_at depth (t.z + 1) s.x s.y

-- the spot is one of the window in the tile, in a quadrant with a label under l
abbrev pub is_window_under : ℕ → Query → Rect → Tile → ℕ → Spot → Bool
is_window_under depth q r t l s = in_tile depth t s && (ltb (label_of_spot depth t s) l && is_in_window q r s)

here : (u w : Bool) → one_if (u && w) ≡ one_if (u && false) + one_if ((u && true) && w)
here true true = refl
here true false = refl
here false w = refl

there : (u w b : Bool) → one_if (u && (b && w)) ≡ one_if (u && (b && w)) + one_if ((u && false) && w)
there true true true = refl
there true true false = refl
there true false true = refl
there true false false = refl
there false w b = refl

-- one label more
label_split : (x l : ℕ) (u w : Bool) → one_if (u && (ltb x (l + 1) && w)) ≡ one_if (u && (ltb x l && w)) + one_if ((u && eqb x l) && w)
label_split x l u w = ⊎_elim
    (λ (e : x ≡ l). rw (lt-ltb x (l + 1) (omega (arith, e)), le-ltb x l (omega (arith, e)), eq-eqb x l e) (here u w))
    (λ (ne : x ≡ l → ⊥). rw (below_same x l ne, ne_eqb x l ne) (there u w (ltb x l)))
    (cases_eq x l)

module _ (z : Schema) (q : Query) (r : Rect) (t : Tile) (h : List Point) where
  pub under_none : 0 ≡ amount (is_window_under z.depth q r t 0) h
  under_none = sym (amount-none (is_window_under z.depth q r t 0) (λ s. and_right _ _ (ap (λ b. b && is_in_window q r s) (le-ltb (label_of_spot z.depth t s) 0 (omega arith)))) h)

  pub under_more : (l : ℕ) → t.z < z.depth → l < 4 → amount (is_window_under z.depth q r t (l + 1)) h ≡ amount (is_window_under z.depth q r t l) h + amount (is_window_in z.depth q r (longer_tile 1 t l)) h
  under_more l deep lt = amount-split (is_window_under z.depth q r t (l + 1)) (is_window_under z.depth q r t l) (is_window_in z.depth q r (longer_tile 1 t l)) (λ s.
      label_split (label_of_spot z.depth t s) l (in_tile z.depth t s) (is_in_window q r s)
      ∙ ap (λ b. one_if (is_window_under z.depth q r t l s) + one_if (b && is_in_window q r s)) (sym (holds_quadrant z.depth t l deep lt s.x s.y))) h

  pub under_all : (l : ℕ) → 4 ≤ l → amount (is_window_under z.depth q r t l) h ≡ amount (is_window_in z.depth q r t) h
  under_all l four = amount-same (is_window_under z.depth q r t l) (is_window_in z.depth q r t) (λ s. ap (λ b. in_tile z.depth t s && (b && is_in_window q r s)) (lt-ltb (label_of_spot z.depth t s) l (omega (arith, four)))) h

  -- a quadrant without spots has none of the window
  pub none_below : (l : ℕ) (a : Address) → t.z < z.depth → l < 4 → a ≡ region_address t → amount (is_below z a l) h ≡ 0 → amount (is_window_in z.depth q r (longer_tile 1 t l)) h ≡ 0
  none_below l a deep lt at none =
      let empty : amount (is_below z (region_address t) l) h ≡ 0 = subst (λ (b : Address). amount (is_below z b l) h ≡ 0) at none in
      none-less (is_window_in z.depth q r (longer_tile 1 t l)) (is_below z (region_address t) l) (λ s e.
      let in_it = (and_parts (in_tile z.depth (longer_tile 1 t l) s) (is_in_window q r s) e).0 in
      let parts = and_parts (in_tile z.depth t s) (eqb (label_of_spot z.depth t s) l) (sym (holds_quadrant z.depth t l deep lt s.x s.y) ∙ in_it) in
      and_from _ _ (and_from _ _ parts.0 refl) parts.1) h empty

  -- a tile inside the rectangle has of the window what the query asks for
  pub asked_inside : is_inside z.depth r t ≡ true → amount (is_asked_in z.depth q t) h ≡ amount (is_window_in z.depth q r t) h
  asked_inside is = amount-same (is_asked_in z.depth q t) (is_window_in z.depth q r t) (λ s.
      ap (λ b. b && is_asked q s) (sym (and_given (in_tile z.depth t s) (has_place r s.x s.y) (place_inside z.depth r t s.x s.y is)))
      ∙ and_assoc (in_tile z.depth t s) (has_place r s.x s.y) (is_asked q s)) h

  -- a tile outside has nothing
  pub none_uncrossed : is_inside z.depth r t ≡ false → is_crossed z.depth r t ≡ false → 0 ≡ amount (is_window_in z.depth q r t) h
  none_uncrossed out uncrossed = sym (amount-none (is_window_in z.depth q r t) (λ s.
      and_never (in_tile z.depth t s) (is_in_window q r s) (λ at is.
      both_ways _ (uncrossed_apart z.depth r t out uncrossed) (place_meets z.depth r t s.x s.y at (and_parts (has_place r s.x s.y) (is_asked q s) is).0))) h)

  -- a quadrant that was gone through
  pub gone_through : (l old more : ℕ) (u : Tile) → t.z < z.depth → l < 4 → u ≡ longer_tile 1 t l → old ≡ amount (is_window_under z.depth q r t l) h → more ≡ amount (is_window_in z.depth q r u) h → old + more ≡ amount (is_window_under z.depth q r t (l + 1)) h
  gone_through l old more u deep lt is so_far inner =
      let e = ap (λ (v : Tile). amount (is_window_in z.depth q r v) h) is in
      let m = under_more l deep lt in
      omega (arith, e, m, so_far, inner)

  -- a quadrant without spots, which has nothing
  pub passed_over : (l old : ℕ) (a : Address) → t.z < z.depth → l < 4 → a ≡ region_address t → amount (is_below z a l) h ≡ 0 → old ≡ amount (is_window_under z.depth q r t l) h → old ≡ amount (is_window_under z.depth q r t (l + 1)) h
  passed_over l old a deep lt at none so_far =
      let e = none_below l a deep lt at none in
      let m = under_more l deep lt in
      omega (arith, e, m, so_far)

-- What the tests of a tile tell, where the schema was asked for

module _ (z y : Schema) (r : Rect) (t : Tile) (answer b : Bool) (schema : y ≡ z) where
  pub tells_inside : answer ≡ is_inside y.depth r t → answer ≡ b → is_inside z.depth r t ≡ b
  tells_inside is tells = sym (ap (λ (x : Schema). is_inside x.depth r t) schema) ∙ (sym is ∙ tells)

  pub tells_crossed : answer ≡ is_crossed y.depth r t → answer ≡ b → is_crossed z.depth r t ≡ b
  tells_crossed is tells = sym (ap (λ (x : Schema). is_crossed x.depth r t) schema) ∙ (sym is ∙ tells)

pub deep_in : (z y : Schema) (t : Tile) → y ≡ z → t.z < y.depth → t.z < z.depth
deep_in z y t schema deep = let e = ap (λ (x : Schema). x.depth) schema in omega (arith, e, deep)

-- a walk that is at a tile and finds a quadrant of it comes to the quadrant
pub comes_to_quadrant : (weight_at : Spot → ℕ) (seen : ℕ) (z : Schema) (q : Query) (t below : Tile) (l : ℕ) (a d : Address) → t.z < z.depth → HasComeTo weight_at seen z q a t
    → below ≡ longer_tile 1 t l → (below.x < 2 ^ below.z) × (below.y < 2 ^ below.z) → d ≡ longer a l → EachCounted weight_at seen (λ h. 0 < amount (is_below z a l) h) → HasComeTo weight_at seen z q d below
comes_to_quadrant weight_at seen z q t below l a d deep come is within at some =
    let level = ap (λ (u : Tile). u.z) is in
    record {
      has_box = come.has_box;
      tile = and_from _ _ (and_from _ _ (le-leb below.z z.depth (omega (arith, level, deep))) (lt-ltb below.x (2 ^ below.z) within.0)) (lt-ltb below.y (2 ^ below.z) within.1);
      place = at ∙ (ap (λ (b : Address). longer b l) come.place ∙ ap region_address (sym is));
      found = λ h counts. ap (λ (u : Tile). is_found z h u) is ∙ is_found-spot z h (longer_tile 1 t l) (has_spot-quadrant z t l h deep (subst (λ (b : Address). 0 < amount (is_below z b l) h) come.place (some h counts)));
    }

-- the walk for a valid window begins at all of space
pub comes_to_whole : (weight_at : Spot → ℕ) (seen : ℕ) (z : Schema) (q : Query) (a : Address) → is_valid_query z q ≡ true → a ≡ region_address whole_space → HasComeTo weight_at seen z q a whole_space
comes_to_whole weight_at seen z q a valid at = record { has_box = valid_has_box z q valid; tile = and_from _ _ (and_from _ _ (le-leb 0 z.depth (omega arith)) refl) refl; place = at; found = λ h counts. refl }

-- the rectangle of a valid window is in range
pub rect_range : (z : Schema) (q : Query) (r : Rect) → is_valid_query z q ≡ true → q.verb ≡ Window r → rect_in_range z.depth r ≡ true
rect_range z q r valid is = subst (λ (v : Verb). verb_in_range z.depth (length z.categories) v ≡ true) is (valid_parts z q valid).verb

-- all of space has all of the window
pub window_is : (z : Schema) (q : Query) (r : Rect) (h : List Point) → rect_in_range z.depth r ≡ true → amount (is_window_in z.depth q r whole_space) h ≡ window_total q r h
unfolding window_total
window_is z q r h range = amount-same (is_window_in z.depth q r whole_space) (is_in_window q r) (λ s.
    and_second (in_tile z.depth whole_space s) (is_in_window q r s) (λ is.
    let n = place_numbers r s.x s.y (and_parts (has_place r s.x s.y) (is_asked q s) is).0 in
    let parts = and_parts (leb r.x0 r.x1 && leb r.x1 (2 ^ z.depth)) (leb r.y0 r.y1 && leb r.y1 (2 ^ z.depth)) range in
    let x = leb-true _ _ (and_parts (leb r.x0 r.x1) (leb r.x1 (2 ^ z.depth)) parts.0).1 in
    let y = leb-true _ _ (and_parts (leb r.y0 r.y1) (leb r.y1 (2 ^ z.depth)) parts.1).1 in
    whole_holds z.depth s.x s.y (omega (arith, n.1, x)) (omega (arith, n.3, y)))) h
  where
    and_second : (a b : Bool) → (b ≡ true → a ≡ true) → a && b ≡ b
    and_second true b there = refl
    and_second false true there = there refl
    and_second false false there = refl

-- What it costs

module _ (costs : ViewCosts) (z : Schema) (h : List Point) (q : Query) (r : Rect) where
  -- what the quadrants with labels under l cost, with the downs to them
  abbrev pub paid : Tile → ℕ → ℕ
  paid t l = l * costs.down_cost (region_address t) + sum_upto (λ k. inside_cost costs z h q r (longer_tile 1 t k)) l

  -- a quadrant that was gone through
  pub paid_more : (t : Tile) (l : ℕ) (a : Address) (start old mid new : ℕ) → a ≡ region_address t → old ≤ start + paid t l → mid ≤ old + costs.down_cost a → new ≤ mid + inside_cost costs z h q r (longer_tile 1 t l) → new ≤ start + paid t (l + 1)
  paid_more t l a start old mid new at so_far step inner =
      let m = sum_upto-more (λ k. inside_cost costs z h q r (longer_tile 1 t k)) l in
      let d = ap costs.down_cost at in
      let s = add-mul l 1 (costs.down_cost (region_address t)) in
      omega (arith, m, d, s, so_far, step, inner)

  -- and one that was passed over
  pub paid_past : (t : Tile) (l : ℕ) (a : Address) (start old mid : ℕ) → a ≡ region_address t → old ≤ start + paid t l → mid ≤ old + costs.down_cost a → mid ≤ start + paid t (l + 1)
  paid_past t l a start old mid at so_far step =
      paid_more t l a start old mid mid at so_far step (omega arith)

  -- a tile inside the rectangle
  pub inside_paid : (t : Tile) (old new : ℕ) → is_inside z.depth r t ≡ true → new ≤ old + tile_cost costs z h q t → new ≤ old + inside_cost costs z h q r t
  inside_paid t old new is step =
      let e = ap (sum_by (tile_cost costs z h q)) (inside_whole z.depth r t is) in
      let c = sum_by-cons (tile_cost costs z h q) t [] in
      omega (arith, e, c, step)

  crossed_is : (t : Tile) → is_crossed z.depth r t ≡ true → is_found z h t ≡ true → crossed_cost costs z h r t ≡ 4 * costs.down_cost (region_address t)
  crossed_is t crossed found = cost_if-true (is_crossed z.depth r t && is_found z h t) (4 * costs.down_cost (region_address t)) (and_from _ _ crossed found)

  quadrant_is : (t : Tile) (l : ℕ) → below_cost costs z h q r (z.depth - t.z - 1) (longer_tile 1 t l) ≡ inside_cost costs z h q r (longer_tile 1 t l)
  quadrant_is t l = let e : z.depth - t.z - 1 ≡ z.depth - (t.z + 1) = omega arith in ap (λ n. below_cost costs z h q r n (longer_tile 1 t l)) e

  -- a tile that the rectangle crosses costs four downs and its quadrants
  pub crossed_paid : (t : Tile) (l : ℕ) (old new : ℕ) → t.z < z.depth → is_inside z.depth r t ≡ false → is_crossed z.depth r t ≡ true → is_found z h t ≡ true → 4 ≤ l → l ≤ 4 → new ≤ old + paid t l → new ≤ old + inside_cost costs z h q r t
  crossed_paid t l old new deep out crossed found low high so_far =
      let n = z.depth - t.z - 1 in
      let four : l ≡ 4 = omega (arith, low, high) in
      let e = ap (paid t) four in
      let levels : z.depth - t.z ≡ suc n = omega (arith, deep) in
      let a = ap (λ k. sum_by (crossed_cost costs z h r) (tiles_from k t)) levels ∙ sum_by-cons (crossed_cost costs z h r) t (flat_map (tiles_from n) (quadrants t)) in
      let b = sum_four (crossed_cost costs z h r) (tiles_from n) t in
      let c = ap (sum_by (tile_cost costs z h q)) (inside_deeper z.depth r t deep out) ∙ sum_four (tile_cost costs z h q) (cover_below z.depth r n) t in
      let d = crossed_is t crossed found in
      let q0 = quadrant_is t 0 in
      let q1 = quadrant_is t 1 in
      let q2 = quadrant_is t 2 in
      let q3 = quadrant_is t 3 in
      omega (arith, so_far, e, a, b, c, d, q0, q1, q2, q3)

  -- all of space
  pub window_paid : (seen old new : ℕ) → q.verb ≡ Window r → seen ≡ length h → (seen ≡ 0 → ⊥) → new ≤ old + inside_cost costs z h q r whole_space → new ≤ old + window_cost costs z h q q.verb
  unfolding all_tiles
  window_paid seen old new is count some step =
      let e : z.depth - 0 ≡ z.depth = omega arith in
      let w = cost_if-true (ltb 0 (length h)) (sum_by (crossed_cost costs z h r) (all_tiles z.depth) + sum_by (tile_cost costs z h q) (cover z.depth r)) (lt-ltb 0 (length h) (omega (arith, count, some))) in
      let a = ap (λ n. sum_by (crossed_cost costs z h r) (tiles_from n whole_space)) e in
      let b = ap (sum_by (tile_cost costs z h q)) (cover_is_inside z.depth r) in
      let asked = ap (window_cost costs z h q) is in
      omega (arith, w, a, b, asked, step)

-- The table

-- a list of no points has nothing in any window
pub no_window : (q : Query) (r : Rect) (h : List Point) (seen : ℕ) → seen ≡ length h → seen ≡ 0 → 0 ≡ window_total q r h
unfolding window_total
no_window q r [] seen count none = sym (amount-nil (is_in_window q r))
no_window q r (x ∷ h) seen count none = absurd (omega (arith, count, none))

-- the rows of a window
window_rows : (z : Schema) (q : Query) (h : List Point) (v : Verb) → is_window v ≡ true → rows_of_verb z q h v ≡ RowOut.One (window_total q (rect_of_verb v) h) ∷ []
window_rows z q h Count is = absurd (cc)
window_rows z q h (Hist k) is = absurd (cc)
window_rows z q h (Map down) is = absurd (cc)
window_rows z q h (Series from wide rows) is = absurd (cc)
window_rows z q h (Window r) is = refl
window_rows z q h (Cross k l) is = absurd (cc)
window_rows z q h (Best down rows) is = absurd (cc)
window_rows z q h Stat is = absurd (cc)
window_rows z q h Told is = absurd (cc)
window_rows z q h Quit is = absurd (cc)

-- the table of these rows
abbrev pub table_of : List RowOut → ℕ → Table
table_of rows seen = record { rows = rows; seen = seen }

pub table_is : (z : Schema) (q : Query) (h : List Point) (seen total : ℕ) (old rows : List RowOut) → is_window q.verb ≡ true → old ≡ [] → rows ≡ old ++ RowOut.One total ∷ []
    → total ≡ window_total q (rect_of_verb q.verb) h → seen ≡ length h → table_of rows seen ≡ table z q h
unfolding table table_rows
table_is z q h seen total old rows asks empty pushed is count =
    let one = ap (λ (ts : List RowOut). ts ++ RowOut.One total ∷ []) empty ∙ ap (λ n. RowOut.One n ∷ []) is in
    let all : rows ≡ rows_of_verb z q h q.verb = pushed ∙ (one ∙ sym (window_rows z q h q.verb asks)) in
    λ i. record { rows = all i; seen = count i }
