-- The best tiles are in order, and no other tile is ahead of one of them.
use Rattle.std.proofs.Common.{◌≡◌, ℕ, zero, suc, ◌+◌, ◌*◌, ◌/◌, ◌%◌, ◌<◌, ◌≤◌, Bool, true, false, eqb, List, [], ◌∷◌, ◌++◌, length, cond, take, filter, ◌⊎◌, refl, sym, ◌∙◌, ap, subst, arith, add-one, inl, inr, ⊎_elim}
use Rattle.std.specs.List.{AllByRecursion, flat_map}
use Rattle.std.proofs.lemmas.Bool.{eqb-true, eq-eqb, cases_eq}
use Rattle.cube_view.proofs.Amounts.{amount-within}
use Rattle.cube_view.specs.Bag.{amount, anywhere}
use Rattle.cube_view.specs.Places.{longer_tile, tile_within}
use Rattle.cube_view.specs.Points.{Point}
use Rattle.cube_view.specs.declared.address.Tile.{Tile}
use Rattle.cube_view.specs.declared.schema.Schema.{Schema}
use Rattle.cross_table.specs.Order.{place_in_order, path_place, IsAhead, IsRanking, IsOneOf, AreTop, TopOrder}
use Rattle.query_syntax.specs.Boxes.{box, inside, total}
use Rattle.query_syntax.specs.Narrowing.{with_tile}
use Rattle.query_syntax.specs.TileOrder.{quadrants, tiles_below, tiles_of_level}
use Rattle.query_syntax.specs.TopTiles.{area_total, tiles_of_total, tiles_by_total, top_tiles}
use Rattle.query_syntax.specs.declared.query.Query.{Query}

-- Lists of tiles

all-map : {P Q : Tile → Type 0} → ((t : Tile) → P t → Q t) → (ts : List Tile) → AllByRecursion P ts → AllByRecursion Q ts
all-map each [] all = tt
all-map each (t ∷ ts) (here, rest) = (each t here, all-map each ts rest)

all-append : (P : Tile → Type 0) (ts us : List Tile) → AllByRecursion P ts → AllByRecursion P us → AllByRecursion P (ts ++ us)
all-append P [] us all more = more
all-append P (t ∷ ts) us (here, rest) more = (here, all-append P ts us rest more)

all-take : (P : Tile → Type 0) (n : ℕ) (ts : List Tile) → AllByRecursion P ts → AllByRecursion P (take n ts)
all-take P zero ts all = tt
all-take P (suc n) [] all = tt
all-take P (suc n) (t ∷ ts) (here, rest) = (here, all-take P n ts rest)

all-filter : (P : Tile → Type 0) (p : Tile → Bool) (ts : List Tile) → AllByRecursion P ts → AllByRecursion P (filter p ts)
all-filter P p [] all = tt
all-filter P p (t ∷ ts) (here, rest) = by_test (p t) (all-filter P p ts rest)
  where
    by_test : (b : Bool) → AllByRecursion P (filter p ts) → AllByRecursion P (cond b (t ∷ filter p ts) (filter p ts))
    by_test true others = (here, others)
    by_test false others = others

-- The tiles of a level in path order

-- each tile stands before all after it
abbrev rises : List Tile → Type 0
rises [] = Unit {0}
rises (t ∷ ts) = AllByRecursion (λ u. path_place t < path_place u) ts × rises ts

quadrant_place : (t : Tile) (l : ℕ) → l < 4 → path_place (longer_tile 1 t l) ≡ 4 * path_place t + l
quadrant_place t l lt =
    let x = 2 * t.x + l % 2 in
    let y = 2 * t.y + l / 2 in
    let x_half : x / 2 ≡ t.x = omega arith in
    let y_half : y / 2 ≡ t.y = omega (arith, lt) in
    let bits : 2 * (y % 2) + x % 2 ≡ l = omega (arith, lt) in
    ap (λ n. place_in_order n x y) (add-one t.z) ∙ (λ i. 4 * place_in_order t.z (x_half i) (y_half i) + bits i)

-- the quadrants of later tiles stand after those of a tile
quadrants_after : (p : ℕ) (ts : List Tile) → AllByRecursion (λ u. p < path_place u) ts → AllByRecursion (λ u. 4 * p + 3 < path_place u) (flat_map quadrants ts)
quadrants_after p [] all = tt
quadrants_after p (t ∷ ts) (here, rest) =
    let at : (l : ℕ) → l < 4 → 4 * p + 3 < path_place (longer_tile 1 t l) = λ l lt. (let e = quadrant_place t l lt in omega (arith, e, here)) in
    (at 0 (omega arith), (at 1 (omega arith), (at 2 (omega arith), (at 3 (omega arith), quadrants_after p ts rest))))

rises_deeper : (ts : List Tile) → rises ts → rises (flat_map quadrants ts)
rises_deeper [] all = tt
rises_deeper (t ∷ ts) (here, rest) =
    let p = path_place t in
    let zeroth = quadrant_place t 0 (omega arith) in
    let first = quadrant_place t 1 (omega arith) in
    let second = quadrant_place t 2 (omega arith) in
    let third = quadrant_place t 3 (omega arith) in
    let later = quadrants_after p ts here in
    let after : (u : Tile) → path_place u ≤ 4 * p + 3 → AllByRecursion (λ v. path_place u < path_place v) (flat_map quadrants ts) = λ u le. all-map (λ v lt. omega (arith, lt, le)) (flat_map quadrants ts) later in (
      (omega (arith, zeroth, first), (omega (arith, zeroth, second), (omega (arith, zeroth, third), after (longer_tile 1 t 0) (omega (arith, zeroth))))),
      (
        (omega (arith, first, second), (omega (arith, first, third), after (longer_tile 1 t 1) (omega (arith, first)))),
        (
          (omega (arith, second, third), after (longer_tile 1 t 2) (omega (arith, second))),
          (after (longer_tile 1 t 3) (omega (arith, third)), rises_deeper ts rest),
        ),
      ),
    )

rises_level : (n : ℕ) → rises (tiles_of_level n)
rises_level zero = (tt, tt)
rises_level (suc n) = rises_deeper (tiles_of_level n) (rises_level n)

rises_filter : (p : Tile → Bool) (ts : List Tile) → rises ts → rises (filter p ts)
rises_filter p [] all = tt
rises_filter p (t ∷ ts) (here, rest) = by_test (p t) (rises_filter p ts rest)
  where
    by_test : (b : Bool) → rises (filter p ts) → rises (cond b (t ∷ filter p ts) (filter p ts))
    by_test true others = (all-filter (λ u. path_place t < path_place u) p ts here, others)
    by_test false others = others

-- One of a list

one_of_filter : (p : Tile → Bool) (u : Tile) (ts : List Tile) → IsOneOf u ts → p u ≡ true → IsOneOf u (filter p ts)
one_of_filter p u [] one is = absurd one
one_of_filter p u (t ∷ ts) (inl e) is = subst (λ b. IsOneOf u (cond b (t ∷ filter p ts) (filter p ts))) (sym (ap p (sym e) ∙ is)) (inl e)
one_of_filter p u (t ∷ ts) (inr one) is = by_test (p t) (one_of_filter p u ts one is)
  where
    by_test : (b : Bool) → IsOneOf u (filter p ts) → IsOneOf u (cond b (t ∷ filter p ts) (filter p ts))
    by_test true among = inr among
    by_test false among = among

one_of_front : (u : Tile) (ts us : List Tile) → IsOneOf u ts → IsOneOf u (ts ++ us)
one_of_front u [] us one = absurd one
one_of_front u (t ∷ ts) us (inl e) = inl e
one_of_front u (t ∷ ts) us (inr one) = inr (one_of_front u ts us one)

one_of_back : (u : Tile) (ts us : List Tile) → IsOneOf u us → IsOneOf u (ts ++ us)
one_of_back u [] us one = one
one_of_back u (t ∷ ts) us one = inr (one_of_back u ts us one)

all_one_of : (ts : List Tile) → AllByRecursion (λ t. IsOneOf t ts) ts
all_one_of [] = tt
all_one_of (t ∷ ts) = (inl refl, all-map (λ u one. inr one) ts (all_one_of ts))

module _ (z : Schema) (q : Query) (h : List Point) where
  abbrev of_total : Tile → ℕ
  of_total t = area_total z q h t

  abbrev ahead : Tile → Tile → Type 0
  ahead t u = IsAhead z q h t u

  -- what passes the test of a total has it
  filter_passes : (w : ℕ) (ts : List Tile) → AllByRecursion (λ t. of_total t ≡ w) (filter (λ t. eqb (of_total t) w) ts)
  filter_passes w [] = tt
  filter_passes w (t ∷ ts) = by_test (eqb (of_total t) w) refl (filter_passes w ts)
    where
      by_test : (b : Bool) → eqb (of_total t) w ≡ b → AllByRecursion (λ u. of_total u ≡ w) (filter (λ u. eqb (of_total u) w) ts) → AllByRecursion (λ u. of_total u ≡ w) (cond b (t ∷ filter (λ u. eqb (of_total u) w) ts) (filter (λ u. eqb (of_total u) w) ts))
      by_test true e others = (eqb-true (of_total t) w e, others)
      by_test false e others = others

  -- tiles of one total that rise are in order
  ranked_equal : (w : ℕ) (ts : List Tile) → AllByRecursion (λ t. of_total t ≡ w) ts → rises ts → IsRanking z q h ts
  ranked_equal w [] all up = tt
  ranked_equal w (t ∷ ts) (here, rest) (after, up) = (each ts rest after, ranked_equal w ts rest up)
    where
      each : (us : List Tile) → AllByRecursion (λ u. of_total u ≡ w) us → AllByRecursion (λ u. path_place t < path_place u) us → AllByRecursion (ahead t) us
      each [] same later = tt
      each (u ∷ us) (same, others) (lt, later) = (inr (here ∙ sym same, lt), each us others later)

  -- after tiles of one total those of less
  ranked_append : (w : ℕ) (ts us : List Tile) → AllByRecursion (λ t. of_total t ≡ suc w) ts → AllByRecursion (λ t. of_total t ≤ w) us → IsRanking z q h ts → IsRanking z q h us → IsRanking z q h (ts ++ us)
  ranked_append w [] us all low up down = down
  ranked_append w (t ∷ ts) us (here, rest) low (after, up) down =
      (all-append (ahead t) ts us after (all-map (λ u le. inl (omega (arith, here, le))) us low), ranked_append w ts us rest low up down)

  by_total_low : (levels w : ℕ) → AllByRecursion (λ t. (0 < of_total t) × (of_total t ≤ w)) (tiles_by_total z q h levels w)
  by_total_low levels zero = tt
  by_total_low levels (suc w) =
      all-append (λ t. (0 < of_total t) × (of_total t ≤ suc w)) (tiles_of_total z q h levels (suc w)) (tiles_by_total z q h levels w)
      (all-map (λ t e. (omega (arith, e), omega (arith, e))) (tiles_of_total z q h levels (suc w)) (filter_passes (suc w) (tiles_below levels q.region)))
      (all-map (λ t both. (both.0, (let le = both.1 in omega (arith, le)))) (tiles_by_total z q h levels w) (by_total_low levels w))

  by_total_ranked : (levels w : ℕ) → IsRanking z q h (tiles_by_total z q h levels w)
  by_total_ranked levels zero = tt
  by_total_ranked levels (suc w) =
      let level = q.region.z + levels in
      let below = rises_filter (tile_within q.region) (tiles_of_level level) (rises_level level) in
      let same = filter_passes (suc w) (tiles_below levels q.region) in
      ranked_append w (tiles_of_total z q h levels (suc w)) (tiles_by_total z q h levels w) same
      (all-map (λ t both. both.1) (tiles_by_total z q h levels w) (by_total_low levels w))
      (ranked_equal (suc w) (tiles_of_total z q h levels (suc w)) same (rises_filter (λ t. eqb (of_total t) (suc w)) (tiles_below levels q.region) below))
      (by_total_ranked levels w)

  by_total_below : (levels w : ℕ) → AllByRecursion (λ t. IsOneOf t (tiles_below levels q.region)) (tiles_by_total z q h levels w)
  by_total_below levels zero = tt
  by_total_below levels (suc w) =
      all-append (λ t. IsOneOf t (tiles_below levels q.region)) (tiles_of_total z q h levels (suc w)) (tiles_by_total z q h levels w)
      (all-filter (λ t. IsOneOf t (tiles_below levels q.region)) (λ t. eqb (of_total t) (suc w)) (tiles_below levels q.region) (all_one_of (tiles_below levels q.region)))
      (by_total_below levels w)

  -- each tile that has something is one of them
  by_total_has : (levels most : ℕ) (u : Tile) → IsOneOf u (tiles_below levels q.region) → 0 < of_total u → of_total u ≤ most → IsOneOf u (tiles_by_total z q h levels most)
  by_total_has levels zero u one some le = absurd (omega (arith, some, le))
  by_total_has levels (suc w) u one some le = ⊎_elim
      (λ (e : of_total u ≡ suc w). one_of_front u (tiles_of_total z q h levels (suc w)) (tiles_by_total z q h levels w) (one_of_filter (λ t. eqb (of_total t) (suc w)) u (tiles_below levels q.region) one (eq-eqb (of_total u) (suc w) e)))
      (λ (ne : of_total u ≡ suc w → ⊥). one_of_back u (tiles_of_total z q h levels (suc w)) (tiles_by_total z q h levels w) (by_total_has levels w u one some (omega (arith, le, ne))))
      (cases_eq (of_total u) (suc w))

  ranked_take : (n : ℕ) (ts : List Tile) → IsRanking z q h ts → IsRanking z q h (take n ts)
  ranked_take zero ts up = tt
  ranked_take (suc n) [] up = tt
  ranked_take (suc n) (t ∷ ts) (after, up) = (all-take (ahead t) n ts after, ranked_take n ts up)

  few_taken : (n : ℕ) (ts : List Tile) → length (take n ts) ≤ n
  few_taken zero ts = omega arith
  few_taken (suc n) [] = omega arith
  few_taken (suc n) (t ∷ ts) = let le = few_taken n ts in omega (arith, le)

  at_one : (t u : Tile) (ts : List Tile) → AllByRecursion (ahead t) ts → IsOneOf u ts → ahead t u
  at_one t u [] all one = absurd one
  at_one t u (s ∷ ts) (here, rest) (inl e) = subst (λ v. ahead t v) (sym e) here
  at_one t u (s ∷ ts) (here, rest) (inr one) = at_one t u ts rest one

  -- what is not among the first is after all of them
  taken_or_after : (n : ℕ) (ts : List Tile) (u : Tile) → IsRanking z q h ts → IsOneOf u ts → IsOneOf u (take n ts) ⊎ ((length (take n ts) ≡ n) × AllByRecursion (λ t. ahead t u) (take n ts))
  taken_or_after zero ts u up one = inr (refl, tt)
  taken_or_after (suc n) [] u up one = absurd one
  taken_or_after (suc n) (t ∷ ts) u (after, up) (inl e) = inl (inl e)
  taken_or_after (suc n) (t ∷ ts) u (after, up) (inr one) = ⊎_elim
      (λ (among : IsOneOf u (take n ts)). inl (inr among))
      (λ (rest : (length (take n ts) ≡ n) × AllByRecursion (λ v. ahead v u) (take n ts)). inr (ap suc rest.0, (at_one t u ts after one, rest.1)))
      (taken_or_after n ts u up one)

  light : (t : Tile) → of_total t ≤ amount anywhere h
  unfolding total
  light t = amount-within (inside z (with_tile (box q) t)) h

  are_top : (levels rows : ℕ) → AreTop z q h levels rows (top_tiles z q h levels rows)
  unfolding top_tiles
  are_top levels rows =
      let all = tiles_by_total z q h levels (amount anywhere h) in
      record {
        few = few_taken rows all;
        ranked = ranked_take rows all (by_total_ranked levels (amount anywhere h));
        some = all-map (λ t both. both.0) (take rows all) (all-take (λ t. (0 < of_total t) × (of_total t ≤ amount anywhere h)) rows all (by_total_low levels (amount anywhere h)));
        level = all-take (λ t. IsOneOf t (tiles_below levels q.region)) rows all (by_total_below levels (amount anywhere h));
        others = λ u one some. taken_or_after rows all u (by_total_ranked levels (amount anywhere h)) (by_total_has levels (amount anywhere h) u one some (light u));
      }

pub top_order : TopOrder
top_order z q h levels rows = are_top z q h levels rows
