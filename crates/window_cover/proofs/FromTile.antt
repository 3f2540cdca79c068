-- What the walk from a tile on counts, and what it costs: as much as the walks to its addresses where downs in space
-- cost nothing.
use Rattle.std.proofs.Common.{◌≡◌, ℕ, zero, suc, ◌+◌, ◌<◌, ◌≤◌, Bool, true, false, cond, ◌&&◌, eqb, ltb, List, [], ◌∷◌, take, length, Option, Some, None, refl, sym, ◌∙◌, ap, arith}
use Rattle.std.specs.List.{sum_by}
use Rattle.std.proofs.lemmas.Bool.{ne_eqb}
use Rattle.cube_view.proofs.Amounts.{amount-same}
use Rattle.cube_view.proofs.StepCosts.{cost_if-true}
use Rattle.cube_view.specs.Bag.{amount, anywhere}
use Rattle.cube_view.specs.Costs.{ViewCosts, has_spot, is_found, cost_if, down_in_space, space_cost, categories_cost, after_space_cost, address_cost}
use Rattle.cube_view.specs.Places.{in_tile, longer, next_dim, region_address, tile_at}
use Rattle.cube_view.specs.Points.{Point}
use Rattle.cube_view.specs.declared.address.Address.{Address}
use Rattle.cube_view.specs.declared.address.Tile.{Tile}
use Rattle.cube_view.specs.declared.schema.Schema.{Schema}
use Rattle.query_syntax.specs.Addresses.{addresses, address_at, asked_lists}
use Rattle.query_syntax.specs.Boxes.{box, total}
use Rattle.query_syntax.specs.Narrowing.{with_tile}
use Rattle.query_syntax.specs.Parts.{with_region}
use Rattle.query_syntax.specs.Tiles.{is_tile}
use Rattle.query_syntax.specs.declared.query.Choice.{Choice}
use Rattle.query_syntax.specs.declared.query.Choice.TheVariants.{All, Only}
use Rattle.query_syntax.specs.declared.query.Query.{Query}
use Rattle.query_walk.proofs.Addresses.{sum_by-map, walk_within}
use Rattle.query_walk.proofs.Sets.{box_is}
use Rattle.query_walk.specs.Costs.{choices_from, onward_cost, rest_cost, search_cost, sum_over}
use Rattle.query_walk.specs.Walks.{is_left, HasBox}
use Rattle.window_cover.specs.Costs.{from_tile_cost, tile_cost}
use Rattle.window_cover.specs.Ways.{is_asked_in}

-- What it counts

opened : (t a : Bool) → (t && true) && a ≡ t && a
opened true a = refl
opened false a = refl

-- what a query counts with a tile as its region is what it asks for in the tile
pub asked_total : (z : Schema) (q : Query) (t : Tile) (h : List Point) → total z (with_tile (box q) t) h ≡ amount (is_asked_in z.depth q t) h
asked_total z q t h =
    sym (box_is z (with_region q t) h (next_dim (region_address t)) (region_address t) refl refl)
    ∙ amount-same (is_left z q (next_dim (region_address t)) 0) (is_asked_in z.depth q t) (λ s. opened (in_tile z.depth t s) _) h

-- The costs of a view, where downs in space are free

module _ (costs : ViewCosts) (z : Schema) (h : List Point) where
  abbrev free : ViewCosts
  free = record costs { down_cost = λ a. cond (eqb a.dim 1) 0 (costs.down_cost a) }

  free_down : (t : Tile) (level : ℕ) → down_in_space free z h t level ≡ 0
  free_down t level = elim (is_found z h (tile_at t level)) as (λ b. cost_if b 0 ≡ 0) [ true ↦ refl | false ↦ refl ]

  free_space : (t : Tile) (n : ℕ) → space_cost free z h t n ≡ 0
  free_space t zero = refl
  free_space t (suc n) = let rest = free_space t n in let here = free_down t n in omega (arith, rest, here)

  -- past space the costs are the same
  same_down : (a : Address) → 1 < a.dim → free.down_cost a ≡ costs.down_cost a
  same_down a later = ap (λ b. cond b 0 (costs.down_cost a)) (ne_eqb a.dim 1 (λ (e : a.dim ≡ 1). omega (arith, e, later)))

  same_rest : (cs : List Choice) (a : Address) → 1 < a.dim → rest_cost free z h cs a ≡ rest_cost costs z h cs a
  same_rest [] a later = refl
  same_rest (All ∷ cs) a later = ap (λ n. 1 + n) (same_rest cs (next_dim a) (omega (arith, later)))
  same_rest (Only set ∷ cs) a later =
      let rest : (v : ℕ) → rest_cost free z h cs (next_dim (longer a v)) ≡ rest_cost costs z h cs (next_dim (longer a v)) = λ v. same_rest cs (next_dim (longer a v)) (omega (arith, later)) in
      λ i. sum_over set (λ v. same_down a later i + cost_if (has_spot z h (longer a v)) (1 + rest v i))

  same_categories : (values : List (Option ℕ)) (a : Address) → 1 < a.dim → categories_cost free z h values a ≡ categories_cost costs z h values a
  same_categories [] a later = refl
  same_categories (None ∷ values) a later = ap (λ n. 1 + n) (same_categories values (next_dim a) (omega (arith, later)))
  same_categories (Some v ∷ values) a later =
      let rest = same_categories values (next_dim (longer a v)) (omega (arith, later)) in
      λ i. same_down a later i + cost_if (has_spot z h (longer a v)) (1 + rest i)

  same_after : (values : List (Option ℕ)) (t : Tile) → after_space_cost free z h values t ≡ after_space_cost costs z h values t
  same_after values t = ap (λ n. 1 + cost_if (ltb 0 (amount anywhere h)) n) (same_categories values (next_dim (region_address t)) (omega arith))

  module _ (q : Query) (t : Tile) (found : is_found z h t ≡ true) where
    address_free : (values : List (Option ℕ)) → address_cost free z h (address_at z t values) ≡ from_tile_cost costs z h (address_at z t values)
    address_free values =
        let space = free_space t t.z in
        let rest = same_after (take (length z.categories) values) t in
        let here = cost_if-true (is_found z h t) (after_space_cost free z h (take (length z.categories) values) t) found in
        omega (arith, space, rest, here)

    -- the walks to the addresses of the tile, where downs in space are free, are those from the tile on
    search_free : search_cost free z h (with_region q t) ≡ tile_cost costs z h q t
    search_free =
        sum_by-map (address_cost free z h) (address_at z t) (asked_lists q.sets)
        ∙ ((λ i. sum_by (λ values. address_free values i) (asked_lists q.sets))
        ∙ (sym (sum_by-map (from_tile_cost costs z h) (address_at z t) (asked_lists q.sets))
        ∙ sym (cost_if-true (is_found z h t) (sum_by (from_tile_cost costs z h) (addresses z (with_region q t))) found)))

    module _ (has : HasBox z q) (tile : is_tile z.depth t ≡ true) where
      has_here : HasBox z (with_region q t)
      has_here = record { region = tile; wide = has.wide; choices = has.choices; order = has.order }

      onward_same : onward_cost free z h (with_region q t) t ≡ onward_cost costs z h q t
      onward_same = ap (λ n. 1 + cost_if (ltb 0 (amount anywhere h)) n) (same_rest (choices_from z q 0) (next_dim (region_address t)) (omega arith))

      -- the walk from the tile on is within the walks from it to its addresses
      pub onward_within : onward_cost costs z h q t ≤ tile_cost costs z h q t
      onward_within =
          let w = walk_within free z h (with_region q t) has_here in
          let here = cost_if-true (is_found z h t) (onward_cost free z h (with_region q t) t) found in
          let e = search_free in
          let same = onward_same in
          omega (arith, w, here, e, same)
