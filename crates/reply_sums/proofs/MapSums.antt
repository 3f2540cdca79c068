-- The rows of the maps of two lists of points add up to those of both together.
use Rattle.std.proofs.Common.{◌≡◌, ℕ, ◌+◌, Bool, true, false, ◌&&◌, ⊎_elim, List, [], ◌∷◌, refl, sym, ◌∙◌, ap}
use Rattle.std.specs.Prelude.{◌==◌, not, if◌then◌else◌, Some, None}
use Rattle.std.specs.List.{cons_option, filter_map}
use Rattle.std.proofs.lemmas.Bool.{and_from, cases_eq, eq-eqb, ne_eqb}
use Rattle.cube_view.specs.declared.address.Tile.{Tile}
use Rattle.query_syntax.specs.declared.table.RowOut.{RowOut}
use Rattle.reply_sums.specs.Areas.{after_head, areas_of_both, head_total, is_none_left, left_after, row_of_total, same_tile, sum_areas}
use Rattle.reply_sums.proofs.PathOrder.{apart, once_each}

-- the rows of the tiles that have a total
abbrev pub areas_of : (Tile → ℕ) → List Tile → List RowOut
areas_of f ts = filter_map (λ t. row_of_total t (f t)) ts

own_tile : (t : Tile) → same_tile t t ≡ true
own_tile t = and_from _ _ (and_from _ _ (eq-eqb t.z t.z refl) (eq-eqb t.x t.x refl)) (eq-eqb t.y t.y refl)

-- a tile that is none of these has no row among theirs
module _ (f : Tile → ℕ) (t : Tile) where
  first_apart : (u : Tile) (n : ℕ) (rows : List RowOut) → same_tile t u ≡ false → (head_total t (RowOut.Area u n ∷ rows) ≡ 0) × (after_head t (RowOut.Area u n ∷ rows) ≡ RowOut.Area u n ∷ rows)
  first_apart u n rows e = (
    ap (λ b. if b && not (n == 0) then n else 0) e,
    ap (λ b. if b && not (n == 0) then rows else (RowOut.Area u n ∷ rows)) e,
  )

  abbrev Stands : List RowOut → Type 0
  Stands rows = (head_total t rows ≡ 0) × (after_head t rows ≡ rows)

  stands_at : (b : Bool) (u : Tile) (n : ℕ) (rows : List RowOut) → same_tile t u ≡ false → Stands rows → Stands (cons_option (if b then None else Some (RowOut.Area u n)) rows)
  stands_at true u n rows e rest = rest
  stands_at false u n rows e rest = first_apart u n rows e

  pub stands : (us : List Tile) → apart t us → Stands (areas_of f us)
  stands [] all = (refl, refl)
  stands (u ∷ us) (here, rest) = stands_at (f u == 0) u (f u) (areas_of f us) here (stands us rest)

  -- and one whose row comes first gives its total
  own_row : (n : ℕ) (rows : List RowOut) → (n == 0) ≡ false → (head_total t (RowOut.Area t n ∷ rows) ≡ n) × (after_head t (RowOut.Area t n ∷ rows) ≡ rows)
  own_row n rows e = (
    (λ i. if own_tile t i && not (e i) then n else 0),
    (λ i. if own_tile t i && not (e i) then rows else (RowOut.Area t n ∷ rows)),
  )

  abbrev Gives : ℕ → List RowOut → List RowOut → Type 0
  Gives n rows rest = (head_total t rows ≡ n) × (after_head t rows ≡ rest)

  gives_at : (n : ℕ) (rows : List RowOut) → Stands rows → Gives n (cons_option (row_of_total t n) rows) rows
  gives_at n rows rest = ⊎_elim
      (λ (e : n ≡ 0). let b = eq-eqb n 0 e in (
        ap (λ c. head_total t (cons_option (if c then None else Some (RowOut.Area t n)) rows)) b ∙ rest.0 ∙ sym e,
        ap (λ c. after_head t (cons_option (if c then None else Some (RowOut.Area t n)) rows)) b ∙ rest.1,
      ))
      (λ (ne : n ≡ 0 → ⊥). let b = ne_eqb n 0 ne in (
        ap (λ c. head_total t (cons_option (if c then None else Some (RowOut.Area t n)) rows)) b ∙ (own_row n rows b).0,
        ap (λ c. after_head t (cons_option (if c then None else Some (RowOut.Area t n)) rows)) b ∙ (own_row n rows b).1,
      ))
      (cases_eq n 0)

  pub gives_first : (ts : List Tile) → apart t ts → Gives (f t) (areas_of f (t ∷ ts)) (areas_of f ts)
  gives_first ts all = gives_at (f t) (areas_of f ts) (stands ts all)

left_none : (f : Tile → ℕ) (ts : List Tile) → once_each ts → left_after ts (areas_of f ts) ≡ []
unfolding left_after
left_none f [] all = refl
left_none f (t ∷ ts) (here, rest) = ap (left_after ts) (gives_first f t ts here).1 ∙ left_none f ts rest

both_areas : (f g h : Tile → ℕ) → ((t : Tile) → f t + g t ≡ h t) → (ts : List Tile) → once_each ts → areas_of_both ts (areas_of f ts) (areas_of g ts) ≡ areas_of h ts
unfolding areas_of_both
both_areas f g h each [] all = refl
both_areas f g h each (t ∷ ts) (here, rest) =
    let a = gives_first f t ts here in
    let b = gives_first g t ts here in
    (λ i. cons_option (row_of_total t (a.0 i + b.0 i)) (areas_of_both ts (a.1 i) (b.1 i)))
    ∙ (λ i. cons_option (row_of_total t (each t i)) (both_areas f g h each ts rest i))

-- the rows of maps of totals that add up add up
pub sum_areas-of : (f g h : Tile → ℕ) → ((t : Tile) → f t + g t ≡ h t) → (ts : List Tile) → once_each ts → sum_areas ts (areas_of f ts) (areas_of g ts) ≡ Some (areas_of h ts)
sum_areas-of f g h each ts all =
    (λ i. if is_none_left (left_none f ts all i) && is_none_left (left_none g ts all i) then Some (areas_of_both ts (areas_of f ts) (areas_of g ts)) else None)
    ∙ ap (λ x. Some x) (both_areas f g h each ts all)
