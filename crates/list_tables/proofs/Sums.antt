-- The totals of rows, as points are gone through.
use Rattle.std.proofs.Common.{◌≡◌, ℕ, ◌+◌, ◌<◌, List, [], length, take, get_or, set, refl, sym, ◌∙◌, subst, arith, ⊎_elim}
use Rattle.std.specs.Prelude.{◌^◌, IfSome, Option, Some, None}
use Rattle.std.proofs.lemmas.Bool.{cases_eq, eq-eqb, ne_eqb}
use Rattle.std.proofs.lemmas.List.{length-set, get_or-set_same, get_or-set_other}
use Rattle.cube_view.specs.Bag.{amount, anywhere}
use Rattle.cube_view.specs.Points.{Point, spot_of, weight_of_point}
use Rattle.cube_view.specs.declared.schema.Schema.{Schema}
use Rattle.list_tables.specs.Cells.{cell_box, is_at}
use Rattle.list_tables.specs.Totals.{with_one_more, AreRowSums, HasPlace}
use Rattle.list_tables.specs.declared.cells.Cells.{Cells}
use Rattle.query_syntax.proofs.BoxSteps.{total_nothing, total_more, total_same, total_light}
use Rattle.query_syntax.specs.Boxes.{inside, total}
use Rattle.query_syntax.specs.declared.query.Query.{Query}

module _ (z : Schema) (q : Query) (cells : Cells) (count : ℕ) where
  -- of no points
  pub totals_none : (totals : List ℕ) → length totals ≡ count → ((i : ℕ) → i < count → get_or totals i 0 ≡ 0) → AreRowSums z q cells count [] totals
  totals_none totals many zeros = record { many = many; each = λ i lt. zeros i lt ∙ total_nothing z (cell_box q cells i) }

  module _ (h : List Point) (j : ℕ) (d : Point) (totals : List ℕ) (lt : j < length h) (so_far : AreRowSums z q cells count (take j h) totals) where
    -- the point's weight
    abbrev weight : ℕ
    weight = weight_of_point (get_or h j d)

    -- what was found is the number of the point's row
    abbrev pub IsRowOf : Option ℕ → Type 0
    IsRowOf found = (i : ℕ) → i < count → inside z (cell_box q cells i) (spot_of (get_or h j d)) ≡ is_at found i

    -- its sum has room
    pub has_room : amount anywhere h < 2 ^ 64 → (found : Option ℕ) → IsRowOf found → IfSome found (λ c. c < count) → IfSome found (HasPlace totals weight)
    has_room light None row within = tt
    has_room light (Some c) row within =
        let here = row c within ∙ eq-eqb c c refl in
        let most = total_light z (cell_box q cells c) h j d (get_or totals c 0) lt (so_far.each c within) here in
        let many = so_far.many in
        (omega (arith, many, within), omega (arith, most, light))

    -- and gains it, and no other does
    pub one_more : (found : Option ℕ) → IsRowOf found → IfSome found (λ c. c < count) → AreRowSums z q cells count (take (j + 1) h) (with_one_more totals found weight)
    one_more None row within = record {
      many = so_far.many;
      each = λ i few. total_same z (cell_box q cells i) h j d (get_or totals i 0) lt (so_far.each i few) (row i few);
    }
    one_more (Some c) row within = record {
      many = length-set totals c n ∙ so_far.many;
      each = λ i few. ⊎_elim
          (λ (same : c ≡ i). subst (λ k. get_or (set totals c n) k 0 ≡ total z (cell_box q cells k) (take (j + 1) h)) same here)
          (λ (other : c ≡ i → ⊥). elsewhere i few other)
          (cases_eq c i);
    }
      where
        n : ℕ
        n = get_or totals c 0 + weight

        here : get_or (set totals c n) c 0 ≡ total z (cell_box q cells c) (take (j + 1) h)
        here =
            let many = so_far.many in
            get_or-set_same totals c n 0 (omega (arith, many, within)) ∙ total_more z (cell_box q cells c) h j d (get_or totals c 0) lt (so_far.each c within) (row c within ∙ eq-eqb c c refl)

        elsewhere : (i : ℕ) → i < count → (c ≡ i → ⊥) → get_or (set totals c n) i 0 ≡ total z (cell_box q cells i) (take (j + 1) h)
        elsewhere i few other =
            get_or-set_other totals c i n 0 (λ (e : i ≡ c). other (sym e))
            ∙ total_same z (cell_box q cells i) h j d (get_or totals i 0) lt (so_far.each i few) (row i few ∙ ne_eqb c i other)
