-- What a time table of a cube counts, bin by bin and before an end.
use Rattle.std.proofs.Common.{◌≡◌, ℕ, suc, ◌+◌, ◌<◌, Bool, true, false, cond, ◌&&◌, eqb, ltb, All, List, [], ◌∷◌, refl, sym, ◌∙◌, ap, arith}
use Rattle.std.proofs.lemmas.List.Elements.{All-nil, All-cons}
use Rattle.std.proofs.lemmas.List.Sums.{sum_by-cons}
use Rattle.cube_view.specs.Bag.{amount, gives}
use Rattle.cube_view.specs.Paths.{spot_path, steps_of}
use Rattle.cube_view.specs.Places.{is_under, is_before}
use Rattle.cube_view.specs.Points.{Point, spot_of, weight_of_point}
use Rattle.cube_view.specs.Walks.{under}
use Rattle.cube_view.specs.declared.address.Address.{Address}
use Rattle.cube_view.specs.declared.schema.Schema.{Schema}
use Rattle.cube_view.specs.declared.spot.Spot.{Spot}
use Rattle.cube_view.proofs.Amounts.{amount-nil, amount-cons}
use Rattle.time_table.specs.Counts.{BinCounts, AllCounted, count_of, count_before, amount_at}
use Rattle.time_table.proofs.AddLaws.{count_before-add_many, count_before-empty}
use Rattle.time_table.proofs.CountLaws.{same_counts}
use Rattle.time_table.proofs.AmountTables.{gathered, count_of-gathered, AllCounted-gathered}
use Rattle.node_arena.specs.Amounts.{Weighted, amount_under}
use Rattle.proper_path.specs.Paths.{point_path, paths_of}
use Rattle.cube_store.specs.Reading.{IsWalkAddress}
use Rattle.cube_store.proofs.LinkMeaning.{under-steps}
use Rattle.proper_path.proofs.SpotRemainders.{turned}
use Rattle.cube_store.proofs.SpotPaths.{IsOfSchema}

-- the spot lies under the address in the bin
abbrev pub is_under_at : Schema → Address → ℕ → Spot → Bool
is_under_at z a bin s = is_under z a s && eqb s.bin bin

-- what lies under the steps of an address in a bin is what lies under the address there
pub amount_steps : (z : Schema) (a : Address) → IsWalkAddress z a → (h : List Point) → All (λ p. IsOfSchema z (spot_of p)) h → (bin : ℕ) → amount_under (paths_of z h) (steps_of a) bin ≡ amount (is_under_at z a bin) h
amount_steps z a W [] all bin = sym (amount-nil (is_under_at z a bin))
amount_steps z a W (p ∷ h) all bin =
    let rest = amount_steps z a W h (λ i d lt. all (suc i) d (omega (arith, lt))) bin in
    let P : IsOfSchema z (spot_of p) = all 0 p (omega arith) in
    let b = sum_by-cons (λ (w : Weighted). cond (under w.spot (steps_of a) && eqb w.spot.bin bin) w.amount 0) (point_path z p) (paths_of z h) in
    let c = amount-cons (is_under_at z a bin) p h in
    let first : cond (under (spot_path z (spot_of p)) (steps_of a) && eqb (spot_of p).bin bin) (weight_of_point p) 0 ≡ gives (is_under_at z a bin) p = ap (λ (t : Bool). cond (t && eqb (spot_of p).bin bin) (weight_of_point p) 0) (under-steps z a W (spot_of p) P.fits) in
    omega (arith, rest, b, c, first)

-- the weights of the points under an address, each in its bin
abbrev pub weights_under : Schema → Address → List Point → List (ℕ × ℕ)
weights_under z a [] = []
weights_under z a (p ∷ h) = cond (is_under z a (spot_of p)) (((spot_of p).bin, weight_of_point p) ∷ weights_under z a h) (weights_under z a h)

module _ (z : Schema) (a : Address) where
  amount_at-under : (h : List Point) (bin : ℕ) → amount_at bin (weights_under z a h) ≡ amount (is_under_at z a bin) h
  amount_at-under [] bin = sym (amount-nil (is_under_at z a bin))
  amount_at-under (p ∷ h) bin = go (is_under z a (spot_of p)) refl (amount-cons (is_under_at z a bin) p h) (amount_at-under h bin)
    where
      go : (b : Bool) → is_under z a (spot_of p) ≡ b → amount (is_under_at z a bin) (p ∷ h) ≡ gives (is_under_at z a bin) p + amount (is_under_at z a bin) h → amount_at bin (weights_under z a h) ≡ amount (is_under_at z a bin) h → amount_at bin (cond b (((spot_of p).bin, weight_of_point p) ∷ weights_under z a h) (weights_under z a h)) ≡ amount (is_under_at z a bin) (p ∷ h)
      go true e c rest =
          let s = sum_by-cons (λ (w : ℕ × ℕ). cond (eqb bin w.0) w.1 0) ((spot_of p).bin, weight_of_point p) (weights_under z a h) in
          let first : cond (eqb bin (spot_of p).bin) (weight_of_point p) 0 ≡ gives (is_under_at z a bin) p =
          ap (λ (t : Bool). cond t (weight_of_point p) 0) (turned bin (spot_of p).bin) ∙ sym (ap (λ (t : Bool). cond (t && eqb (spot_of p).bin bin) (weight_of_point p) 0) e) in
          omega (arith, rest, c, s, first)
      go false e c rest =
          let first : gives (is_under_at z a bin) p ≡ 0 = ap (λ (t : Bool). cond (t && eqb (spot_of p).bin bin) (weight_of_point p) 0) e in
          omega (arith, rest, c, first)

  before-under : (h : List Point) (end : ℕ) → count_before (gathered (weights_under z a h)) end ≡ amount (is_before z a end) h
  before-under [] end = count_before-empty end ∙ sym (amount-nil (is_before z a end))
  before-under (p ∷ h) end = go (is_under z a (spot_of p)) refl (amount-cons (is_before z a end) p h) (before-under h end)
    where
      go : (b : Bool) → is_under z a (spot_of p) ≡ b → amount (is_before z a end) (p ∷ h) ≡ gives (is_before z a end) p + amount (is_before z a end) h → count_before (gathered (weights_under z a h)) end ≡ amount (is_before z a end) h → count_before (gathered (cond b (((spot_of p).bin, weight_of_point p) ∷ weights_under z a h) (weights_under z a h))) end ≡ amount (is_before z a end) (p ∷ h)
      go true e c rest =
          let s = count_before-add_many (gathered (weights_under z a h)) (spot_of p).bin (weight_of_point p) end in
          let first : gives (is_before z a end) p ≡ cond (ltb (spot_of p).bin end) (weight_of_point p) 0 = ap (λ (t : Bool). cond (t && ltb (spot_of p).bin end) (weight_of_point p) 0) e in
          omega (arith, rest, c, s, first)
      go false e c rest =
          let first : gives (is_before z a end) p ≡ 0 = ap (λ (t : Bool). cond (t && ltb (spot_of p).bin end) (weight_of_point p) 0) e in
          omega (arith, rest, c, first)

  weights-some : (h : List Point) → All (λ p. 0 < weight_of_point p) h → All (λ (w : ℕ × ℕ). 0 < w.1) (weights_under z a h)
  weights-some [] all = All-nil (λ (w : ℕ × ℕ). 0 < w.1)
  weights-some (p ∷ h) all = go (is_under z a (spot_of p)) (weights-some h (λ i d lt. all (suc i) d (omega (arith, lt))))
    where
      go : (b : Bool) → All (λ (w : ℕ × ℕ). 0 < w.1) (weights_under z a h) → All (λ (w : ℕ × ℕ). 0 < w.1) (cond b (((spot_of p).bin, weight_of_point p) ∷ weights_under z a h) (weights_under z a h))
      go true rest = All-cons (λ (w : ℕ × ℕ). 0 < w.1) ((spot_of p).bin, weight_of_point p) (weights_under z a h) (all 0 p (omega arith)) rest
      go false rest = rest

  -- a table that has in each bin what the list has under the address there counts before each end what the list has
  pub before_total : (m : BinCounts) (h : List Point) → AllCounted m → All (λ p. 0 < weight_of_point p) h → ((bin : ℕ) → count_of m bin ≡ amount (is_under_at z a bin) h) → (end : ℕ) → count_before m end ≡ amount (is_before z a end) h
  before_total m h counted some same end =
      ap (λ (k : BinCounts). count_before k end)
      (same_counts m (gathered (weights_under z a h)) counted (AllCounted-gathered (weights_under z a h) (weights-some h some)) (λ bin. same bin ∙ (sym (amount_at-under h bin) ∙ sym (count_of-gathered (weights_under z a h) bin))))
      ∙ before-under h end
